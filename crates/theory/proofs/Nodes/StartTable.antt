-- The table and the rows of the start: the table is sound, it begins with the empty node and the holes, and the rows unfold to the automaton's.
use Prim.Native.Nat.{ℕ, zero, suc, ◌<◌, ◌≤◌}
use native.Mathlib.Omega.{arith}
use native.Mathlib.Decide.{dec_lt}
use mathlib.Core.Path.{◌≡◌, refl, sym, ◌∙◌, ap, ap₂}
use mathlib.Core.List.{List, [], ◌∷◌, ◌++◌, map, map-append}
use lib.ListN.{length, length-append}
use Rattle.automaton.specs.Held.{Rule, Held, ValidRule, Valid}
use Rattle.ground.specs.Lists.{All}
use Rattle.meaning.specs.Expressions.{holeᴱ, symbolᴱ, ◌∷ᴱ◌}
use Rattle.expressions.specs.declared.Shape.{Shape}
use Rattle.expressions.specs.Nodes.{Table, symbol_of, label_of, empty_shape, hole_shape, children}
use Rattle.expressions.specs.Unfolding.{exprs_of, built_of, built, expr_at}
use Rattle.expressions.specs.Soundness.{SoundNodes, completed}
use Rattle.automaton.proofs.Files.FileOf.{all-get}
use Rattle.ground.proofs.Lists.{all_map, to-all, all_append}
use Rattle.expressions.proofs.Unfolding.{built-empty, built-hole}
use Rattle.expressions.proofs.Soundness.{sound_none}
use Rattle.expressions.proofs.Making.{empty-fits, hole-fits, label-symbol}
use Rattle.theory.specs.RowLists.{final_target, final_states}
use Rattle.theory.proofs.Expressions.OnExpressions.{holesᴱ, rule_row, final_row, start_rows}
use Rattle.theory.specs.Stages.{unfolded_row, with_node, hole_at, holes_table, rule_shape, rules_table, start_table, rule_rows, final_node_row, start, added}
use Rattle.theory.proofs.Nodes.Grows.{grown-none, grown-then, grown-longer, grown-expr}
use Rattle.theory.proofs.Expressions.Start.{of-finals}
use Rattle.theory.proofs.Nodes.Fitting.{rule_fits, rule-children}
use Rattle.theory.proofs.Nodes.Mirror.{Mirrors, added-mirrors, Begins, begins-grown}
use Rattle.theory.proofs.Nodes.MirrorRows.{LowRows, MirrorsRows}

pub with-length : (table : Table) (shape : Shape) → length (with_node table shape) ≡ suc (length table)
with-length table shape = omega (arith, length-append table (completed table shape ∷ []))

-- ---- nodes 0 to n

pub record HolesTable (n : ℕ) (table : Table) : Type 0 where
  pub sound : SoundNodes table
  pub begins : Begins n table
  pub count : length table ≡ suc n

pub holes-table : (n : ℕ) → n ≤ 16 → HolesTable n (holes_table n)
unfolding holes_table
holes-table zero few =
    let m = added-mirrors [] empty_shape sound_none (empty-fits 0) in
    record {
      sound = m.sound;
      begins =
          record {
            some_node = m.low;
            empty_first = m.is ∙ built-empty (expr_at []);
            hole_low = λ q h. absurd (omega arith);
            hole_is = λ q h. absurd (omega arith);
          };
      count = with-length [] empty_shape;
    }
holes-table (suc k) few = more k few (holes-table k (omega arith))
  where
    more : (k : ℕ) → suc k ≤ 16 → HolesTable k (holes_table k) → HolesTable (suc k) (with_node (holes_table k) (hole_shape k))
    more k few t =
        let m = added-mirrors (holes_table k) (hole_shape k) t.sound (hole-fits (length (holes_table k)) k few) in
        let b = begins-grown m.grown t.begins in
        let z = t.count in
        let l = with-length (holes_table k) (hole_shape k) in
        let e : expr_at (with_node (holes_table k) (hole_shape k)) (suc k) ≡ holeᴱ k = ap (expr_at (with_node (holes_table k) (hole_shape k))) (sym z) ∙ m.is ∙ built-hole (expr_at (holes_table k)) k in
        record {
          sound = m.sound;
          begins =
              record {
                some_node = b.some_node;
                empty_first = b.empty_first;
                hole_low = λ q h. omega arith;
                hole_is = λ q h. last q h (dec_lt q k) b e;
              };
          count = omega arith;
        }
      where
        last : (q : ℕ) → q < suc k → Dec (q < k) → Begins k (with_node (holes_table k) (hole_shape k)) → expr_at (with_node (holes_table k) (hole_shape k)) (suc k) ≡ holeᴱ k
            → expr_at (with_node (holes_table k) (hole_shape k)) (suc q) ≡ holeᴱ q
        last q h (yes l) b e = b.hole_is q l
        last q h (no l) b e = let i : q ≡ k = omega arith in rw i e

-- ---- one symbol node per row

-- what a file's row keeps
record Ruled (n : ℕ) (rule : Rule) : Type 0 where
  known : rule.symbol < 32
  few : length rule.sources ≤ 3
  low : All (λ q. q < n) rule.sources

holes-low : (n : ℕ) (table : Table) → Begins n table → (qs : List ℕ) → All (λ q. q < n) qs → All (λ c. c < length table) (map hole_at qs)
holes-low n table b [] a = tt
holes-low n table b (q ∷ qs) a = (b.hole_low q a.0, holes-low n table b qs a.1)

holes-are : (n : ℕ) (table : Table) → Begins n table → (qs : List ℕ) → All (λ q. q < n) qs → exprs_of (map (expr_at table) (map hole_at qs)) ≡ holesᴱ qs
unfolding exprs_of holesᴱ
holes-are n table b [] a = refl
holes-are n table b (q ∷ qs) a = ap₂ ◌∷ᴱ◌ (b.hole_is q a.0) (holes-are n table b qs a.1)

rule-is : (n : ℕ) (table : Table) (rule : Rule) → Begins n table → Ruled n rule → built (expr_at table) (rule_shape rule) ≡ (rule_row rule).expr
unfolding built built_of rule_shape
rule-is n table rule b k =
    by-children (rule-children rule k.known k.few)
    ∙ ap₂ symbolᴱ (label-symbol rule.symbol (length rule.sources) (let h = k.known in omega arith)) (holes-are n table b rule.sources k.low)
  where
    by-children : children (rule_shape rule) ≡ map hole_at rule.sources
        → built (expr_at table) (rule_shape rule) ≡ symbolᴱ (symbol_of (label_of rule.symbol (length rule.sources))) (exprs_of (map (expr_at table) (map hole_at rule.sources)))
    by-children e = ap (λ (cs : List ℕ). symbolᴱ (symbol_of (label_of rule.symbol (length rule.sources))) (exprs_of (map (expr_at table) cs))) e

rule-mirrors : (n : ℕ) (table : Table) (rule : Rule) → Begins n table → SoundNodes table → Ruled n rule → Mirrors table (added table (rule_shape rule)) (rule_row rule).expr
rule-mirrors n table rule b s k =
    rw (← (rule-is n table rule b k)) (added-mirrors table (rule_shape rule) s (rule_fits (length table) rule k.known k.few (holes-low n table b rule.sources k.low)))

rules-mirror : (n : ℕ) (table : Table) (number : ℕ) (rules : List Rule) → number ≡ length table → Begins n table → SoundNodes table → All (Ruled n) rules
    → MirrorsRows table (record { table = rules_table table rules; rows = rule_rows number rules }) (map rule_row rules)
unfolding rules_table rule_rows
rules-mirror n table number [] e b s a = record { grown = grown-none table; sound = s; low = tt; is = refl }
rules-mirror n table number (rule ∷ rules) e b s a =
    let m = rule-mirrors n table rule b s a.0 in
    let next = with_node table (rule_shape rule) in
    let r = rules-mirror n next (suc number) rules (omega (arith, with-length table (rule_shape rule))) (begins-grown m.grown b) m.sound a.1 in
    let l = grown-longer r.grown in
    let k = with-length table (rule_shape rule) in
    let h : number < length next = omega arith in
    record {
      grown = grown-then m.grown r.grown;
      sound = r.sound;
      low = (omega arith, r.low);
      is = ap₂ ◌∷◌ (λ i. record { expr = (grown-expr r.grown number h ∙ ap (expr_at next) e ∙ m.is) i; target = rule.target }) r.is;
    }

-- ---- the rows of the final states

finals-are : (n : ℕ) (table : Table) → Begins n table → (qs : List ℕ) → All (λ q. q < n) qs → map (unfolded_row table) (map final_node_row qs) ≡ map final_row qs
finals-are n table b [] a = refl
finals-are n table b (q ∷ qs) a = ap₂ ◌∷◌ (λ i. record { expr = b.hole_is q a.0 i; target = final_target }) (finals-are n table b qs a.1)

finals-low : (n : ℕ) (table : Table) → Begins n table → (qs : List ℕ) → All (λ q. q < n) qs → LowRows table (map final_node_row qs)
finals-low n table b [] a = tt
finals-low n table b (q ∷ qs) a = (b.hole_low q a.0, finals-low n table b qs a.1)

-- ---- the start

module _ (held : Held) (v : Valid held) where
  rules-ruled : All (Ruled held.states) held.rules
  rules-ruled = all_map held.rules (λ rule k. ruled rule k) v.valid_rules
    where
      ruled : (rule : Rule) → ValidRule held.states held.arities rule → Ruled held.states rule
      ruled rule k =
          let h = k.known in
          let l = v.few_symbols in
          let e = k.suited in
          let m = all-get (λ a. a ≤ 3) held.arities rule.symbol (omega arith) v.small_arities in
          record { known = omega arith; few = omega arith; low = k.sourced }

  finals-states : All (λ q. q < held.states) (final_states held)
  finals-states = to-all (λ q. q < held.states) (final_states held) (λ q m. (of-finals held q m).0)

  pub start-mirrors : MirrorsRows (holes_table held.states) (start held) (start_rows held)
  unfolding start start_table start_rows
  start-mirrors =
      let t = holes-table held.states v.few_states in
      let r = rules-mirror held.states (holes_table held.states) (suc held.states) held.rules (sym t.count) t.begins t.sound rules-ruled in
      let b = begins-grown r.grown t.begins in
      let table = start_table held in
      let rows = rule_rows (suc held.states) held.rules in
      record {
        grown = r.grown;
        sound = r.sound;
        low = all_append (λ row. row.node < length table) rows (map final_node_row (final_states held)) r.low (finals-low held.states table b (final_states held) finals-states);
        is = map-append (unfolded_row table) rows (map final_node_row (final_states held)) ∙ ap₂ ◌++◌ r.is (finals-are held.states table b (final_states held) finals-states);
      }

  pub start-begins : Begins held.states (start held).table
  start-begins = begins-grown start-mirrors.grown (holes-table held.states v.few_states).begins
