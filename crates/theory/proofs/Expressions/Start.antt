-- The list at the start accepts what the automaton accepts; and what is open and aimed at in it.
use Prim.Native.Nat.{ℕ, ◌<◌}
use native.Mathlib.Omega.{arith}
use native.Mathlib.Decide.{dec_lt}
use mathlib.Core.Path.{◌≡◌, refl}
use mathlib.Core.List.Memᴰ
use mathlib.Core.List.{List, [], ◌∷◌, map, Memᴰ}
use mathlib.Core.Logic.{◌⊎◌, inl, inr, ◌↔◌}
use lib.Dec.{T, eqb, eqb→eq}
use Rattle.sets.specs.Members.{has}
use Rattle.sets.proofs.Bits.{has-high}
use Rattle.automaton.specs.Held.{Rule, Held, Valid}
use Rattle.ground.specs.Lists.{All}
use Rattle.meaning.specs.Trees.{Tree, Forest, hole, node, []ᶠ, ◌∷ᶠ◌}
use Rattle.trees.specs.Runs.{Reaches, ReachesEach, Accepted}
use Rattle.meaning.specs.Fillings.{Family, Filled, FilledAll, at, under, none, both}
use Rattle.meaning.specs.Expressions.{Denotes, DenotesEach, is_open_in}
use Rattle.ground.proofs.Tests.{of-true, to-true, or_cases}
use Rattle.meaning.proofs.Fillings.{filled-hole}
use Rattle.theory.specs.RowLists.{ExprRow, ascending, final_target, final_states}
use Rattle.theory.proofs.Expressions.OnExpressions.{holesᴱ, rule_row, final_row, start_rows}
use Rattle.trees.proofs.Firing.{valid-member}
use Rattle.ground.proofs.Lists.{in-those, of-those}
use Rattle.theory.proofs.Lists.{in-ascending, of-ascending}
use Rattle.theory.proofs.Expressions.Levels.{Reached, Denoted, closed, least}
use Rattle.theory.proofs.Expressions.Step.{RowIn, RowsIn}

-- ---- the final states

pub of-finals : (held : Held) (q : ℕ) → Memᴰ q (final_states held) → (q < held.states) × T (has held.finals q)
unfolding final_states
of-finals held q m = let c = of-those (has held.finals) (ascending held.states) m in (of-ascending held.states q c.0, c.1)

pub in-finals : (held : Held) (q : ℕ) → q < held.states → T (has held.finals q) → Memᴰ q (final_states held)
unfolding final_states
in-finals held q h w = in-those (has held.finals) (ascending held.states) (in-ascending held.states q h) w

-- no final bit stands past the count of states
pub final-low : (held : Held) → Valid held → (q : ℕ) → T (has held.finals q) → q < held.states
final-low held v q w = go (dec_lt q held.states)
  where
    go : Dec (q < held.states) → q < held.states
    go (yes h) = h
    go (no n) = absurd (rw (has-high held.states held.finals q v.finals_within (omega arith)) at w)

-- ---- the rows of the start

-- the two kinds of row
data StartRow (held : Held) (row : ExprRow) : Type 0 where
  of_rule : (rule : Rule) → Memᴰ rule held.rules → rule_row rule ≡ row → StartRow held row
  of_final : (q : ℕ) → Memᴰ q (final_states held) → final_row q ≡ row → StartRow held row

start-row : (held : Held) (row : ExprRow) → Memᴰ row (start_rows held) → StartRow held row
unfolding start_rows
start-row held row m = go (Memᴰ.append_cases (map rule_row held.rules) m)
  where
    go : Memᴰ row (map rule_row held.rules) ⊎ Memᴰ row (map final_row (final_states held)) → StartRow held row
    go (inl n) = let c = Memᴰ.of_map rule_row held.rules n in of_rule c.0 c.1 c.2
    go (inr n) = let c = Memᴰ.of_map final_row (final_states held) n in of_final c.0 c.1 c.2

rule-in : (held : Held) (rule : Rule) → Memᴰ rule held.rules → Memᴰ (rule_row rule) (start_rows held)
unfolding start_rows
rule-in held rule m = Memᴰ.append_left (map final_row (final_states held)) (Memᴰ.map rule_row m)

final-in : (held : Held) (q : ℕ) → Memᴰ q (final_states held) → Memᴰ (final_row q) (start_rows held)
unfolding start_rows
final-in held q m = Memᴰ.append_right (map rule_row held.rules) (Memᴰ.map final_row m)

module _ (held : Held) (v : Valid held) where
  -- ---- what the list accepts, the automaton does

  -- toward a state, what it reaches; toward 16, what is accepted
  Run : Family
  Run r t = Reaches held.rules t r ⊎ ((r ≡ final_target) × Accepted held t)

  run-state : (r : ℕ) (t : Tree) → r < held.states → Run r t → Reaches held.rules t r
  unfolding Run
  run-state r t h (inl x) = x
  run-state r t h (inr x) = let e = x.0 in let l = v.few_states in absurd (omega arith)

  each_of : (qs : List ℕ) (ss ts : Forest) → All (λ q. q < held.states) qs → DenotesEach (holesᴱ qs) ss → FilledAll Run ss ts → ReachesEach held.rules ts qs
  unfolding holesᴱ
  each_of [] ss ts a d none = tt
  each_of [] ss ts a d (both x xs) = absurd (let z : ◌≡◌ {A = ℕ} 0 1 = cc in omega arith)
  each_of (q ∷ qs) ss ts a d none = absurd (let e = d.2 in let z : ◌≡◌ {A = ℕ} 0 1 = cc in omega arith)
  each_of (q ∷ qs) ss ts a d (both {s} {t} {ss = us} {ts = ws} x xs) =
      let e = d.2 in
      let e' = d.3 in
      let i : s ≡ hole q = cc in
      let j : us ≡ d.1 = cc in
      (run-state q t a.0 (filled-hole Run q s t i x), each_of qs us ws a.1 (rw j d.4) xs)

  rule-run : (rule : Rule) → Memᴰ rule held.rules → (s t : Tree) → Denotes (rule_row rule).expr s → Filled Run s t → Reaches held.rules t rule.target
  rule-run rule m s t d (at x) = absurd (let e = d.1 in let z : ◌≡◌ {A = ℕ} 0 1 = cc in omega arith)
  rule-run rule m s t d (under {f} {ss} {ts} xs) =
      let e = d.1 in
      let i : ss ≡ d.0 = cc in
      (rule, m, (cc), refl, each_of rule.sources ss ts (valid-member held v rule m).sourced (rw i d.2) xs)

  row-run : (row : ExprRow) (s t : Tree) → StartRow held row → Denotes row.expr s → Filled Run s t → Run row.target t
  unfolding Run
  row-run row s t (of_rule rule m e) d f = inl (rw (← e) (rule-run rule m s t (rw (← e) at d) f))
  row-run row s t (of_final q m e) d f =
      let c = of-finals held q m in
      rw (← e) (inr (refl, (q, to-true (has held.finals q) c.1, run-state q t c.0 (filled-hole Run q s t (rw (← e) at d) f))))

  of-start : (t : Tree) → Reached (Denoted (start_rows held)) final_target t → Accepted held t
  unfolding Run
  of-start t x = go (least (Denoted (start_rows held)) Run (λ r s t d f. rw (← d.2) (row-run d.0 s t (start-row held d.0 d.1) d.3 f)) final_target t x)
    where
      low : (t : Tree) → Reaches held.rules t final_target → ⊥
      low (hole p) y = y
      low (node f ts) y = let h = (valid-member held v y.0 y.1).aimed in let l = v.few_states in let e = y.3 in omega arith

      go : Run final_target t → Accepted held t
      go (inl y) = absurd (low t y)
      go (inr y) = y.1

  -- ---- what the automaton accepts, the list does

  holes-of : List ℕ → Forest
  holes-of [] = []ᶠ
  holes-of (q ∷ qs) = hole q ∷ᶠ holes-of qs

  denotes-holes : (qs : List ℕ) → DenotesEach (holesᴱ qs) (holes-of qs)
  unfolding holesᴱ holes-of
  denotes-holes [] = refl
  denotes-holes (q ∷ qs) = (hole q, holes-of qs, refl, refl, denotes-holes qs)

  mutual
    unfolding holes-of

    reached : (t : Tree) (r : ℕ) → Reaches held.rules t r → Reached (Denoted (start_rows held)) r t
    reached (hole p) r x = absurd x
    reached (node f ts) r x =
        closed {s = node f (holes-of x.0.sources)}
        (rule_row x.0, rule-in held x.0 x.1, x.3, (holes-of x.0.sources, rw x.2, denotes-holes x.0.sources))
        (under (reached-each ts x.0.sources x.4))

    reached-each : (ts : Forest) (qs : List ℕ) → ReachesEach held.rules ts qs → FilledAll (Reached (Denoted (start_rows held))) (holes-of qs) ts
    reached-each []ᶠ [] x = none
    reached-each []ᶠ (q ∷ qs) x = absurd x
    reached-each (t ∷ᶠ ts) [] x = absurd x
    reached-each (t ∷ᶠ ts) (q ∷ qs) x = both (at (reached t q x.0)) (reached-each ts qs x.1)

  to_start : (t : Tree) → Accepted held t → Reached (Denoted (start_rows held)) final_target t
  to_start t x =
      let w = of-true x.1 in
      closed {s = hole x.0} (final_row x.0, final-in held x.0 (in-finals held x.0 (final-low held v x.0 w) w), refl, refl) (at (reached t x.0 x.2))

  pub start-accepts : (t : Tree) → Reached (Denoted (start_rows held)) final_target t ↔ Accepted held t
  start-accepts t = (of-start t, to_start t)

  -- ---- what is open, and aimed at

  holes-open : (qs : List ℕ) (p : ℕ) → All (λ q. q < held.states) qs → T (is_open_in (holesᴱ qs) p) → p < held.states
  unfolding holesᴱ
  holes-open [] p a w = absurd w
  holes-open (q ∷ qs) p a w = go (or_cases (eqb p q) (is_open_in (holesᴱ qs) p) w) (holes-open qs p a.1)
    where
      go : T (eqb p q) ⊎ T (is_open_in (holesᴱ qs) p) → (T (is_open_in (holesᴱ qs) p) → p < held.states) → p < held.states
      go (inl w) k = let e = eqb→eq p q w in let h = a.0 in omega arith
      go (inr w) k = k w

  pub start-in : RowsIn (λ r. (r < held.states) ⊎ (r ≡ final_target)) (λ p. p < held.states) (start_rows held)
  start-in row m = go (start-row held row m)
    where
      go : StartRow held row → RowIn (λ r. (r < held.states) ⊎ (r ≡ final_target)) (λ p. p < held.states) row
      go (of_rule rule n e) = rw (← e) (record { aimed = inl (valid-member held v rule n).aimed; opened = λ p w. holes-open rule.sources p (valid-member held v rule n).sourced w })
      go (of_final q n e) = rw (← e) (record { aimed = inr refl; opened = λ p w. let i = eqb→eq p q w in let h = (of-finals held q n).0 in omega arith })
