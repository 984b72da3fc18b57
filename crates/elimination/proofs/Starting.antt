-- The start of a conversion: its nodes, and its rows.
use Prim.Native.Nat.{ℕ, zero, suc, ◌+◌, ◌-◌, ◌*◌, ◌%◌, ◌<◌, ◌≤◌}
use native.Mathlib.Omega.{arith}
use native.Mathlib.Numerals.{add-one}
use Rattle.std.proofs.Common.{add-zero, zero-add}
use native.Mathlib.Nat.{mod-eq_of_lt}
use mathlib.Core.Path.{◌≡◌, refl, sym, ◌∙◌, ap, ap₂, subst}
use mathlib.Core.Bool.{true, false}
use mathlib.Core.List.{List, [], ◌∷◌, ◌++◌, map, map-append, append_assoc, append-nil}
use lib.ListN.{length, get_or, take, drop, length-map, length-append}
use lib.Seq.{drop-cons}
use Rattle.std.proofs.lemmas.List.{drop_all}
use Rattle.std.specs.Prelude.{Ok, Err}
use Rattle.automaton.specs.declared.Refused.{Refused}
use Rattle.sets.specs.Members.{has, state_width}
use Rattle.ground.specs.Lists.{All, filled, those}
use Rattle.ground.proofs.Places.{filled-get, filled-take}
use Rattle.ground.proofs.Lists.{all-at, those-append, get_or-map-inside}
use Rattle.automaton.specs.declared.Row.{Row}
use Rattle.automaton.specs.declared.Automaton.{Automaton}
use Rattle.automaton.specs.Held.{Rule, ValidRule}
use Rattle.automaton.specs.Answers.{placed_row, unused_row, placed, held_by}
use Rattle.automaton.specs.Handed.{Handed}
use Rattle.expressions.specs.declared.Shape.{Shape}
use Rattle.expressions.specs.Nodes.{Table, label_of, empty_shape, hole_shape, symbol_shape}
use Rattle.expressions.specs.Soundness.{Fits}
use Rattle.expressions.proofs.Making.{empty-fits, hole-fits}
use Rattle.theory.specs.declared.NodeRow.{NodeRow}
use Rattle.theory.specs.RowLists.{ascending, final_target}
use Rattle.theory.specs.Stages.{hole_at, holes_table, rule_shape, rules_table, rule_rows, final_node_row, added, with_node}
use Rattle.theory.proofs.Nodes.Grows.{Grown, grown-none, grown-then, grown-longer, with-grows, rules-grow}
use Rattle.theory.proofs.Nodes.StartTable.{with-length}
use Rattle.theory.proofs.Nodes.Turns.{holes-first, holes-next, those-none, those-take, those-skip}
use Rattle.theory.proofs.Nodes.Fitting.{rule_fits}
use Rattle.elimination.specs.declared.maker.Got.{Got}
use Rattle.elimination.specs.Inside.{NoRoom, HasTable, NodeOn, StageOn, child_of, row_shape, rules_stage}
use Rattle.elimination.proofs.Makers.{has_none}
use Rattle.elimination.proofs.Room.{less-room}

-- ---- the empty node and the holes

holes-grow : (d q : ℕ) → Grown (holes_table q) (holes_table (q + d))
holes-grow zero q = rw (add-zero q) (grown-none (holes_table q))
holes-grow (suc d) q =
    let e : q + suc d ≡ suc (q + d) = omega arith in
    rw e (grown-then (holes-grow d q) (subst (Grown (holes_table (q + d))) (sym (holes-next (q + d))) (with-grows (holes_table (q + d)) (hole_shape (q + d)))))

module _ (before : List ℕ) (after : List ℕ) where
  pub empty-put : (got : Got) → NodeOn (λ table. Fits (length table) empty_shape) (λ table. added table empty_shape) before 0 after (Ok got) → HasTable before (holes_table 0) after got.count
  empty-put got x = rw holes-first (x before [] (has_none before) (empty-fits 0)).has

  pub empty-full : (n : ℕ) (reason : Refused) → NodeOn (λ table. Fits (length table) empty_shape) (λ table. added table empty_shape) before 0 after (Err reason) → NoRoom before (holes_table n) reason
  empty-full n reason x = less-room (subst (λ (m : ℕ). Grown (holes_table 0) (holes_table m)) (zero-add n) (holes-grow n 0)) (rw holes-first (x before [] (has_none before) (empty-fits 0)))

module _ (n : ℕ) (few : n ≤ state_width) (before words : List ℕ) (count q : ℕ) (l : HasTable before (holes_table q) words count) (h : q < n) (after : List ℕ) where
  pub holes-more : (got : Got) → NodeOn (λ table. Fits (length table) (hole_shape q)) (λ table. added table (hole_shape q)) words count after (Ok got) → HasTable before (holes_table (q + 1)) after got.count
  holes-more got x =
      subst (λ (t : Table). HasTable before t after got.count) (sym (holes-next q) ∙ ap holes_table (sym (add-one q)))
      (x before (holes_table q) l (hole-fits (length (holes_table q)) q (omega arith))).has

  pub holes-full : (reason : Refused) → NodeOn (λ table. Fits (length table) (hole_shape q)) (λ table. added table (hole_shape q)) words count after (Err reason) → NoRoom before (holes_table n) reason
  holes-full reason x =
      let e : suc q + (n - suc q) ≡ n = omega arith in
      less-room (subst (λ (m : ℕ). Grown (holes_table (suc q)) (holes_table m)) e (holes-grow (n - suc q) (suc q)))
      (subst (λ (t : Table). NoRoom before t reason) (sym (holes-next q)) (x before (holes_table q) l (hole-fits (length (holes_table q)) q (omega arith))))

-- ---- the shape of a rule's node

shape_is : (rule : Rule) → length rule.sources ≤ 3 → row_shape (placed_row rule) (length rule.sources) ≡ rule_shape rule
unfolding row_shape placed_row rule_shape label_of filled
shape_is rule h = go rule.sources h
  where
    go : (qs : List ℕ) → length qs ≤ 3 → row_shape (placed_row (record { symbol = rule.symbol; target = rule.target; sources = qs })) (length qs) ≡ rule_shape (record { symbol = rule.symbol; target = rule.target; sources = qs })
    go [] l = refl
    go (a ∷ []) l = refl
    go (a ∷ b ∷ []) l = refl
    go (a ∷ b ∷ c ∷ []) l = refl
    go (a ∷ b ∷ c ∷ d ∷ qs) l = absurd (omega arith)

pub row-shape : (row : Row) (arity symbol a b c : ℕ) → symbol ≡ row.symbol → a ≡ child_of 0 arity (get_or row.sources 0 0) → b ≡ child_of 1 arity (get_or row.sources 1 0) → c ≡ child_of 2 arity (get_or row.sources 2 0)
    → symbol_shape (symbol + 256 * arity) a b c ≡ row_shape row arity
unfolding row_shape label_of
row-shape row arity symbol a b c e f g h = λ i. symbol_shape (e i + 256 * arity) (f i) (g i) (h i)

-- ---- what a value's places are

-- what stands for a rule, and for a row, past the last
abbrev no_rule : Rule
no_rule = record { symbol = 0; target = 0; sources = [] }

abbrev past_row : Row
past_row = record { symbol = 0; target = 0; sources = [] }

module _ (value : Automaton) (handed : Handed value) where
  pub rules-count : value.count ≡ length (held_by value).rules
  unfolding placed
  rules-count = ap (λ (v : Automaton). v.count) handed.is

  rows_same : value.rows ≡ filled 64 unused_row (map placed_row (held_by value).rules)
  unfolding placed
  rows_same = ap (λ (v : Automaton). v.rows) handed.is

  arities-same : value.arities ≡ filled 32 0 (held_by value).arities
  unfolding placed
  arities-same = ap (λ (v : Automaton). v.arities) handed.is

  -- the rules as the code reads them
  pub rules-few : value.count ≤ 64
  rules-few = let f = handed.valid.few_rules in omega (arith, rules-count)

  pub rules-read : take value.count value.rows ≡ map placed_row (held_by value).rules
  rules-read =
      let rows = map placed_row (held_by value).rules in
      ap (take value.count) rows_same ∙ filled-take 64 unused_row rows value.count (rules-count ∙ sym (length-map (held_by value).rules placed_row))

  -- rule i
  module _ (items : List Row) (read : items ≡ map placed_row (held_by value).rules) (i : ℕ) (h : i < length items) where
    rule : Rule
    rule = get_or (held_by value).rules i no_rule

    row : Row
    row = get_or items i past_row

    rule-in : i < length (held_by value).rules
    rule-in = omega (arith, ap length read, length-map (held_by value).rules placed_row)

    rule-valid : ValidRule (held_by value).states (held_by value).arities rule
    unfolding rule
    rule-valid = all-at (ValidRule (held_by value).states (held_by value).arities) (held_by value).rules handed.valid.valid_rules i no_rule rule-in

    row_is : row ≡ placed_row rule
    unfolding row rule
    row_is = ap (λ (l : List Row). get_or l i past_row) read ∙ get_or-map-inside placed_row (held_by value).rules i no_rule past_row rule-in

    symbol-is : row.symbol ≡ rule.symbol
    unfolding placed_row
    symbol-is = ap (λ (r : Row). r.symbol) row_is

    target_is : row.target ≡ rule.target
    unfolding placed_row
    target_is = ap (λ (r : Row). r.target) row_is

    arity-is : get_or value.arities row.symbol 0 ≡ length rule.sources
    arity-is =
        ap₂ (λ (l : List ℕ) (s : ℕ). get_or l s 0) arities-same symbol-is ∙ filled-get 32 0 (held_by value).arities rule.symbol rule-valid.known 0 ∙ sym rule-valid.suited

    sources-few : length rule.sources ≤ 3
    sources-few =
        let a = all-at (λ a. a ≤ 3) (held_by value).arities handed.valid.small_arities rule.symbol 0 rule-valid.known in
        omega (arith, rule-valid.suited)

    pub rule-symbol : (get_or items i past_row).symbol < 32
    unfolding row
    rule-symbol = let a = rule-valid.known in let b = handed.valid.few_symbols in omega (arith, symbol-is)

    pub rule-arity : get_or value.arities (get_or items i past_row).symbol 0 ≤ 3
    unfolding row
    rule-arity = let a = sources-few in omega (arith, arity-is)

    rule-fit : (number : ℕ) → (held_by value).states < number → Fits number (rule_shape rule)
    rule-fit number m =
        rule_fits number rule (let a = rule-valid.known in let b = handed.valid.few_symbols in omega arith) sources-few (holes rule.sources rule-valid.sourced)
      where
        holes : (qs : List ℕ) → All (λ q. q < (held_by value).states) qs → All (λ c. c < number) (map hole_at qs)
        holes [] a = tt
        holes (q ∷ qs) a = ((let b = a.0 in omega arith), holes qs a.1)

    -- the rules from this one on
    from-rule : drop i (held_by value).rules ≡ rule ∷ drop (i + 1) (held_by value).rules
    unfolding rule
    from-rule = drop-cons (held_by value).rules i no_rule rule-in ∙ ap (λ (m : ℕ). get_or (held_by value).rules i no_rule ∷ drop m (held_by value).rules) (sym (add-one i))

-- ---- the nodes and the rows of the rules

abbrev RuleSuits : Automaton → Table → Type 0
RuleSuits value table = (held_by value).states < length table

-- the table and the list so far: with the rules from here on they come to what is asked
pub record RulesSoFar (value : Automaton) (before : List ℕ) (table : Table) (rest : List Rule) (words : List ℕ) (count : ℕ) (list : List NodeRow) : Type 0 where
  pub made : Table
  pub grew : Grown table made
  pub has : HasTable before made words count
  pub still_table : rules_table made rest ≡ rules_table table (held_by value).rules
  pub still_rows : list ++ rule_rows (length made) rest ≡ rule_rows (length table) (held_by value).rules

pub record RuleLoop (value : Automaton) (first : List ℕ) (begun : ℕ) (words : List ℕ) (count : ℕ) (list : List NodeRow) (i : ℕ) : Type 0 where
  pub far : length list ≡ i
  pub goes : (before : List ℕ) (table : Table) → HasTable before table first begun → RuleSuits value table → RulesSoFar value before table (drop i (held_by value).rules) words count list

module _ (value : Automaton) (handed : Handed value) (items : List Row) (read : items ≡ map placed_row (held_by value).rules) (first : List ℕ) (begun : ℕ) where
  pub rules-start : RuleLoop value first begun first begun [] 0
  rules-start = record { far = refl; goes = λ before table g s. record { made = table; grew = grown-none table; has = g; still_table = refl; still_rows = refl } }

  module _ (words : List ℕ) (count : ℕ) (list : List NodeRow) (i : ℕ) (l : RuleLoop value first begun words count list i) where
    pub rules-end : length items ≤ i → StageOn (RuleSuits value) (rules_stage (held_by value).rules) first begun words (Ok (record { count = count; list = list }))
    unfolding rules_table rule_rows
    rules-end h before table g s =
        let x = subst (λ (rest : List Rule). RulesSoFar value before table rest words count list) (drop_all i (held_by value).rules (omega (arith, ap length read, length-map (held_by value).rules placed_row))) (l.goes before table g s) in
        record { has = subst (λ (t : Table). HasTable before t words count) x.still_table x.has; listed = sym (append-nil list) ∙ x.still_rows }

    module _ (h : i < length items) where
      module _ (shape : Shape) (es : shape ≡ row_shape (get_or items i past_row) (get_or value.arities (get_or items i past_row).symbol 0)) (after : List ℕ) where
        one : Rule
        one = rule value handed items read i h

        shape-rule : shape ≡ rule_shape one
        unfolding rule row one
        shape-rule = es ∙ ap₂ row_shape (row_is value handed items read i h) (arity-is value handed items read i h) ∙ shape_is one (sources-few value handed items read i h)

        module _ (before : List ℕ) (table : Table) (g : HasTable before table first begun) (s : RuleSuits value table) where
          sofar : RulesSoFar value before table (one ∷ drop (i + 1) (held_by value).rules) words count list
          unfolding one
          sofar = subst (λ (rest : List Rule). RulesSoFar value before table rest words count list) (from-rule value handed items read i h) (l.goes before table g s)

          fits : Fits (length sofar.made) shape
          unfolding one
          fits = let longer = grown-longer sofar.grew in subst (Fits (length sofar.made)) (sym shape-rule) (rule-fit value handed items read i h (length sofar.made) (omega arith))

          still_table : rules_table (with_node sofar.made shape) (drop (i + 1) (held_by value).rules) ≡ rules_table table (held_by value).rules
          unfolding rules_table
          still_table = ap (λ (new : Shape). rules_table (with_node sofar.made new) (drop (i + 1) (held_by value).rules)) shape-rule ∙ sofar.still_table

          -- the row of this rule, and those of the rules after it
          still_rows : list ++ (record { node = length sofar.made; target = one.target } ∷ rule_rows (length (with_node sofar.made shape)) (drop (i + 1) (held_by value).rules)) ≡ rule_rows (length table) (held_by value).rules
          unfolding rule_rows
          still_rows =
              ap (λ (m : ℕ). list ++ (record { node = length sofar.made; target = one.target } ∷ rule_rows m (drop (i + 1) (held_by value).rules))) (with-length sofar.made shape)
              ∙ sofar.still_rows

        pub rules-next : (got : Got) → NodeOn (λ table. Fits (length table) shape) (λ table. added table shape) words count after (Ok got)
            → (new : NodeRow) → new ≡ record { node = got.node % 65536; target = (get_or items i past_row).target } → RuleLoop value first begun after got.count (list ++ (new ∷ [])) (i + 1)
        unfolding row one
        rules-next got x new en =
            record {
              far = (let a = l.far in omega (arith, length-append list (new ∷ [])));
              goes = λ before table g s.
                  let y = sofar before table g s in
                  let made = with_node y.made shape in
                  let z = x before y.made y.has (fits before table g s) in
                  let few = z.has.room.few in
                  let longer = with-length y.made shape in
                  let is : new ≡ record { node = length y.made; target = one.target } =
                  en ∙ ap₂ (λ (m t : ℕ). record { node = m; target = t }) (mod-eq_of_lt (omega (arith, z.node)) ∙ z.node) (target_is value handed items read i h) in
                  record {
                    made = made;
                    grew = grown-then y.grew (with-grows y.made shape);
                    has = z.has;
                    still_table = still_table before table g s;
                    still_rows =
                        append_assoc list (new ∷ []) (rule_rows (length made) (drop (i + 1) (held_by value).rules))
                        ∙ ap (λ (row : NodeRow). list ++ (row ∷ rule_rows (length made) (drop (i + 1) (held_by value).rules))) is
                        ∙ still_rows before table g s;
                  };
            }

        pub rules-full : (reason : Refused) → NodeOn (λ table. Fits (length table) shape) (λ table. added table shape) words count after (Err reason)
            → StageOn (RuleSuits value) (rules_stage (held_by value).rules) first begun after (Err reason)
        rules-full reason x before table g s =
            let y = sofar before table g s in
            less-room (subst (Grown (with_node y.made shape)) (still_table before table g s) (rules-grow (with_node y.made shape) (drop (i + 1) (held_by value).rules)))
            (x before y.made y.has (fits before table g s))

-- ---- the rows of the final states

abbrev pub with_finals : List NodeRow → ℕ → ℕ → List NodeRow
with_finals rows finals q = rows ++ map final_node_row (those (has finals) (ascending q))

pub record FinalLoop (rows : List NodeRow) (finals : ℕ) (list : List NodeRow) (q : ℕ) : Type 0 where
  pub few : length list ≤ length rows + q
  pub is : list ≡ with_finals rows finals q

module _ (rows : List NodeRow) (finals : ℕ) where
  pub finals-start : FinalLoop rows finals rows 0
  unfolding ascending
  finals-start = record { few = omega arith; is = sym (append-nil rows) ∙ ap (λ (qs : List ℕ). rows ++ map final_node_row qs) (sym (those-none (has finals))) }

  module _ (list : List NodeRow) (q : ℕ) (l : FinalLoop rows finals list q) where
    next : those (has finals) (ascending (q + 1)) ≡ those (has finals) (ascending q) ++ those (has finals) (q ∷ [])
    unfolding ascending
    next = ap (λ (m : ℕ). those (has finals) (ascending m)) (add-one q) ∙ those-append (has finals) (ascending q) (q ∷ [])

    pub finals-skip : has finals q ≡ false → FinalLoop rows finals list (q + 1)
    finals-skip e =
        let s : those (has finals) (ascending (q + 1)) ≡ those (has finals) (ascending q) =
        next ∙ ap (those (has finals) (ascending q) ++◌) (those-skip (has finals) q [] e ∙ those-none (has finals)) ∙ append-nil (those (has finals) (ascending q)) in
        record { few = (let f = l.few in omega arith); is = l.is ∙ ap (λ (qs : List ℕ). rows ++ map final_node_row qs) (sym s) }

    pub finals-take : q < state_width → has finals q ≡ true → (row : NodeRow) → row ≡ record { node = (q + 1) % 65536; target = final_target } → FinalLoop rows finals (list ++ (row ∷ [])) (q + 1)
    finals-take h e row er =
        let chosen = those (has finals) (ascending q) in
        let s : those (has finals) (ascending (q + 1)) ≡ chosen ++ (q ∷ []) = next ∙ ap (chosen ++◌) (those-take (has finals) q [] e ∙ ap (q ∷◌) (those-none (has finals))) in
        let new : row ≡ final_node_row q = er ∙ ap (λ (m : ℕ). record { node = m; target = final_target }) (mod-eq_of_lt (omega arith) ∙ add-one q) in
        record {
          few = (let f = l.few in omega (arith, length-append list (row ∷ [])));
          is =
              ap₂ (λ (old : List NodeRow) (one : NodeRow). old ++ (one ∷ [])) l.is new
              ∙ append_assoc rows (map final_node_row chosen) (final_node_row q ∷ [])
              ∙ ap (rows ++◌) (sym (map-append final_node_row chosen (q ∷ [])) ∙ ap (map final_node_row) (sym s));
        }
