-- What an automaton's value says, place by place: the arity of a symbol and the row at an index are what stands in the value's arrays there.
use Prim.Native.Nat.{ℕ, zero, suc, ◌^◌, ◌<◌}
use native.Mathlib.Decide.{dec_lt}
use native.Mathlib.Omega.{arith}
use mathlib.Core.Bool.{Bool, true, false, cond}
use mathlib.Core.Path.{◌≡◌, refl, sym, ◌∙◌, ap}
use mathlib.Core.List.{List, []}
use lib.Dec.{ltb}
use lib.ListN.{length, get_or, take, replicate, length-map, length-take, get_or-map, get_or-eq_default}
use lib.Seq.{get_or-take}
use borrow.Author.Tests.{ltb-true}
use Rattle.sets.specs.Members.{state_width}
use Rattle.automaton.specs.declared.Row.{Row}
use Rattle.automaton.specs.declared.Automaton.{Automaton}
use Rattle.automaton.specs.Held.{Rule, ValidRule, Valid, most_symbols, most_arity}
use Rattle.ground.specs.Lists.{firsts}
use Rattle.automaton.specs.Answers.{unused_row, rule_held, held_by}
use Rattle.trees.specs.Columns.{need, need_at}
use Rattle.ground.proofs.Lists.{get_or-inside, all-at, get_or-firsts, length-firsts}

-- the row at an index, as the code reads it
abbrev pub row_at : Automaton → ℕ → Row
row_at a i = get_or a.rows i (record { symbol = 0; target = 0; sources = [] })

unfoldable pub rule_at : Automaton → ℕ → Rule
rule_at a i = get_or (held_by a).rules i (rule_held (held_by a).arities unused_row)

-- a row of those that count
pub row-read : (a : Automaton) (n i : ℕ) → n ≡ a.count → i < length (take n a.rows) → (i < a.count) × (get_or (take n a.rows) i (record { symbol = 0; target = 0; sources = [] }) ≡ row_at a i)
row-read a n i e h =
    let few : i < n = omega (arith, length-take n a.rows) in
    (omega arith, get_or-take n a.rows i (record { symbol = 0; target = 0; sources = [] }) few)

module _ (a : Automaton) where
  pub so-many-symbols : length (held_by a).arities ≡ a.symbols
  unfolding held_by
  so-many-symbols = length-firsts a.symbols 0 a.arities

  pub so-many-rows : length (held_by a).rules ≡ a.count
  unfolding held_by
  so-many-rows = length-map (firsts a.count unused_row a.rows) (rule_held (firsts a.symbols 0 a.arities)) ∙ length-firsts a.count unused_row a.rows

  pub arity-at : (f : ℕ) → f < a.symbols → get_or (held_by a).arities f 0 ≡ get_or a.arities f 0
  unfolding held_by
  arity-at f h = get_or-firsts a.symbols 0 a.arities f 0 h

  -- the arity of a symbol, as the code reads it
  pub arity-read : (f s n : ℕ) → f < a.symbols → s ≡ f → n ≡ get_or a.arities s 0 → n ≡ get_or (held_by a).arities f 0
  arity-read f s n known same e = e ∙ ap (λ (g : ℕ). get_or a.arities g 0) same ∙ sym (arity-at f known)

  module _ (i : ℕ) (h : i < a.count) where
    pub row_inside : i < length (held_by a).rules
    row_inside = omega (arith, so-many-rows)

    rule-at : rule_at a i ≡ rule_held (held_by a).arities (get_or a.rows i unused_row)
    unfolding rule_at held_by
    rule-at =
        get_or-map (rule_held (held_by a).arities) (firsts a.count unused_row a.rows) i unused_row
        ∙ ap (rule_held (held_by a).arities) (get_or-firsts a.count unused_row a.rows i unused_row h)

    -- a number of a row, read past the rows, is 0 either way
    same_number : (number : Row → ℕ) → number unused_row ≡ 0 → number (record { symbol = 0; target = 0; sources = [] }) ≡ 0 → number (get_or a.rows i unused_row) ≡ number (row_at a i)
    same_number number none here = go (dec_lt i (length a.rows))
      where
        go : Dec (i < length a.rows) → number (get_or a.rows i unused_row) ≡ number (row_at a i)
        go (yes l) = ap number (get_or-inside a.rows i unused_row (record { symbol = 0; target = 0; sources = [] }) l)
        go (no l) =
            ap number (get_or-eq_default a.rows unused_row (omega arith)) ∙ none
            ∙ sym (ap number (get_or-eq_default a.rows (record { symbol = 0; target = 0; sources = [] }) (omega arith)) ∙ here)

    pub symbol-at : (rule_at a i).symbol ≡ (row_at a i).symbol
    unfolding rule_held unused_row
    symbol-at = ap (λ (rule : Rule). rule.symbol) rule-at ∙ same_number (λ row. row.symbol) refl refl

    pub target_at_lem : (rule_at a i).target ≡ (row_at a i).target
    unfolding rule_held unused_row
    target_at_lem = ap (λ (rule : Rule). rule.target) rule-at ∙ same_number (λ row. row.target) refl refl

    module _ (v : Valid (held_by a)) where
      pub valid-at : ValidRule (held_by a).states (held_by a).arities (rule_at a i)
      unfolding rule_at
      valid-at = all-at (ValidRule (held_by a).states (held_by a).arities) (held_by a).rules v.valid_rules i (rule_held (held_by a).arities unused_row) (omega (arith, so-many-rows))

      pub known_at : (row_at a i).symbol < a.symbols
      known_at = omega (arith, valid-at.known, so-many-symbols, symbol-at)

      pub symbol-small : (row_at a i).symbol < most_symbols
      symbol-small = omega (arith, known_at, so-many-symbols, v.few_symbols)

      pub aimed-at : (row_at a i).target < state_width
      aimed-at = omega (arith, valid-at.aimed, v.few_states, target_at_lem)

      pub suited-at : length (rule_at a i).sources ≡ get_or a.arities (row_at a i).symbol 0
      suited-at = valid-at.suited ∙ ap (λ (f : ℕ). get_or (held_by a).arities f 0) symbol-at ∙ arity-at (row_at a i).symbol known_at

      pub source-at : (place : ℕ) → place < get_or a.arities (row_at a i).symbol 0 → get_or (rule_at a i).sources place 0 ≡ get_or (row_at a i).sources place 0
      unfolding rule_held unused_row
      source-at place l =
          let row = get_or a.rows i unused_row in
          let k = get_or (held_by a).arities row.symbol 0 in
          let e : (rule_at a i).sources ≡ firsts k 0 row.sources = ap (λ (rule : Rule). rule.sources) rule-at in
          let long : length (rule_at a i).sources ≡ k = ap length e ∙ length-firsts k 0 row.sources in
          ap (λ (l : List ℕ). get_or l place 0) e ∙ get_or-firsts k 0 row.sources place 0 (omega (arith, suited-at))
          ∙ same_number (λ r. get_or r.sources place 0) (zeros place) refl
        where
          zeros : (p : ℕ) → ◌≡◌ {A = ℕ} (get_or (replicate most_arity 0) p 0) 0
          zeros zero = refl
          zeros (suc zero) = refl
          zeros (suc (suc zero)) = refl
          zeros (suc (suc (suc p))) = refl

      pub source-small : (place : ℕ) → place < get_or a.arities (row_at a i).symbol 0 → get_or (row_at a i).sources place 0 < state_width
      source-small place l =
          let h : get_or (rule_at a i).sources place 0 < (held_by a).states = all-at (λ q. q < (held_by a).states) (rule_at a i).sources valid-at.sourced place 0 (omega (arith, suited-at)) in
          omega (arith, h, v.few_states, source-at place l)

      -- what a row needs at a child place, as the code computes it
      pub need-at : (place : ℕ) → need place (rule_at a i) ≡ need_at (row_at a i).sources (get_or a.arities (row_at a i).symbol 0) place
      unfolding need_at
      need-at place = rw suited-at (go (ltb place (get_or a.arities (row_at a i).symbol 0)) refl)
        where
          go : (b : Bool) → ltb place (get_or a.arities (row_at a i).symbol 0) ≡ b → cond b (2 ^ get_or (rule_at a i).sources place 0) 0 ≡ cond b (2 ^ get_or (row_at a i).sources place 0) 0
          go true e = ap (λ (q : ℕ). 2 ^ q) (source-at place (ltb-true place (get_or a.arities (row_at a i).symbol 0) e))
          go false e = refl
