-- The value as it grows: what it says, and what each record adds to it.
use Prim.Native.Nat.{ℕ, ◌+◌, ◌≤◌, ◌<◌}
use mathlib.Core.Bool.{true, false, not, or-false}
use mathlib.Core.Logic.{◌⊎◌, inl, inr}
use mathlib.Core.Path.{◌≡◌, refl, sym, ap, ◌∙◌}
use mathlib.Core.List.{List, [], ◌∷◌, ◌++◌, map, map-append}
use native.Mathlib.Omega.{arith}
use lib.Dec.{leb, eqb}
use lib.ListN.{length, get_or, drop, set, length-append, length-map}
use borrow.Author.Tests.{lt-ltb, le-ltb, le-leb, lt-leb, eq-eqb, ne_eqb}
use Rattle.automaton.specs.Held.{Rule, Held}
use Rattle.automaton.specs.Checks.{given, wrong, more, kind_allowed, symbol_values, all_below, row_values}
use Rattle.ground.specs.Lists.{filled}
use Rattle.automaton.specs.Answers.{placed_row, unused_row, placed}
use Rattle.automaton.specs.Inside.{Says}
use Rattle.automaton.specs.declared.Row.{Row}
use Rattle.automaton.specs.declared.Automaton.{Automaton}
use Rattle.sets.specs.declared.StateSet.{StateSet}
use Rattle.ground.proofs.Places.{filled-set, filled-get}
use Rattle.automaton.proofs.Finding.Frames.{none-length}

-- a value whose every number is that of what is held
pub placed_as : (states : ℕ) (finals : StateSet) (symbols : ℕ) (arities : List ℕ) (count : ℕ) (rows : List Row) (held : Held)
    → states ≡ held.states → finals ≡ record { 0 = held.finals } → symbols ≡ length held.arities → arities ≡ filled 32 0 held.arities
    → count ≡ length held.rules → rows ≡ filled 64 unused_row (map placed_row held.rules)
    → record { states = states; finals = finals; symbols = symbols; arities = arities; count = count; rows = rows } ≡ placed held
unfolding placed
placed_as states finals symbols arities count rows held p q r a n l i =
    record { states = p i; finals = q i; symbols = r i; arities = a i; count = n i; rows = l i }

module _ (held : Held) (value : Automaton) (s : Says held value) where
  pub states-are : value.states ≡ held.states
  unfolding placed
  states-are = ap (λ (a : Automaton). a.states) s.is

  pub finals-are : value.finals ≡ record { 0 = held.finals }
  unfolding placed
  finals-are = ap (λ (a : Automaton). a.finals) s.is

  pub symbols-are : value.symbols ≡ length held.arities
  unfolding placed
  symbols-are = ap (λ (a : Automaton). a.symbols) s.is

  pub arities-are : value.arities ≡ filled 32 0 held.arities
  unfolding placed
  arities-are = ap (λ (a : Automaton). a.arities) s.is

  pub count-is : value.count ≡ length held.rules
  unfolding placed
  count-is = ap (λ (a : Automaton). a.count) s.is

  pub rows-are : value.rows ≡ filled 64 unused_row (map placed_row held.rules)
  unfolding placed
  rows-are = ap (λ (a : Automaton). a.rows) s.is

  -- ---- which kinds may follow

  pub may-head : false ≡ kind_allowed (given held) 1
  unfolding kind_allowed
  may-head = refl

  pub may-symbol : eqb value.count 0 ≡ kind_allowed (given held) 2
  unfolding kind_allowed
  may-symbol = rw (count-is, or-false, none-length held.rules)

  pub may-row : not (eqb value.symbols 0) ≡ kind_allowed (given held) 3
  unfolding kind_allowed
  may-row = rw (symbols-are, none-length held.arities)

  pub may-end : not (eqb value.symbols 0) ≡ kind_allowed (given held) 9
  unfolding kind_allowed
  may-end = rw (symbols-are, none-length held.arities)

  -- ---- one more symbol

  module _ (payload : List ℕ) where
    pub symbol-limit : (32 ≤ value.symbols) ⊎ ((value.symbols < 32) × (3 < get_or payload 0 0)) → symbol_values held payload ≡ wrong 4
    unfolding symbol_values
    symbol-limit (inl many) = rw (le-leb 32 (length held.arities) (rw symbols-are at many))
    symbol-limit (inr wide) = rw (lt-leb 32 (length held.arities) (rw symbols-are at wide.0), lt-ltb 3 (get_or payload 0 0) wide.1)

    pub symbol-added : value.symbols < 32 → get_or payload 0 0 ≤ 3 → (place : ℕ) → place ≡ value.symbols
        → (next : Held) × (symbol_values held payload ≡ more next) × Says next (record {
          states = value.states;
          finals = value.finals;
          symbols = value.symbols + 1;
          arities = set value.arities place (get_or payload 0 0);
          count = value.count;
          rows = value.rows;
        })
    unfolding symbol_values
    symbol-added few small place p =
        let arity = get_or payload 0 0 in
        let known = held.arities ++ (arity ∷ []) in
        let less : length held.arities < 32 = rw symbols-are at few in (
          record { states = held.states; finals = held.finals; arities = known; rules = held.rules },
          rw (lt-leb 32 (length held.arities) less, le-ltb 3 arity small),
          record {
            is = placed_as _ _ _ _ _ _ (record { states = held.states; finals = held.finals; arities = known; rules = held.rules }) states-are finals-are (rw (length-append, symbols-are) refl)
                (rw (arities-are, filled-set 32 0 held.arities arity place (p ∙ symbols-are) less)) count-is rows-are;
            few_symbols = rw length-append (omega arith);
            few_rules = s.few_rules;
          },
        )

  -- ---- one more row

  module _ (payload : List ℕ) where
    pub row-many : 64 ≤ value.count → row_values held payload ≡ wrong 4
    unfolding row_values
    row-many h = rw (le-leb 64 (length held.rules) (rw count-is at h))

    module _ (few : value.count < 64) where
      fewer : leb 64 (length held.rules) ≡ false
      fewer = lt-leb 64 (length held.rules) (rw count-is at few)

      pub row-unknown : value.symbols ≤ get_or payload 0 0 → row_values held payload ≡ wrong 4
      unfolding row_values
      row-unknown h = rw (fewer, le-leb (length held.arities) (get_or payload 0 0) (rw symbols-are at h))

      module _ (less : get_or payload 0 0 < value.symbols) where
        known : leb (length held.arities) (get_or payload 0 0) ≡ false
        known = lt-leb (length held.arities) (get_or payload 0 0) (rw symbols-are at less)

        arity-is : get_or value.arities (get_or payload 0 0) 0 ≡ get_or held.arities (get_or payload 0 0) 0
        arity-is = rw arities-are (filled-get 32 0 held.arities (get_or payload 0 0) (rw symbols-are at less) 0)

        pub row-unsuited : (length payload ≡ 2 + get_or value.arities (get_or payload 0 0) 0 → ⊥) → row_values held payload ≡ wrong 3
        unfolding row_values
        row-unsuited n = rw (fewer, known, ne_eqb (length payload) (2 + get_or held.arities (get_or payload 0 0) 0) (rw arity-is at n))

        module _ (suits : length payload ≡ 2 + get_or value.arities (get_or payload 0 0) 0) where
          suited : eqb (length payload) (2 + get_or held.arities (get_or payload 0 0) 0) ≡ true
          suited = eq-eqb (length payload) (2 + get_or held.arities (get_or payload 0 0) 0) (rw arity-is at suits)

          pub row-aimless : value.states ≤ get_or payload 1 0 → row_values held payload ≡ wrong 4
          unfolding row_values
          row-aimless h = rw (fewer, known, suited, le-leb held.states (get_or payload 1 0) (rw states-are at h))

          module _ (inside : get_or payload 1 0 < value.states) where
            aimed : leb held.states (get_or payload 1 0) ≡ false
            aimed = lt-leb held.states (get_or payload 1 0) (rw states-are at inside)

            pub row-sourceless : all_below value.states (drop 2 payload) ≡ false → row_values held payload ≡ wrong 4
            unfolding row_values
            row-sourceless h = rw (fewer, known, suited, aimed, rw states-are at h)

            pub row-added : all_below value.states (drop 2 payload) ≡ true → (place : ℕ) → place ≡ value.count → (sources : List ℕ) → sources ≡ filled 3 0 (drop 2 payload)
                → (next : Held) × (row_values held payload ≡ more next) × Says next (record {
                  states = value.states;
                  finals = value.finals;
                  symbols = value.symbols;
                  arities = value.arities;
                  count = value.count + 1;
                  rows = set value.rows place (record { symbol = get_or payload 0 0; target = get_or payload 1 0; sources = sources });
                })
            unfolding row_values placed_row
            row-added h place p sources e =
                let rule : Rule = record { symbol = get_or payload 0 0; target = get_or payload 1 0; sources = drop 2 payload } in
                let next : Held = record { states = held.states; finals = held.finals; arities = held.arities; rules = held.rules ++ (rule ∷ []) } in
                let mapped : place ≡ length (map placed_row held.rules) = p ∙ count-is ∙ sym (length-map held.rules placed_row) in
                let more_rows : set (filled 64 unused_row (map placed_row held.rules)) place (placed_row rule) ≡ filled 64 unused_row (map placed_row next.rules)
                = filled-set 64 unused_row (map placed_row held.rules) (placed_row rule) place mapped (rw (← mapped, p) few) ∙ ap (filled 64 unused_row) (sym (map-append placed_row held.rules (rule ∷ []))) in (
                  next,
                  rw (fewer, known, suited, aimed, rw states-are at h),
                  record {
                    is = placed_as _ _ _ _ _ _ next states-are finals-are symbols-are arities-are (rw (length-append, count-is) refl) (rw (rows-are, e) more_rows);
                    few_symbols = s.few_symbols;
                    few_rules = rw length-append (omega (arith, count-is));
                  },
                )
