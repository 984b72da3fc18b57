-- The columns, one row more at a time.
use Prim.Native.Nat.{ℕ, ◌+◌, ◌^◌, ◌<◌, ◌≤◌}
use native.Mathlib.Decide.{dec_lt}
use native.Mathlib.Numerals.{add-one}
use native.Mathlib.Omega.{arith}
use mathlib.Core.Bool.{Bool, true, false, ◌&&◌, ◌||◌, or-false}
use mathlib.Core.Path.{◌≡◌, refl, sym, ◌∙◌, ap, ap₂, subst}
use mathlib.Core.List.{List, [], ◌∷◌, ◌++◌, map}
use lib.Bits.{bit_or}
use lib.Dec.{eqb}
use lib.ListN.{length, get_or, set, take, replicate, length-map, get_or-replicate, get_or-eq_default}
use lib.Seq.{take-suc, length-take-le, get_or-take, get_or-set_same, get_or-set_other}
use borrow.Author.Tests.{eqb-true, eqb-false}
use Rattle.sets.specs.Members.{has}
use Rattle.sets.proofs.Bits.{has-or, has-pow, has-zero}
use Rattle.automaton.specs.declared.Row.{Row}
use Rattle.automaton.specs.Held.{Rule, most_symbols, most_rows}
use Rattle.ground.specs.Lists.{any_of}
use Rattle.ground.proofs.Truth.{eqb-turned}
use Rattle.ground.proofs.Lists.{any_last, get_or-map-inside}
use Rattle.trees.specs.declared.columns.Columns.{Columns}
use Rattle.trees.specs.Columns.{cell, Column, need_at, need, Tabled, Whole, entered}

-- ---- a column

module _ (number : Rule → ℕ) (rules : List Rule) where
  pub cell-inside : (i : ℕ) (d : Rule) → i < length rules → cell number rules i ≡ number (get_or rules i d)
  unfolding cell
  cell-inside i d h = get_or-map-inside number rules i d 0 h

  pub cell-past : (i : ℕ) → length rules ≤ i → cell number rules i ≡ 0
  unfolding cell
  cell-past i h = get_or-eq_default (map number rules) 0 (omega (arith, length-map rules number))

cell-none : (number : Rule → ℕ) (i : ℕ) → 0 ≡ cell number [] i
cell-none number i = sym (cell-past number [] i (omega arith))

module _ (rules : List Rule) (i : ℕ) (d : Rule) (h : i < length rules) where
  -- one row more of the rules
  next : take (i + 1) rules ≡ take i rules ++ (get_or rules i d ∷ [])
  next = ap (λ (n : ℕ). take n rules) (add-one i) ∙ take-suc rules i d h

  module _ (number : Rule → ℕ) where
    cell_same : cell number (take (i + 1) rules) i ≡ number (get_or rules i d)
    cell_same =
        cell-inside number (take (i + 1) rules) i d (omega (arith, length-take-le (i + 1) rules (omega arith)))
        ∙ ap number (get_or-take (i + 1) rules i d (omega arith))

    cell_other : (j : ℕ) → (j ≡ i → ⊥) → cell number (take i rules) j ≡ cell number (take (i + 1) rules) j
    cell_other j n = go (dec_lt j i)
      where
        go : Dec (j < i) → cell number (take i rules) j ≡ cell number (take (i + 1) rules) j
        go (yes l) =
            cell-inside number (take i rules) j d (omega (arith, length-take-le i rules (omega arith)))
            ∙ ap number (get_or-take i rules j d l ∙ sym (get_or-take (i + 1) rules j d (omega arith)))
            ∙ sym (cell-inside number (take (i + 1) rules) j d (omega (arith, length-take-le (i + 1) rules (omega arith))))
        go (no l) =
            cell-past number (take i rules) j (omega (arith, length-take-le i rules (omega arith)))
            ∙ sym (cell-past number (take (i + 1) rules) j (omega (arith, length-take-le (i + 1) rules (omega arith))))

    -- the number of one more row, at its place
    column-next : (column : List ℕ) (x : ℕ) → i < length column → x ≡ number (get_or rules i d) → Column column number (take i rules) → Column (set column i x) number (take (i + 1) rules)
    column-next column x room e before j small = go (eqb j i) refl
      where
        go : (b : Bool) → eqb j i ≡ b → get_or (set column i x) j 0 ≡ cell number (take (i + 1) rules) j
        go true t =
            let same : j ≡ i = eqb-true j i t in
            ap (λ (n : ℕ). get_or (set column i x) n 0) same ∙ get_or-set_same column i x 0 room
            ∙ e ∙ sym cell_same ∙ ap (cell number (take (i + 1) rules)) (sym same)
        go false t = get_or-set_other column i j x 0 (eqb-false j i t) ∙ before j small ∙ cell_other j (eqb-false j i t)

  any_next : (test : Rule → Bool) → any_of test (take (i + 1) rules) ≡ (any_of test (take i rules) || test (get_or rules i d))
  any_next test = ap (any_of test) next ∙ any_last test (take i rules) (get_or rules i d)

-- ---- the columns

-- none of a row
abbrev pub empty_columns : Columns
empty_columns =
    record {
      symbols = replicate most_rows 0;
      firsts = replicate most_rows 0;
      seconds = replicate most_rows 0;
      thirds = replicate most_rows 0;
      targets = replicate most_rows 0;
      leaves = replicate most_symbols 0;
    }

pub table_none : Tabled [] empty_columns
unfolding any_of
table_none =
    record {
      symbols = λ i h. none (λ rule. rule.symbol) i h;
      firsts = λ i h. none (need 0) i h;
      seconds = λ i h. none (need 1) i h;
      thirds = λ i h. none (need 2) i h;
      targets = λ i h. none (λ rule. 2 ^ rule.target) i h;
      leaves = λ f q h. ap (λ (n : ℕ). has n q) (get_or-replicate most_symbols f 0 0 h) ∙ has-zero q;
    }
  where
    none : (number : Rule → ℕ) (i : ℕ) → i < most_rows → get_or (replicate most_rows 0) i 0 ≡ cell number [] i
    none number i h = get_or-replicate most_rows i 0 0 h ∙ cell-none number i

-- one row more
pub table-next : (rules : List Rule) (i : ℕ) (d : Rule) (columns made : Columns) (row : Row) (arity : ℕ) → i < length rules → length rules ≤ most_rows → row.symbol < most_symbols
    → (get_or rules i d).symbol ≡ row.symbol → (get_or rules i d).target ≡ row.target → ((place : ℕ) → need place (get_or rules i d) ≡ need_at row.sources arity place)
    → Whole columns → made ≡ entered i row arity columns → Tabled (take i rules) columns → Tabled (take (i + 1) rules) made
unfolding entered
table-next rules i d columns made row arity h few small same aims needs whole e before =
    subst (Tabled (take (i + 1) rules)) (sym e)
    (record {
      symbols = column-next rules i d h (λ rule. rule.symbol) columns.symbols s (omega (arith, whole.symbols)) (sym same) before.symbols;
      firsts = column-next rules i d h (need 0) columns.firsts (need_at row.sources arity 0) (omega (arith, whole.firsts)) (sym (needs 0)) before.firsts;
      seconds = column-next rules i d h (need 1) columns.seconds (need_at row.sources arity 1) (omega (arith, whole.seconds)) (sym (needs 1)) before.seconds;
      thirds = column-next rules i d h (need 2) columns.thirds (need_at row.sources arity 2) (omega (arith, whole.thirds)) (sym (needs 2)) before.thirds;
      targets = column-next rules i d h (λ rule. 2 ^ rule.target) columns.targets bit (omega (arith, whole.targets)) (ap (λ (n : ℕ). 2 ^ n) (sym aims)) before.targets;
      leaves = λ f q l. go f q l (eqb s f) refl;
    })
  where
    s : ℕ
    s = row.symbol

    bit : ℕ
    bit = 2 ^ row.target

    joined : ℕ
    joined = bit_or (get_or columns.leaves s 0) bit

    test : ℕ → ℕ → Rule → Bool
    test f q rule = eqb rule.symbol f && eqb rule.target q

    here : (f q : ℕ) (b : Bool) → eqb s f ≡ b → test f q (get_or rules i d) ≡ (b && eqb row.target q)
    here f q b e = ap₂ (λ (m n : ℕ). eqb m f && eqb n q) same aims ∙ ap (λ (c : Bool). c && eqb row.target q) e

    go : (f q : ℕ) → f < most_symbols → (b : Bool) → eqb s f ≡ b → has (get_or (set columns.leaves s joined) f 0) q ≡ any_of (test f q) (take (i + 1) rules)
    go f q l true e =
        let is : s ≡ f = eqb-true s f e in
        ap (λ (n : ℕ). has (get_or (set columns.leaves s joined) n 0) q) (sym is)
        ∙ ap (λ (n : ℕ). has n q) (get_or-set_same columns.leaves s joined 0 (omega (arith, whole.leaves)))
        ∙ has-or (get_or columns.leaves s 0) bit q
        ∙ ap₂ ◌||◌ (ap (λ (n : ℕ). has (get_or columns.leaves n 0) q) is ∙ before.leaves f q l) (has-pow row.target q ∙ eqb-turned q row.target ∙ sym (here f q true e))
        ∙ sym (any_next rules i d h (test f q))
    go f q l false e =
        ap (λ (n : ℕ). has n q) (get_or-set_other columns.leaves s f joined 0 (λ z. eqb-false s f e (sym z)))
        ∙ before.leaves f q l ∙ sym (or-false (any_of (test f q) (take i rules)))
        ∙ ap (λ (b : Bool). any_of (test f q) (take i rules) || b) (sym (here f q false e))
        ∙ sym (any_next rules i d h (test f q))
