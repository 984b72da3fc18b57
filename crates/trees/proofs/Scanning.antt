-- What a scan of the rows tests, in numbers: nothing is missed exactly where the symbol is the row's and each needed set is within the set at its place.
use Prim.Native.Nat.{ℕ, suc, ◌+◌, ◌^◌, ◌<◌}
use native.Mathlib.Omega.{arith}
use native.Mathlib.Nat.{lt_of_le_of_lt}
use native.Mathlib.Numerals.{add-one}
use mathlib.Core.Bool.{Bool, true, false, cond, ◌&&◌, ◌||◌, or-false}
use mathlib.Core.Path.{◌≡◌, refl, sym, ◌∙◌, ap, ap₂}
use mathlib.Core.List.{List}
use Rattle.std.specs.Prelude.{Option, None, Some}
use lib.ListN.{get_or}
use lib.Bits.{bit_and, bit_or, bit_xor, and_le_l, and_le_r, or_add_and, xor_add_and, and_zero_l}
use lib.Dec.{eqb}
use lib.Pow.{pow-lt}
use borrow.Author.Tests.{eqb-true, eq-eqb, ne_eqb}
use Rattle.sets.specs.Members.{has}
use Rattle.sets.proofs.Bits.{has-or, has-and, has-pow, has-zero, same-members}
use Rattle.trees.specs.declared.columns.Columns.{Columns}
use Rattle.trees.specs.Columns.{within, asked, differs, fires}
use Rattle.ground.specs.Lists.{any_below}
use Rattle.ground.proofs.Truth.{and_parts, and_both, same_test}

-- a union is empty where both are
or-none : (u v : ℕ) → eqb (bit_or u v) 0 ≡ (eqb u 0 && eqb v 0)
or-none u v = same_test (eqb (bit_or u v) 0) (eqb u 0 && eqb v 0) there back
  where
    there : eqb (bit_or u v) 0 ≡ true → (eqb u 0 && eqb v 0) ≡ true
    there e =
        let z : bit_or u v ≡ 0 = eqb-true (bit_or u v) 0 e in
        and_both (eqb u 0) (eqb v 0) (eq-eqb u 0 (omega (arith, or_add_and u v, and_le_l u v, and_le_r u v)))
        (eq-eqb v 0 (omega (arith, or_add_and u v, and_le_l u v, and_le_r u v)))

    back : (eqb u 0 && eqb v 0) ≡ true → eqb (bit_or u v) 0 ≡ true
    back e =
        let r = and_parts (eqb u 0) (eqb v 0) e in
        eq-eqb (bit_or u v) 0 (omega (arith, or_add_and u v, eqb-true u 0 r.0, eqb-true v 0 r.1))

-- a difference is empty where the two are equal
xor-none : (u v : ℕ) → eqb (bit_xor u v) 0 ≡ eqb u v
xor-none u v = same_test (eqb (bit_xor u v) 0) (eqb u v) there back
  where
    there : eqb (bit_xor u v) 0 ≡ true → eqb u v ≡ true
    there e = let z : bit_xor u v ≡ 0 = eqb-true (bit_xor u v) 0 e in eq-eqb u v (omega (arith, xor_add_and u v, and_le_l u v, and_le_r u v))

    back : eqb u v ≡ true → eqb (bit_xor u v) 0 ≡ true
    back e = let same : u ≡ v = eqb-true u v e in eq-eqb (bit_xor u v) 0 (rw same (lib.Bits.xor_self v))

-- another symbol is missed, where one is asked for
other_none : (s : ℕ) (symbol : Option ℕ) → eqb (differs s symbol) 0 ≡ asked symbol s
other_none s (Some f) = xor-none s f
other_none s None = refl

-- what a row misses: its symbol is another, or a part of what it needs is not there
abbrev pub missed_of : (o x a y b z c : ℕ) → ℕ
missed_of o x a y b z c = bit_or o (bit_or (bit_xor x (bit_and x a)) (bit_or (bit_xor y (bit_and y b)) (bit_xor z (bit_and z c))))

missed : (o x a y b z c : ℕ) → eqb (missed_of o x a y b z c) 0 ≡ (eqb o 0 && (within x a && (within y b && within z c)))
unfolding within
missed o x a y b z c =
    or-none o (bit_or (bit_xor x (bit_and x a)) (bit_or (bit_xor y (bit_and y b)) (bit_xor z (bit_and z c))))
    ∙ ap (λ (t : Bool). eqb o 0 && t)
    (or-none (bit_xor x (bit_and x a)) (bit_or (bit_xor y (bit_and y b)) (bit_xor z (bit_and z c)))
    ∙ ap₂ ◌&&◌ (xor-none x (bit_and x a))
    (or-none (bit_xor y (bit_and y b)) (bit_xor z (bit_and z c)) ∙ ap₂ ◌&&◌ (xor-none y (bit_and y b)) (xor-none z (bit_and z c))))

-- one more row: its target joins where it fires
has_more : (found target q : ℕ) (b : Bool) → has (cond b (bit_or found target) found) q ≡ (has found q || (b && has target q))
has_more found target q true = has-or found target q
has_more found target q false = sym (or-false (has found q))

-- ---- what is needed

pub within_none : (a : ℕ) → within 0 a ≡ true
unfolding within
within_none a = eq-eqb 0 (bit_and 0 a) (sym (and_zero_l a))

pub within-one : (q a : ℕ) → within (2 ^ q) a ≡ has a q
unfolding within
within-one q a = same_test (within (2 ^ q) a) (has a q) there back
  where
    at : (i : ℕ) → has (bit_and (2 ^ q) a) i ≡ (eqb i q && has a i)
    at i = has-and (2 ^ q) a i ∙ ap (λ (b : Bool). b && has a i) (has-pow q i)

    there : within (2 ^ q) a ≡ true → has a q ≡ true
    there e =
        let same : 2 ^ q ≡ bit_and (2 ^ q) a = eqb-true (2 ^ q) (bit_and (2 ^ q) a) e in
        (and_parts (eqb q q) (has a q) (sym (at q) ∙ ap (λ (n : ℕ). has n q) (sym same) ∙ has-pow q q ∙ eq-eqb q q refl)).1

    small : 2 ^ q < 2 ^ suc q
    small = pow-lt (omega arith)

    back : has a q ≡ true → within (2 ^ q) a ≡ true
    back e =
        eq-eqb (2 ^ q) (bit_and (2 ^ q) a)
        (same-members (suc q) (2 ^ q) (bit_and (2 ^ q) a) small (lt_of_le_of_lt (and_le_l (2 ^ q) a) small)
        (λ i _. has-pow q i ∙ go i (eqb i q) refl ∙ sym (at i)))
      where
        go : (i : ℕ) (b : Bool) → eqb i q ≡ b → eqb i q ≡ (eqb i q && has a i)
        go i true d = d ∙ sym (and_both (eqb i q) (has a i) d (ap (has a) (eqb-true i q d) ∙ e))
        go i false d = rw d

-- ---- the scan, row by row

module _ (columns : Columns) (symbol : Option ℕ) (sets : List ℕ) where
  -- the targets of the first rows that fire
  abbrev pub Sofar : ℕ → ℕ → Type 0
  Sofar i found = (q : ℕ) → has found q ≡ any_below i (λ j. fires columns symbol sets j && has (get_or columns.targets j 0) q)

  pub scan-none : Sofar 0 0
  unfolding any_below
  scan-none q = has-zero q

  -- what row i misses, where this tells its symbol from the one that is asked for
  abbrev missed_at : (i o : ℕ) → ℕ
  missed_at i o = missed_of o (get_or columns.firsts i 0) (get_or sets 0 0) (get_or columns.seconds i 0) (get_or sets 1 0) (get_or columns.thirds i 0) (get_or sets 2 0)

  -- one more row
  scan-more : (i found next o : ℕ) → o ≡ differs (get_or columns.symbols i 0) symbol → next ≡ cond (eqb (missed_at i o) 0) (bit_or found (get_or columns.targets i 0)) found → Sofar i found → Sofar (i + 1) next
  unfolding any_below fires
  scan-more i found next o eo e before q =
      let x = get_or columns.firsts i 0 in
      let y = get_or columns.seconds i 0 in
      let z = get_or columns.thirds i 0 in
      let t = get_or columns.targets i 0 in
      let a = get_or sets 0 0 in
      let b = get_or sets 1 0 in
      let c = get_or sets 2 0 in
      ap (λ (n : ℕ). has n q) e ∙ has_more found t q (eqb (missed_of o x a y b z c) 0)
      ∙ ap₂ ◌||◌ (before q) (ap (λ (m : Bool). m && has t q) (missed o x a y b z c ∙ ap (λ (m : Bool). m && (within x a && (within y b && within z c))) (ap (λ (n : ℕ). eqb n 0) eo ∙ other_none (get_or columns.symbols i 0) symbol)))
      ∙ ap (λ (n : ℕ). any_below n (λ j. fires columns symbol sets j && has (get_or columns.targets j 0) q)) (sym (add-one i))

  pub scan-fired : (i found o : ℕ) → o ≡ differs (get_or columns.symbols i 0) symbol → missed_at i o ≡ 0 → Sofar i found → Sofar (i + 1) (bit_or found (get_or columns.targets i 0))
  scan-fired i found o eo none before = scan-more i found (bit_or found (get_or columns.targets i 0)) o eo (rw (eq-eqb (missed_at i o) 0 none)) before

  pub scan-missed : (i found o : ℕ) → o ≡ differs (get_or columns.symbols i 0) symbol → (missed_at i o ≡ 0 → ⊥) → Sofar i found → Sofar (i + 1) found
  scan-missed i found o eo some before = scan-more i found found o eo (rw (ne_eqb (missed_at i o) 0 some)) before
