-- The laws of sets as numbers, over the width: what is in a set that is made, that two sets with the same members are one number, and that the machine's operations make the sets that are meant.
use mathlib.Core.Path.{◌≡◌, refl, sym, ap, ap₂, ◌∙◌}
use mathlib.Core.Bool.{Bool, true, false, cond, not, ◌&&◌, ◌||◌, or-false}
use Prim.Native.Nat.{ℕ, zero, suc, ◌+◌, ◌-◌, ◌*◌, ◌/◌, ◌%◌, ◌^◌, ◌≤◌, ◌<◌, min, max}
use native.Mathlib.Nat.{mod-lt, mod-one, one-mul, zero-mul, add_comm, add-zero, pow-suc, div-eq_of_lt, mod-eq_of_lt, lt_irrefl, lt_of_lt_of_le}
use native.Mathlib.Numerals.{one-add}
use native.Mathlib.Omega.{arith}
use lib.Dec.{ltb, eqb}
use lib.Pow.{pow_pos, pow-lt, pow_mono, mod-pow-add}
use lib.Bits.{bit_and, bit_or, bit_xor, or_lt, and_le_l, or_shifted_r}
use lib.Count.{ones, ones_cat}
use borrow.Author.Tests.{ne_eqb, lt-ltb, le-ltb, eqb-true, eqb-false, ltb-true, ltb-false}
use Rattle.sets.specs.Members.{has, set_of, how_many, empty_set, one_set, union, without, size}
use Rattle.std.specs.Int.{bit_at}
use Rattle.std.proofs.Math.Bool.{and-true, and-false}
use Rattle.std.proofs.lemmas.Nat.{and-not, one_shl}
use Rattle.std.proofs.lemmas.Nat.Bits.{and_pow, bit_at_and, bit_at_or, bit_at_xor, bit_at_above, bit_at-lt, bit_at-zero, bit_at-pow_same, bit_at-pow_other}

-- ---- membership in what the machine makes

-- a digit, 0 or 1
data Digit : ℕ → Type 0 where
  off : Digit 0
  on : Digit 1

digit-is : (n : ℕ) → n < 2 → Digit n
digit-is zero h = off
digit-is (suc zero) h = on
digit-is (suc (suc n)) h = absurd (omega arith)

either : {m n : ℕ} → Digit m → Digit n → eqb (max m n) 1 ≡ (eqb m 1 || eqb n 1)
either off off = refl
either off on = refl
either on off = refl
either on on = refl

both : {m n : ℕ} → Digit m → Digit n → eqb (min m n) 1 ≡ (eqb m 1 && eqb n 1)
both off off = refl
both off on = refl
both on off = refl
both on on = refl

cleared : {m n : ℕ} → Digit m → Digit n → eqb ((m + min m n) % 2) 1 ≡ (eqb m 1 && not (eqb n 1))
cleared off off = refl
cleared off on = refl
cleared on off = refl
cleared on on = refl

digit-of : (x i : ℕ) → Digit (bit_at x i)
digit-of x i = digit-is (bit_at x i) (bit_at-lt x i)

pub has-or : (a b i : ℕ) → has (bit_or a b) i ≡ (has a i || has b i)
unfolding has
has-or a b i = rw bit_at_or (either (digit-of a i) (digit-of b i))

pub has-and : (a b i : ℕ) → has (bit_and a b) i ≡ (has a i && has b i)
unfolding has
has-and a b i = rw bit_at_and (both (digit-of a i) (digit-of b i))

-- what a set shares with another taken out of it: its members that the other lacks
pub has-cleared : (a b i : ℕ) → has (bit_xor a (bit_and a b)) i ≡ (has a i && not (has b i))
unfolding has
has-cleared a b i = rw (bit_at_xor, bit_at_and) (cleared (digit-of a i) (digit-of b i))

-- the bits turned round, as the machine does it
pub has-not : (width a i : ℕ) → a < 2 ^ width → i < width → has (2 ^ width - 1 - a) i ≡ not (has a i)
unfolding has
has-not width a i h l = go (digit-of (2 ^ width - 1 - a) i) (digit-of a i) (omega (arith, and-not width a (2 ^ i) h (pow-lt l), and_pow (2 ^ width - 1 - a) i, and_pow a i))
  where
    go : {m n : ℕ} → Digit m → Digit n → m * 2 ^ i + n * 2 ^ i ≡ 2 ^ i → eqb m 1 ≡ not (eqb n 1)
    go off off e = absurd (omega (arith, pow_pos i))
    go off on e = refl
    go on off e = refl
    go on on e = absurd (omega (arith, pow_pos i))

pub has-zero : (i : ℕ) → has 0 i ≡ false
unfolding has
has-zero i = rw bit_at-zero

pub has-pow : (q i : ℕ) → has (2 ^ q) i ≡ eqb i q
unfolding has
has-pow q i = go (eqb i q) refl
  where
    go : (b : Bool) → eqb i q ≡ b → eqb (bit_at (2 ^ q) i) 1 ≡ b
    go true e = rw (eqb-true i q e, bit_at-pow_same)
    go false e = rw (bit_at-pow_other q i (eqb-false i q e))

-- a set has no member at or above its width
pub has-high : (width x i : ℕ) → x < 2 ^ width → width ≤ i → has x i ≡ false
unfolding has
has-high width x i h le = rw (bit_at_above x width i h le)

-- ---- the set of those that pass a test

cond-le : (b : Bool) (n : ℕ) → cond b n 0 ≤ n
cond-le true n = omega arith
cond-le false n = omega arith

pub set_of-lt : (width : ℕ) (test : ℕ → Bool) → set_of width test < 2 ^ width
unfolding set_of
set_of-lt zero test = omega arith
set_of-lt (suc width) test = rw (pow-suc 2 width) (omega (arith, set_of-lt width test, cond-le (test width) (2 ^ width)))

pub set_of-same : (width : ℕ) (test other : ℕ → Bool) → ((i : ℕ) → i < width → test i ≡ other i) → set_of width test ≡ set_of width other
unfolding set_of
set_of-same zero test other e = refl
set_of-same (suc width) test other e =
    ap₂ ◌+◌ (set_of-same width test other (λ i h. e i (omega arith))) (ap (λ (b : Bool). cond b (2 ^ width) 0) (e width (omega arith)))

-- membership in it: one more bit on top
with-top : (width low i : ℕ) (b : Bool) → low < 2 ^ width → has (low + cond b (2 ^ width) 0) i ≡ (has low i || (b && eqb i width))
with-top width low i true h =
    ap (λ (n : ℕ). has n i) (add_comm low (2 ^ width) ∙ sym (rw one-mul at (or_shifted_r 1 width low h)))
    ∙ has-or low (2 ^ width) i ∙ ap (λ (b : Bool). has low i || b) (has-pow width i)
with-top width low i false h = ap (λ (n : ℕ). has n i) (add-zero low) ∙ sym (or-false (has low i))

-- i below the width or at it, where it is not at the width
below_suc : (i width : ℕ) → (i ≡ width → ⊥) → ltb i (suc width) ≡ ltb i width
below_suc i width n = go (ltb i width) refl
  where
    go : (b : Bool) → ltb i width ≡ b → ltb i (suc width) ≡ b
    go true e = lt-ltb i (suc width) (omega (arith, ltb-true i width e))
    go false e = le-ltb i (suc width) (omega (arith, ltb-false i width e))

pub has-set_of : (width : ℕ) (test : ℕ → Bool) (i : ℕ) → has (set_of width test) i ≡ (ltb i width && test i)
unfolding set_of
has-set_of zero test i = has-zero i ∙ rw (le-ltb i 0 (omega arith))
has-set_of (suc width) test i =
    with-top width (set_of width test) i (test width) (set_of-lt width test)
    ∙ ap (λ (b : Bool). b || (test width && eqb i width)) (has-set_of width test i) ∙ go (eqb i width) refl
  where
    go : (b : Bool) → eqb i width ≡ b → ((ltb i width && test i) || (test width && b)) ≡ (ltb i (suc width) && test i)
    go true e = let same : i ≡ width = eqb-true i width e in rw (same, le-ltb width width (omega arith), lt-ltb width (suc width) (omega arith)) (and-true (test width))
    go false e = rw (below_suc i width (eqb-false i width e)) (rw (and-false, or-false))

-- a number's members make it again, up to the width
digit-of-has : (x w : ℕ) → cond (has x w) (2 ^ w) 0 ≡ bit_at x w * 2 ^ w
unfolding has
digit-of-has x w = go (digit-of x w)
  where
    go : {d : ℕ} → Digit d → cond (eqb d 1) (2 ^ w) 0 ≡ d * 2 ^ w
    go off = sym (zero-mul (2 ^ w))
    go on = sym (one-mul (2 ^ w))

next-digit : (x w : ℕ) → x % 2 ^ suc w ≡ bit_at x w * 2 ^ w + x % 2 ^ w
next-digit x w = ap (λ (n : ℕ). x % 2 ^ n) (sym (one-add w)) ∙ mod-pow-add x 1 w

pub set_of-has : (width x : ℕ) → set_of width (λ i. has x i) ≡ x % 2 ^ width
unfolding set_of
set_of-has zero x = sym (mod-one x)
set_of-has (suc width) x = rw (set_of-has width x, digit-of-has x width, next-digit x width) (omega arith)

-- a set below the width is the set of its members
pub set_of-members : (width x : ℕ) → x < 2 ^ width → set_of width (λ i. has x i) ≡ x
set_of-members width x h = set_of-has width x ∙ mod-eq_of_lt h

-- two sets below the width with the same members are equal
pub same-members : (width a b : ℕ) → a < 2 ^ width → b < 2 ^ width → ((i : ℕ) → i < width → has a i ≡ has b i) → a ≡ b
same-members width a b ha hb e =
    sym (set_of-members width a ha) ∙ set_of-same width (λ i. has a i) (λ i. has b i) e ∙ set_of-members width b hb

-- ---- the machine's operations

-- a number below the width that passes the test just where another does
made : (width x : ℕ) (test : ℕ → Bool) → x < 2 ^ width → ((i : ℕ) → i < width → has x i ≡ test i) → x ≡ set_of width test
made width x test h e = sym (set_of-members width x h) ∙ set_of-same width (λ i. has x i) test e

pub empty-zero : (width : ℕ) → 0 ≡ empty_set width
unfolding empty_set
empty-zero width = made width 0 (λ i. false) (pow_pos width) (λ i h. has-zero i)

-- the machine's one, shifted left by less than the width
pub shifted : (width q : ℕ) → q < width → 1 * 2 ^ q % 2 ^ width ≡ 2 ^ q
shifted width q h = one_shl q width h

-- and by any number: by the width and more nothing is left of it
pub one_shifted : (width q : ℕ) → cond (ltb q width) (1 * 2 ^ q % 2 ^ width) 0 ≡ one_set width q
unfolding one_set
one_shifted width q = go (ltb q width) refl
  where
    go : (b : Bool) → ltb q width ≡ b → cond b (1 * 2 ^ q % 2 ^ width) 0 ≡ set_of width (λ i. eqb i q)
    go true e =
        let h : q < width = ltb-true q width e in
        shifted width q h ∙ made width (2 ^ q) (λ i. eqb i q) (pow-lt h) (λ i _. has-pow q i)
    go false e =
        let h : width ≤ q = ltb-false q width e in
        made width 0 (λ i. eqb i q) (pow_pos width) (λ i l. has-zero i ∙ sym (ne_eqb i q (λ e. lt_irrefl i (omega arith))))

-- a set shifted right by any number: by the width and more nothing is left of it, as in a division
pub shifted_right : (width a i : ℕ) → a < 2 ^ width → cond (ltb i width) (a / 2 ^ i) 0 ≡ a / 2 ^ i
shifted_right width a i h = go (ltb i width) refl
  where
    go : (b : Bool) → ltb i width ≡ b → cond b (a / 2 ^ i) 0 ≡ a / 2 ^ i
    go true e = refl
    go false e = sym (div-eq_of_lt (lt_of_lt_of_le h (pow_mono (ltb-false i width e))))

pub union-or : (width a b : ℕ) → a < 2 ^ width → b < 2 ^ width → bit_or a b ≡ union width a b
unfolding union
union-or width a b ha hb = made width (bit_or a b) (λ i. has a i || has b i) (or_lt width a b ha hb) (λ i _. has-or a b i)

-- what is in a set and in the other turned round, where that other is a set of one
pub without-and : (width a q : ℕ) → a < 2 ^ width → bit_and a (2 ^ width - 1 - one_set width q) ≡ without width a q
unfolding without one_set
without-and width a q h =
    let one = set_of width (λ i. eqb i q) in
    made width (bit_and a (2 ^ width - 1 - one)) (λ i. has a i && not (eqb i q)) (omega (arith, and_le_l a (2 ^ width - 1 - one)))
    (λ i l. has-and a (2 ^ width - 1 - one) i ∙ rw (has-not width one i (set_of-lt width (λ i. eqb i q)) l, has-set_of width (λ i. eqb i q) i, lt-ltb i width l))

-- a number at or past the width is in no set, so that to take it out changes nothing
pub without-none : (width a q : ℕ) → a < 2 ^ width → width ≤ q → a ≡ without width a q
unfolding without
without-none width a q ha h =
    made width a (λ i. has a i && not (eqb i q)) ha
    (λ i l. sym (and-true (has a i)) ∙ ap (λ (b : Bool). has a i && not b) (sym (ne_eqb i q (λ e. lt_irrefl i (omega arith)))))

ones-digit : (x w : ℕ) → ones (bit_at x w) ≡ cond (has x w) 1 0
unfolding has ones
ones-digit x w = go (digit-of x w)
  where
    go : {d : ℕ} → Digit d → ones d ≡ cond (eqb d 1) 1 0
    go off = refl
    go on = refl

ones_below : (width x : ℕ) → ones (x % 2 ^ width) ≡ how_many width (λ i. has x i)
unfolding how_many ones
ones_below zero x = rw mod-one
ones_below (suc width) x =
    ap ones (next-digit x width) ∙ ones_cat width (bit_at x width) (x % 2 ^ width) (mod-lt x (pow_pos width))
    ∙ ap₂ ◌+◌ (ones-digit x width) (ones_below width x) ∙ add_comm _ _

-- the count of ones is the number of members
pub ones-size : (width x : ℕ) → x < 2 ^ width → ones x ≡ size width x
unfolding size
ones-size width x h = ap ones (sym (mod-eq_of_lt h)) ∙ ones_below width x
