-- Membership in the sets that are made, over the width: for sets that are within it, without a bound on the member.
use Prim.Native.Nat.{ℕ, ◌^◌, ◌<◌, ◌≤◌, ◌/◌}
use mathlib.Core.Path.{◌≡◌, refl, sym, ◌∙◌, ap}
use mathlib.Core.Bool.{Bool, true, false, not, ◌&&◌, ◌||◌}
use lib.Dec.{eqb, ltb}
use lib.Pow.{pow_pos, pow_mono}
use native.Mathlib.Nat.{div-eq_of_lt, div-lt_iff_lt-mul}
use native.Mathlib.Omega.{arith}
use borrow.Author.Tests.{lt-ltb, lt-leb, eq-eqb, ne_eqb, ltb-false, leb-true, leb-false}
use Rattle.sets.specs.Members.{has, empty_set, one_set, union, without, has_past, of_word}
use Rattle.sets.proofs.Bits.{has-or, has-zero, has-high, has-set_of, set_of-lt, set_of-same, set_of-has, empty-zero, union-or}

module _ (width : ℕ) where
  pub empty-lt : empty_set width < 2 ^ width
  unfolding empty_set
  empty-lt = set_of-lt width (λ i. false)

  pub one-lt : (q : ℕ) → one_set width q < 2 ^ width
  unfolding one_set
  one-lt q = set_of-lt width (λ i. eqb i q)

  pub union-lt : (a b : ℕ) → union width a b < 2 ^ width
  unfolding union
  union-lt a b = set_of-lt width (λ i. has a i || has b i)

  pub without-lt : (a q : ℕ) → without width a q < 2 ^ width
  unfolding without
  without-lt a q = set_of-lt width (λ i. has a i && not (eqb i q))

  pub has-empty : (p : ℕ) → has (empty_set width) p ≡ false
  has-empty p = ap (λ (n : ℕ). has n p) (sym (empty-zero width)) ∙ has-zero p

  pub has_one : (q p : ℕ) → q < width → has (one_set width q) p ≡ eqb p q
  unfolding one_set
  has_one q p h = has-set_of width (λ i. eqb i q) p ∙ go (ltb p width) refl
    where
      go : (b : Bool) → ltb p width ≡ b → (b && eqb p q) ≡ eqb p q
      go true e = refl
      go false e = sym (ne_eqb p q (λ same. omega (arith, ltb-false p width e)))

  pub has-union : (a b p : ℕ) → a < 2 ^ width → b < 2 ^ width → has (union width a b) p ≡ (has a p || has b p)
  has-union a b p ha hb = ap (λ (n : ℕ). has n p) (sym (union-or width a b ha hb)) ∙ has-or a b p

  pub has-without : (a q p : ℕ) → a < 2 ^ width → q < width → has (without width a q) p ≡ (has a p && not (eqb p q))
  unfolding without
  has-without a q p ha hq = has-set_of width (λ i. has a i && not (eqb i q)) p ∙ go (ltb p width) refl
    where
      go : (b : Bool) → ltb p width ≡ b → (b && (has a p && not (eqb p q))) ≡ (has a p && not (eqb p q))
      go true e = refl
      go false e = rw (has-high width a p ha (ltb-false p width e))

  -- ---- a number cut to the width has the same members within it, so that what is made of it is the same set

  pub has-cut : (a i : ℕ) → i < width → has (of_word width a) i ≡ has a i
  has-cut a i h = ap (λ (n : ℕ). has n i) (sym (set_of-has width a)) ∙ has-set_of width (λ j. has a j) i ∙ ap (λ (b : Bool). b && has a i) (lt-ltb i width h)

  pub union-cut-left : (a b : ℕ) → union width (of_word width a) b ≡ union width a b
  unfolding union
  union-cut-left a b = set_of-same width _ _ (λ i h. rw (has-cut a i h))

  pub union-cut-right : (a b : ℕ) → union width a (of_word width b) ≡ union width a b
  unfolding union
  union-cut-right a b = set_of-same width _ _ (λ i h. rw (has-cut b i h))

  pub without-cut : (a q : ℕ) → without width (of_word width a) q ≡ without width a q
  unfolding without
  without-cut a q = set_of-same width _ _ (λ i h. rw (has-cut a i h))

-- a set with nothing at or past a count, as the machine sees it
pub past-count : (count a : ℕ) → not (eqb (a / 2 ^ count) 0) ≡ has_past a count
past-count count a = go (has_past a count) refl
  where
    go : (b : Bool) → has_past a count ≡ b → not (eqb (a / 2 ^ count) 0) ≡ b
    go true e = rw (ne_eqb (a / 2 ^ count) 0 (λ z. omega (arith, leb-true (2 ^ count) a e, (div-lt_iff_lt-mul {x = a} {y = 1} (pow_pos count)).0 (omega arith))))
    go false e = rw (eq-eqb (a / 2 ^ count) 0 (div-eq_of_lt (leb-false _ _ e)))

-- nothing stands past the width
pub past-wide : (width count a : ℕ) → a < 2 ^ width → width ≤ count → has_past a count ≡ false
past-wide width count a h l = lt-leb (2 ^ count) a (omega (arith, h, pow_mono l))
