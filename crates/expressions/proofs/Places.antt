-- The places for children, those that are used and those that are not: what the code's tests and sums over them come to.
use Prim.Native.Nat.{ℕ, zero, suc, ◌+◌, ◌^◌, ◌%◌, ◌<◌, min}
use native.Mathlib.Omega.{arith}
use native.Mathlib.Nat.{add_assoc}
use mathlib.Core.Path.{◌≡◌, sym, ◌∙◌, ap}
use mathlib.Core.Bool.{Bool, cond, ◌&&◌, ◌||◌, or-false, or_assoc}
use mathlib.Core.List.{List, [], ◌∷◌, ◌++◌, map, map-append}
use lib.Dec.{ltb, eqb}
use lib.ListN.{take, drop}
use borrow.Author.Tests.{lt-ltb}
use Rattle.std.specs.List.{list_all, enumerate_from, fold}
use Rattle.sets.specs.Members.{has, empty_set, union, state_width}
use Rattle.sets.proofs.Bits.{has-set_of, set_of-same}
use Rattle.sets.proofs.Membership.{has-empty, union-cut-right}
use Rattle.ground.specs.Decides.{Decides}
use Rattle.ground.specs.Lists.{All}
use Rattle.ground.proofs.Deciding.{decides-yes, decides-as, decides-lt, decides_eq}
use Rattle.ground.proofs.Truth.{and_parts, and_both}
use Rattle.expressions.specs.declared.Shape.{Shape}
use Rattle.expressions.specs.Nodes.{child_count, places, children, unused}
use Rattle.expressions.specs.Soundness.{union_all}
use Rattle.expressions.specs.Sizes.{held, most_size}
use Rattle.expressions.specs.Inside.{sum_all}

decides-and : {A B : Type 0} {a b : Bool} → Decides A a → Decides B b → Decides (A × B) (a && b)
decides-and {a = a} {b = b} d e =
    record { only = λ h. let p = and_parts a b h in (d.only p.0, e.only p.1); always = λ h. and_both a b (d.always h.0) (e.always h.1) }

-- a test of each decides what holds of each
each-decided : {P : ℕ → Type 0} (test : ℕ → Bool) → ((x : ℕ) → Decides (P x) (test x)) → (xs : List ℕ) → Decides (All P xs) (list_all test xs)
each-decided test d [] = decides-yes tt
each-decided test d (x ∷ xs) = decides-and (d x) (each-decided test d xs)

each-below : (number : ℕ) (xs : List ℕ) → Decides (All (λ c. c < number) xs) (list_all (λ x. ltb x number) xs)
each-below number xs = each-decided (λ x. ltb x number) (λ x. decides-lt x number) xs

each-zero : (xs : List ℕ) → Decides (All (λ c. c ≡ 0) xs) (list_all (λ x. eqb x 0) xs)
each-zero xs = each-decided (λ x. eqb x 0) (λ x. decides_eq x 0) xs

-- the test of one place, the first n of which are used
abbrev pub place_test : ℕ → ℕ → ℕ × ℕ → Bool
place_test number n p = cond (ltb p.0 n) (ltb p.1 number) (eqb p.1 0)

places-decided : (number n a b c : ℕ)
    → Decides (All (λ x. x < number) (take n (a ∷ b ∷ c ∷ [])) × All (λ x. x ≡ 0) (drop n (a ∷ b ∷ c ∷ []))) (list_all (place_test number n) (enumerate_from 0 (a ∷ b ∷ c ∷ [])))
places-decided number zero a b c = decides-as (each-zero (a ∷ b ∷ c ∷ [])) (λ h. (tt, h)) (λ p. p.1)
places-decided number (suc zero) a b c = decides-as (decides-and (decides-lt a number) (each-zero (b ∷ c ∷ []))) (λ h. ((h.0, tt), h.1)) (λ p. (p.0.0, p.1))
places-decided number (suc (suc zero)) a b c =
    decides-as (decides-and (decides-lt a number) (decides-and (decides-lt b number) (each-zero (c ∷ [])))) (λ h. ((h.0, (h.1.0, tt)), h.1.1)) (λ p. (p.0.0, (p.0.1.0, p.1)))
places-decided number (suc (suc (suc n))) a b c = rw (lt-ltb 0 (suc (suc (suc n))) (omega arith), lt-ltb 1 (suc (suc (suc n))) (omega arith), lt-ltb 2 (suc (suc (suc n))) (omega arith)) (past n)
  where
    past : (n : ℕ) → Decides ((a < number × (b < number × (c < number × All (λ (x : ℕ). x < number) (take n [])))) × All (λ (x : ℕ). x ≡ 0) (drop n [])) (list_all (λ x. ltb x number) (a ∷ b ∷ c ∷ []))
    past zero = decides-as (each-below number (a ∷ b ∷ c ∷ [])) (λ h. (h, tt)) (λ p. p.0)
    past (suc n) = decides-as (each-below number (a ∷ b ∷ c ∷ [])) (λ h. (h, tt)) (λ p. p.0)

-- the tests of all of them
pub fits-decided : (number : ℕ) (shape : Shape) {n : ℕ} {b : Bool} → n ≡ child_count shape.kind shape.label → b ≡ list_all (place_test number n) (enumerate_from 0 (places shape))
    → Decides (All (λ c. c < number) (children shape) × All (λ c. c ≡ 0) (unused shape)) b
unfolding children unused
fits-decided number shape e d = rw (d, e) (places-decided number (child_count shape.kind shape.label) shape.first shape.second shape.third)

-- ---- put together over the children

-- the union from the left is that from the right
union-assoc : (a b c : ℕ) → union state_width (union state_width a b) c ≡ union state_width a (union state_width b c)
unfolding union
union-assoc a b c =
    set_of-same state_width _ _
    (λ i h. rw (has-set_of state_width (λ j. has a j || has b j) i, has-set_of state_width (λ j. has b j || has c j) i, lt-ltb i state_width h) (or_assoc (has a i) (has b i) (has c i)))

union-none : (a : ℕ) → union state_width a (empty_set state_width) ≡ union state_width (empty_set state_width) a
unfolding union
union-none a = set_of-same state_width _ _ (λ i h. rw (has-empty state_width i) (or-false (has a i)))

union_all-snoc : (xs : List ℕ) (x : ℕ) → union_all (xs ++ (x ∷ [])) ≡ union state_width (union_all xs) x
union_all-snoc [] x = union-none x
union_all-snoc (y ∷ ys) x = rw (union_all-snoc ys x) (sym (union-assoc y (union_all ys) x))

-- one child's set more
pub union-more : (f : ℕ → ℕ) (cs : List ℕ) (c : ℕ) {set next : ℕ} → set ≡ union_all (map f cs) → next ≡ union state_width set (f c % 2 ^ state_width)
    → next ≡ union_all (map f (cs ++ (c ∷ [])))
union-more f cs c e d = d ∙ rw (e, map-append f cs (c ∷ []), union_all-snoc (map f cs) (f c)) (union-cut-right state_width (union_all (map f cs)) (f c))

-- a sum that is held at each step is the held sum
pub held-fold : (size : ℕ → ℕ) (cs : List ℕ) (m : ℕ) → fold (λ total c. min (total + size c) most_size) (held m) cs ≡ held (m + sum_all (map size cs))
held-fold size [] m = omega arith
held-fold size (c ∷ cs) m =
    let e : min (held m + size c) most_size ≡ held (m + size c) = omega arith in
    rw e (held-fold size cs (m + size c) ∙ ap held (add_assoc m (size c) (sum_all (map size cs))))
