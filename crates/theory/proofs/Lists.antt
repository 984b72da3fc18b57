-- Laws of lists that the elimination uses: those that pass a test, the states ascending, what holds of each.
use Prim.Native.Nat.{ℕ, zero, suc, ◌<◌, ◌≤◌}
use native.Mathlib.Omega.{arith}
use native.Mathlib.Decide.{dec_lt}
use mathlib.Core.Path.{◌≡◌, refl, sym, ap}
use mathlib.Core.Bool.{Bool, true, false, cond, not}
use mathlib.Core.List.Memᴰ
use mathlib.Core.List.{List, [], ◌∷◌, ◌++◌, Memᴰ}
use mathlib.Core.Logic.{◌⊎◌, inl, inr}
use lib.ListN.{length, length-append}
use lib.Dec.{T, eqb, T_not}
use borrow.Author.Tests.{ne_eqb, eqb-true, eq-eqb}
use Rattle.ground.specs.Lists.{All, those}
use Rattle.ground.proofs.Lists.{of-all, to-all, of-those}
use Rattle.ground.proofs.Tests.{of-true}
use Rattle.theory.specs.RowLists.{ascending}

-- ---- no state twice

abbrev pub Distinct : List ℕ → Type 0
Distinct [] = Unit {0}
Distinct (q ∷ qs) = (Memᴰ q qs → ⊥) × Distinct qs

-- ---- the states ascending

pub in-ascending : (k q : ℕ) → q < k → Memᴰ q (ascending k)
unfolding ascending
in-ascending zero q h = absurd (omega arith)
in-ascending (suc k) q h = go (dec_lt q k) (λ l. in-ascending k q l)
  where
    go : Dec (q < k) → (q < k → Memᴰ q (ascending k)) → Memᴰ q (ascending k ++ (k ∷ []))
    go (yes l) r = Memᴰ.append_left (k ∷ []) (r l)
    go (no l) r = Memᴰ.append_right (ascending k) (Memᴰ.head (omega arith))

pub of-ascending : (k q : ℕ) → Memᴰ q (ascending k) → q < k
unfolding ascending
of-ascending zero q m = absurd (Memᴰ.not-nil m)
of-ascending (suc k) q m = go (Memᴰ.append_cases (ascending k) m) (λ n. of-ascending k q n)
  where
    go : Memᴰ q (ascending k) ⊎ Memᴰ q (k ∷ []) → (Memᴰ q (ascending k) → q < k) → q < suc k
    go (inl n) r = let h = r n in omega arith
    go (inr n) r = let e = Memᴰ.eq_of_singleton n in omega arith

pub all-ascending : (k n : ℕ) → k ≤ n → All (λ q. q < n) (ascending k)
all-ascending k n h = to-all (λ q. q < n) (ascending k) (λ q m. let l = of-ascending k q m in omega arith)

pub ascending-length : (k : ℕ) → length (ascending k) ≡ k
unfolding ascending
ascending-length zero = refl
ascending-length (suc k) = let h = ascending-length k in omega (arith, length-append (ascending k) (k ∷ []))

-- ---- distinct states are no more than there are

others : ℕ → ℕ → Bool
others n x = not (eqb x n)

others-not : (n x : ℕ) → T (others n x) → x ≡ n → ⊥
unfolding others
others-not n x w e = T_not (eqb x n) w (of-true (eq-eqb x n e))

others-all : (n : ℕ) (qs : List ℕ) → (Memᴰ n qs → ⊥) → those (others n) qs ≡ qs
unfolding those others
others-all n [] h = refl
others-all n (q ∷ qs) h = rw (ne_eqb q n (λ e. h (Memᴰ.head (sym e)))) (ap (q ∷◌) (others-all n qs (λ m. h (Memᴰ.tail m))))

-- at most one of them is n
others-length : (n : ℕ) (qs : List ℕ) → Distinct qs → length qs ≤ suc (length (those (others n) qs))
unfolding those others
others-length n [] d = omega arith
others-length n (q ∷ qs) d = go (eqb q n) refl (others-length n qs d.1)
  where
    go : (b : Bool) → eqb q n ≡ b → length qs ≤ suc (length (those (others n) qs)) → suc (length qs) ≤ suc (length (cond (not b) (q ∷ those (others n) qs) (those (others n) qs)))
    go true e h = let i = eqb-true q n e in rw (others-all n qs (λ m. d.0 (Memᴰ.cast i m))) (omega arith)
    go false e h = omega arith

those-distinct : (test : ℕ → Bool) (qs : List ℕ) → Distinct qs → Distinct (those test qs)
unfolding those
those-distinct test [] d = tt
those-distinct test (q ∷ qs) d = go (test q) (those-distinct test qs d.1)
  where
    go : (b : Bool) → Distinct (those test qs) → Distinct (cond b (q ∷ those test qs) (those test qs))
    go true r = (λ m. d.0 (of-those test qs m).0, r)
    go false r = r

pub distinct-few : (n : ℕ) (qs : List ℕ) → Distinct qs → All (λ q. q < n) qs → length qs ≤ n
distinct-few zero [] d a = omega arith
distinct-few zero (q ∷ qs) d a = absurd (let h = a.0 in omega arith)
distinct-few (suc n) qs d a =
    omega (arith, others-length n qs d, distinct-few n (those (others n) qs) (those-distinct (others n) qs d) (to-all (λ q. q < n) (those (others n) qs) below))
  where
    below : (q : ℕ) → Memᴰ q (those (others n) qs) → q < n
    below q m =
        let c = of-those (others n) qs m in
        let h = of-all (λ q. q < suc n) qs a c.0 in
        let i = others-not n q c.1 in
        omega arith

-- the ascending states are distinct
pub distinct-ascending : (k : ℕ) → Distinct (ascending k)
unfolding ascending
distinct-ascending zero = tt
distinct-ascending (suc k) = go (ascending k) (λ q m. of-ascending k q m) (distinct-ascending k)
  where
    go : (qs : List ℕ) → ((q : ℕ) → Memᴰ q qs → q < k) → Distinct qs → Distinct (qs ++ (k ∷ []))
    go [] h d = (λ m. Memᴰ.not-nil m, tt)
    go (q ∷ qs) h d = (λ m. either (Memᴰ.append_cases qs m), go qs (λ p m. h p (Memᴰ.tail m)) d.1)
      where
        either : Memᴰ q qs ⊎ Memᴰ q (k ∷ []) → ⊥
        either (inl m) = d.0 m
        either (inr m) = let e = Memᴰ.eq_of_singleton m in let l = h q (Memᴰ.head refl) in omega arith
