-- Lists in arrays with unused places: one more element goes to the next place.
use Prim.Native.Nat.{ℕ, zero, suc, ◌-◌, ◌≤◌, ◌<◌}
use mathlib.Core.Path.{◌≡◌, sym}
use mathlib.Core.List.{List, [], ◌∷◌, ◌++◌}
use native.Mathlib.Nat.{sub-zero}
use native.Mathlib.Omega.{arith}
use lib.ListN.{length, get_or, take, set, replicate, length-append, length-replicate, get_or-append}
use lib.Seq.{set-append_seam, take-append_seam, take-append-le, append_snoc}
use Rattle.ground.specs.Lists.{filled, firsts}

module _ {A : Type 0} (n : ℕ) (unused : A) where
  -- none yet
  pub filled_none : replicate n unused ≡ filled n unused []
  unfolding filled
  filled_none = rw sub-zero

  pub filled-length : (xs : List A) → length xs ≤ n → length (filled n unused xs) ≡ n
  unfolding filled
  filled-length xs h = simp (length-append, length-replicate) (omega arith)

  replicate_next : (k : ℕ) → 0 < k → replicate k unused ≡ unused ∷ replicate (k - 1) unused
  replicate_next zero h = absurd (omega arith)
  replicate_next (suc k) h = let e : suc k - 1 ≡ k = omega arith in rw e

  -- the next element, stored at the first unused place
  pub filled-set : (xs : List A) (x : A) (count : ℕ) → count ≡ length xs → length xs < n → set (filled n unused xs) count x ≡ filled n unused (xs ++ (x ∷ []))
  unfolding filled
  filled-set xs x count e h =
      let left : n - length xs - 1 ≡ n - length (xs ++ (x ∷ [])) = simp length-append (omega arith) in
      rw (e, replicate_next (n - length xs) (omega arith), set-append_seam, left) (sym (append_snoc xs x _))

  pub filled-get : (xs : List A) (i : ℕ) → i < length xs → (d : A) → get_or (filled n unused xs) i d ≡ get_or xs i d
  unfolding filled
  filled-get xs i h d = get_or-append xs (replicate (n - length xs) unused) d i h

  pub filled-take : (xs : List A) (count : ℕ) → count ≡ length xs → take count (filled n unused xs) ≡ xs
  unfolding filled
  filled-take xs count e = rw e (take-append_seam xs (replicate (n - length xs) unused))

  -- the first places of an array that has them
  pub firsts-take : (xs : List A) → n ≤ length xs → firsts n unused xs ≡ take n xs
  unfolding firsts filled
  firsts-take xs h = take-append-le n xs (replicate (n - length xs) unused) h
