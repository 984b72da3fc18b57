-- The first bytes of a file decide what it is found to be: the checks read one record after the other, at most 97 pass before the one that ends them, none that passes has more than 9 bytes, and 10 bytes show which the last one is.
use Prim.Native.Nat.{ℕ, zero, suc, ◌+◌, ◌-◌, ◌*◌, ◌<◌, ◌≤◌}
use native.Mathlib.Omega.{arith}
use native.Mathlib.Decide.{dec_lt, ℕ_discrete}
use mathlib.Core.Path.{◌≡◌, refl, sym, ◌∙◌, ap, ap₂}
use mathlib.Core.Bool.{Bool, true, false, not, and-false}
use mathlib.Core.List.{List, [], ◌∷◌}
use lib.Dec.{leb, ltb, eqb}
use lib.ListN.{length, take, drop, length-append, length-drop}
use lib.Seq.{take_all, take-take, get_or-take, length-take-le}
use borrow.Author.Tests.{le-ltb, lt-leb, ne_eqb}
use Rattle.automaton.specs.Held.{Held}
use Rattle.automaton.specs.Checks.{Verdict, verdict, verdict_from, SoFar, nothing, given, Found, wrong, more, end, wrong_if, follow, number_at, is_none, kind_allowed, length_allowed, values, record_found}
use Rattle.automaton.proofs.Finding.Verdicts.{enough, more-passed}
use Rattle.automaton.proofs.Files.Inverse.{head-good, symbol-good, row-good, other_none}

-- ---- parts of lists

none-taken : {A : Type 0} (m : ℕ) → [] ≡ take {A = A} m []
none-taken zero = refl
none-taken (suc m) = refl

drop-part : {A : Type 0} (n k : ℕ) (l : List A) → k ≤ n → drop k (take n l) ≡ take (n - k) (drop k l)
drop-part n zero l h = let e : n ≡ n - 0 = omega arith in ap (λ (m : ℕ). take m l) e
drop-part zero (suc k) l h = absurd (omega arith)
drop-part (suc n) (suc k) [] h = none-taken (suc n - suc k)
drop-part (suc n) (suc k) (x ∷ xs) h = let e : n - k ≡ suc n - suc k = omega arith in drop-part n k xs (omega arith) ∙ ap (λ (m : ℕ). take m (drop k xs)) e

some_left : (l : List ℕ) → 0 < length l → is_none l ≡ false
some_left [] h = absurd (omega arith)
some_left (x ∷ xs) h = refl

number-take : (bytes : List ℕ) (n i : ℕ) → i + 1 < n → number_at (take n bytes) i ≡ number_at bytes i
unfolding number_at
number-take bytes n i h = ap₂ (λ (a b : ℕ). a + 256 * b) (get_or-take n bytes i 0 (omega arith)) (get_or-take n bytes (i + 1) 0 h)

-- ---- one record

-- a payload of more than 5 bytes is wrong for every kind
size-most : (kind size : ℕ) → length_allowed kind size ≡ true → size ≤ 5
unfolding length_allowed
size-most kind size e = go (dec_lt 5 size)
  where
    refused : 5 < size → length_allowed kind size ≡ false
    refused h =
        rw (
          ne_eqb size 3 (λ z. omega arith),
          ne_eqb size 1 (λ z. omega arith),
          lt-leb size 5 h,
          ne_eqb size 0 (λ z. omega arith),
          and-false (eqb kind 1),
          and-false (eqb kind 2),
          and-false (leb 2 size),
          and-false (eqb kind 3),
          and-false (eqb kind 9),
        )

    go : Dec (5 < size) → size ≤ 5
    go (yes h) = let f = refused h in let z : true ≡ false = sym e ∙ f in let y : ◌≡◌ {A = ℕ} 0 1 = cc in absurd (omega arith)
    go (no h) = omega arith

module _ (bytes : List ℕ) (n : ℕ) (ten : 10 ≤ n) (cut : n < length bytes) where
  same-payload : (size : ℕ) → size ≤ 5 → take size (drop 4 (take n bytes)) ≡ take size (drop 4 bytes)
  same-payload size h = ap (take size) (drop-part n 4 bytes (omega arith)) ∙ take-take size (n - 4) (drop 4 bytes) (omega arith)

  -- a record is found to be the same
  same-found : (so_far : SoFar) → record_found so_far (take n bytes) ≡ record_found so_far bytes
  unfolding record_found
  same-found so_far =
      rw (
        number-take bytes n 0 (omega arith),
        number-take bytes n 2 (omega arith),
        length-take-le n bytes (omega arith),
        le-ltb n 4 (omega arith),
        le-ltb (length bytes) 4 (omega arith),
      )
      (ap (wrong_if (not (kind_allowed so_far (number_at bytes 2))) 2) (go (length_allowed (number_at bytes 2) (number_at bytes 0)) refl))
    where
      size : ℕ
      size = number_at bytes 0

      kind : ℕ
      kind = number_at bytes 2

      go : (b : Bool) → length_allowed kind size ≡ b
          → wrong_if (not b) 3 (wrong_if (ltb n (4 + size)) 1 (values so_far kind (take size (drop 4 (take n bytes)))))
          ≡ wrong_if (not b) 3 (wrong_if (ltb (length bytes) (4 + size)) 1 (values so_far kind (take size (drop 4 bytes))))
      go false e = refl
      go true e =
          let h = size-most kind size e in
          rw (le-ltb n (4 + size) (omega arith), le-ltb (length bytes) (4 + size) (omega arith)) (ap (values so_far kind) (same-payload size h))

-- ---- one record after the other

-- how many records may still pass
left : SoFar → ℕ
left nothing = 97
left (given held) = (32 - length held.arities) + (64 - length held.rules)

left_less : (so_far : SoFar) (bytes : List ℕ) (held : Held) → record_found so_far bytes ≡ more held → suc (left (given held)) ≤ left so_far
unfolding left
left_less nothing bytes held e = let g = head-good bytes held e in rw g.is (omega arith)
left_less (given before) bytes held e = go (ℕ_discrete (number_at bytes 2) 2) (ℕ_discrete (number_at bytes 2) 3)
  where
    go : Dec (number_at bytes 2 ≡ 2) → Dec (number_at bytes 2 ≡ 3) → suc (left (given held)) ≤ left (given before)
    go (yes k) d = let g = symbol-good before held bytes e k in let few = g.few in rw g.is (omega (arith, length-append before.arities (g.arity ∷ [])))
    go (no m) (yes k) = let g = row-good before held bytes e m k in let few = g.few in rw g.is (omega (arith, length-append before.rules (g.rule ∷ [])))
    go (no m) (no k) = absurd (other_none before held bytes e m k)

-- the bytes that the checks may look at from here on
abbrev reach : SoFar → ℕ
reach so_far = 9 * left so_far + 10

same_from : (turns offset : ℕ) (so_far : SoFar) (bytes : List ℕ) (n : ℕ) → reach so_far ≤ n → verdict_from turns offset so_far (take n bytes) ≡ verdict_from turns offset so_far bytes
unfolding verdict_from
same_from zero offset so_far bytes n h = refl
same_from (suc turns) offset so_far bytes n h = go (dec_lt n (length bytes)) (λ held m. same_from turns (offset + taken) (given held) (drop taken bytes) (n - taken) m)
  where
    taken : ℕ
    taken = 4 + number_at bytes 0

    on : List ℕ → Held → Verdict
    on rest held = verdict_from turns (offset + taken) (given held) rest

    shorter : n < length bytes → (held : Held) → record_found so_far bytes ≡ more held → (taken ≤ n) × (reach (given held) ≤ n - taken)
    shorter cut held e =
        let p = more-passed so_far bytes held e in
        let s = size-most (number_at bytes 2) (number_at bytes 0) p.sized in
        let l = left_less so_far bytes held e in
        (omega arith, omega arith)

    found : n < length bytes → ((held : Held) → reach (given held) ≤ n - taken → on (take (n - taken) (drop taken bytes)) held ≡ on (drop taken bytes) held)
        → (f : Found) → record_found so_far bytes ≡ f → follow f offset (on (drop taken (take n bytes))) false ≡ follow f offset (on (drop taken bytes)) false
    found cut ih (wrong number) e = refl
    found cut ih (end held) e = refl
    found cut ih (more held) e = let s = shorter cut held e in ap (λ (rest : List ℕ). on rest held) (drop-part n taken bytes s.0) ∙ ih held s.1

    go : Dec (n < length bytes) → ((held : Held) → reach (given held) ≤ n - taken → on (take (n - taken) (drop taken bytes)) held ≡ on (drop taken bytes) held)
        → follow (record_found so_far (take n bytes)) offset (λ held. verdict_from turns (offset + (4 + number_at (take n bytes) 0)) (given held) (drop (4 + number_at (take n bytes) 0) (take n bytes))) (is_none (drop 4 (take n bytes)))
        ≡ follow (record_found so_far bytes) offset (on (drop taken bytes)) (is_none (drop 4 bytes))
    go (no c) ih = let e = take_all n bytes (omega arith) in rw e refl
    go (yes cut) ih =
        let whole : 0 < length (drop 4 bytes) = simp length-drop (omega arith) in
        let part : 0 < length (drop 4 (take n bytes)) = simp length-drop (omega (arith, length-take-le n bytes (omega arith))) in
        rw (
          number-take bytes n 0 (omega arith),
          same-found bytes n (omega arith) cut so_far,
          some_left (drop 4 (take n bytes)) part,
          some_left (drop 4 bytes) whole,
        )
        (found cut ih (record_found so_far bytes) refl)

-- ---- the file

-- 883 is 9 × 97 + 10
pub verdict-cap : (file : List ℕ) (n : ℕ) → 883 ≤ n → verdict (take n file) ≡ verdict file
unfolding verdict left
verdict-cap file n h = go (dec_lt n (length file))
  where
    go : Dec (n < length file) → verdict_from (suc (length (take n file))) 0 nothing (take n file) ≡ verdict_from (suc (length file)) 0 nothing file
    go (no c) = ap (λ (l : List ℕ). verdict_from (suc (length l)) 0 nothing l) (take_all n file (omega arith))
    go (yes c) =
        let l = length-take-le n file (omega arith) in
        enough (suc (length (take n file))) (suc (length file)) 0 nothing (take n file) (omega arith) (omega arith) ∙ same_from (suc (length file)) 0 nothing file n h
