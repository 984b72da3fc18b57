-- What stands at the front of the lent bytes: one record, one run after another, and the loops over symbols and rows.
use Prim.Native.Nat.{ℕ, zero, suc, ◌+◌, ◌-◌, ◌≤◌, ◌<◌}
use mathlib.Core.Path.{◌≡◌, refl, sym, ap, ◌∙◌}
use mathlib.Core.List.{List, [], ◌∷◌, ◌++◌, map, append_assoc, append-nil}
use native.Mathlib.Nat.{mod-eq_of_lt, div-eq_of_lt}
use native.Mathlib.Omega.{arith}
use lib.ListN.{length, get_or, take, drop, length-append, length-drop}
use lib.Seq.{drop-drop, take-append_seam, drop-append_seam}
use Rattle.std.proofs.lemmas.List.{take_more, take_all, drop_all}
use borrow.Rule.Slice.PartMut.{put_mid}
use Rattle.automaton.specs.File.{two_bytes, file_record, each}
use Rattle.writer.specs.Inside.{Put}

-- ---- one record

-- a number below 256 as two bytes
short : (n : ℕ) → n < 256 → two_bytes n ≡ n ∷ 0 ∷ []
unfolding two_bytes
short n h = rw (mod-eq_of_lt h, div-eq_of_lt h)

record-is : (kind : ℕ) (payload : List ℕ) → kind < 256 → length payload < 256 → file_record kind payload ≡ length payload ∷ 0 ∷ kind ∷ 0 ∷ payload
unfolding file_record
record-is kind payload k p = rw (short (length payload) p, short kind k)

pub record-long : (kind : ℕ) (payload : List ℕ) → length (file_record kind payload) ≡ 4 + length payload
unfolding file_record two_bytes
record-long kind payload = omega arith

pub record-put : (out payload : List ℕ) (kind : ℕ) → kind < 256 → length payload < 256
    → Put (file_record kind payload) out (length payload ∷ 0 ∷ kind ∷ 0 ∷ (payload ++ drop (4 + length payload - 4) (drop 4 out))) (4 + length payload)
record-put out payload kind k p =
    let long = record-long kind payload in
    let size : 4 + length payload - 4 ≡ length payload = omega arith in
    record { stored = rw (long, record-is kind payload k p, size, drop-drop (length payload) 4 out); counted = sym long }

-- ---- one run after another

-- the bytes from a place on, as a slice of them is lent
abbrev pub lent_from : List ℕ → ℕ → List ℕ
lent_from out at = take (length out - at) (drop at out)

pub from-is : (out : List ℕ) (at : ℕ) → lent_from out at ≡ drop at out
from-is out at = take_all (length out - at) (drop at out) (simp length-drop (omega arith))

pub puts-none : (out : List ℕ) → Put [] out out 0
puts-none out = record { stored = refl; counted = refl }

-- and the whole, with that slice given back
pub given-back : (out part : List ℕ) (at : ℕ) → put_mid at (length out - at) out part ≡ take at out ++ part
given-back out part at =
    ap (λ (rest : List ℕ). take at out ++ (part ++ rest)) (drop_all (length out - at) (drop at out) (simp length-drop (omega arith)))
    ∙ ap (λ (rest : List ℕ). take at out ++ rest) (append-nil part)

module _ (a before mid : List ℕ) (i : ℕ) (first : Put a before mid i) where
  front : take i mid ≡ a
  front = rw (first.counted, first.stored) (take-append_seam a (drop (length a) before))

  left : lent_from mid i ≡ drop (length a) before
  left = from-is mid i ∙ rw (first.counted, first.stored) (drop-append_seam a (drop (length a) before))

  pub puts-room : (b : List ℕ) → length (a ++ b) ≤ length before → length b ≤ length (lent_from mid i)
  puts-room b h = rw left (simp length-drop (omega (arith, length-append a b)))

  pub puts-both : (b part : List ℕ) (j : ℕ) → Put b (lent_from mid i) part j → Put (a ++ b) before (put_mid i (length mid - i) mid part) (i + j)
  puts-both b part j second =
      record {
        stored = given-back mid part i ∙ rw (front, second.stored, left, length-append a b, append_assoc, drop-drop (length b) (length a) before);
        counted = rw (length-append a b, first.counted, second.counted);
      }

-- ---- the records of a list, one after the other

pub each-map : {A B : Type 0} (bytes : B → List ℕ) (f : A → B) (xs : List A) → each bytes (map f xs) ≡ each (λ x. bytes (f x)) xs
unfolding each
each-map bytes f [] = refl
each-map bytes f (x ∷ xs) = ap (λ (l : List ℕ). bytes (f x) ++ l) (each-map bytes f xs)

module _ {A : Type 0} (bytes : A → List ℕ) where
  pub each_snoc : (xs : List A) (x : A) → each bytes (xs ++ (x ∷ [])) ≡ each bytes xs ++ bytes x
  unfolding each
  each_snoc [] x = append-nil (bytes x)
  each_snoc (y ∷ xs) x = ap (λ (l : List ℕ). bytes y ++ l) (each_snoc xs x) ∙ sym (append_assoc (bytes y) (each bytes xs) (bytes x))

  pub each-more : (xs : List A) (i : ℕ) (d : A) → i < length xs → each bytes (take (i + 1) xs) ≡ each bytes (take i xs) ++ bytes (get_or xs i d)
  each-more xs i d h = ap (each bytes) (take_more xs i d h) ∙ each_snoc (take i xs) (get_or xs i d)

  -- the records of the first take no more room than those of all
  each-first : (xs : List A) (i : ℕ) → length (each bytes (take i xs)) ≤ length (each bytes xs)
  unfolding each
  each-first xs zero = omega arith
  each-first [] (suc i) = omega arith
  each-first (x ∷ xs) (suc i) = simp length-append (omega (arith, each-first xs i))

  module _ (xs : List A) (d : A) (before : List ℕ) (room : length (each bytes xs) ≤ length before)
      (out : List ℕ) (at i : ℕ) (so_far : Put (each bytes (take i xs)) before out at) (same : length out ≡ length before) where
    pub each-done : length xs ≤ i → Put (each bytes xs) before out at
    each-done h = rw (take_all i xs h) at so_far

    module _ (less : i < length xs) where
      pub each-room : length (bytes (get_or xs i d)) ≤ length (lent_from out at)
      each-room =
          let more : length (each bytes (take i xs)) + length (bytes (get_or xs i d)) ≤ length (each bytes xs)
          = rw (each-more xs i d less, length-append) at (each-first xs (i + 1)) in
          rw from-is (simp length-drop (omega (arith, so_far.counted)))

      pub each-next : (part : List ℕ) (n : ℕ) → Put (bytes (get_or xs i d)) (lent_from out at) part n → Put (each bytes (take (i + 1) xs)) before (put_mid at (length out - at) out part) (at + n)
      each-next part n p = rw (each-more xs i d less) (puts-both (each bytes (take i xs)) before out at so_far (bytes (get_or xs i d)) part n p)
