-- The checks of a record before its values, one after the other, as the reader makes them; and which lengths and kinds pass them.
use Prim.Native.Nat.{ℕ, ◌+◌, ◌≤◌, ◌<◌}
use mathlib.Core.Bool.{true, false, ◌&&◌, or-false}
use mathlib.Core.Path.{◌≡◌, refl, sym, ap, ◌∙◌}
use mathlib.Core.List.{List, [], ◌∷◌}
use native.Mathlib.Omega.{arith}
use lib.Dec.{leb, eqb}
use lib.ListN.{length, take, drop, length-drop}
use lib.Seq.{drop-drop}
use Rattle.std.specs.List.{IsSplitAt}
use borrow.Author.Tests.{lt-ltb, le-ltb, ne_eqb}
use Rattle.automaton.specs.Checks.{SoFar, nothing, given, wrong, number_at, is_none, kind_allowed, length_allowed, values, record_found}
use Rattle.automaton.specs.Inside.{code_of, NoKind, RecordRead}
use Rattle.automaton.specs.declared.reader.Kind.{Kind}

module _ (so_far : SoFar) (bytes : List ℕ) (size kind : ℕ) where
  pub found-short : length bytes < 4 → record_found so_far bytes ≡ wrong 1
  unfolding record_found
  found-short h = rw (lt-ltb (length bytes) 4 h)

  module _ (four : 4 ≤ length bytes) (sized : size ≡ number_at bytes 0) (kinded : kind ≡ number_at bytes 2) where
    pub found-kind : kind_allowed so_far kind ≡ false → record_found so_far bytes ≡ wrong 2
    unfolding record_found
    found-kind h = rw (le-ltb (length bytes) 4 four, ← kinded, h)

    module _ (known : kind_allowed so_far kind ≡ true) where
      pub found-length : length_allowed kind size ≡ false → record_found so_far bytes ≡ wrong 3
      unfolding record_found
      found-length h = rw (le-ltb (length bytes) 4 four, ← kinded, ← sized, known, h)

      module _ (long : length_allowed kind size ≡ true) where
        pub found-cut : length bytes < 4 + size → record_found so_far bytes ≡ wrong 1
        unfolding record_found
        found-cut h = rw (le-ltb (length bytes) 4 four, ← kinded, ← sized, known, long, lt-ltb (length bytes) (4 + size) h)

        pub found-there : 4 + size ≤ length bytes → record_found so_far bytes ≡ values so_far kind (take size (drop 4 bytes))
        unfolding record_found
        found-there h = rw (le-ltb (length bytes) 4 four, ← kinded, ← sized, known, long, le-ltb (length bytes) (4 + size) h)

-- a record of a kind that may stand here and has such a length, cut from the bytes after its first four
pub found-record : (so_far : SoFar) (bytes : List ℕ) (size : ℕ) (kind : Kind) (payload rest : List ℕ) → 4 ≤ length bytes → size ≡ number_at bytes 0 → code_of kind ≡ number_at bytes 2
    → kind_allowed so_far (code_of kind) ≡ true → length_allowed (code_of kind) size ≡ true → IsSplitAt (drop 4 bytes) size payload rest → RecordRead so_far bytes kind payload rest
found-record so_far bytes size kind payload rest four sized kinded known long cut =
    let there : 4 + size ≤ length bytes = omega (arith, cut.0, length-drop 4 bytes) in
    let long_is : length payload ≡ size = cut.3 in
    record {
      allowed = known;
      sized = rw long_is long;
      found = found-there so_far bytes size (code_of kind) four sized kinded known long there ∙ ap (values so_far (code_of kind)) (sym cut.1);
      size = sym sized ∙ sym long_is;
      left = cut.2 ∙ rw long_is (drop-drop size 4 bytes);
      shorter = omega (arith, cut.4, length-drop 4 bytes, long_is);
    }

-- ---- which kinds

-- a number that no kind has may stand nowhere
pub allowed-none : (so_far : SoFar) (kind : ℕ) → NoKind kind → kind_allowed so_far kind ≡ false
unfolding kind_allowed
allowed-none nothing kind u = ne_eqb kind 1 u.no_head
allowed-none (given held) kind u = rw (ne_eqb kind 2 u.no_symbol, ne_eqb kind 3 u.no_row, ne_eqb kind 9 u.no_end)

pub none-length : {A : Type 0} (xs : List A) → is_none xs ≡ eqb (length xs) 0
none-length [] = refl
none-length (x ∷ xs) = sym (ne_eqb (length (x ∷ xs)) 0 (λ e. omega arith))

-- ---- which lengths

-- a number that no kind has goes with no length
pub length_none : (kind size : ℕ) → NoKind kind → false ≡ length_allowed kind size
unfolding length_allowed
length_none kind size u =
    rw (ne_eqb kind 1 u.no_head, ne_eqb kind 2 u.no_symbol, ne_eqb kind 3 u.no_row, ne_eqb kind 9 u.no_end)

pub length-head : (size : ℕ) → eqb size 3 ≡ length_allowed 1 size
unfolding length_allowed
length-head size = sym (or-false _) ∙ sym (or-false _) ∙ sym (or-false _)

pub length-symbol : (size : ℕ) → eqb size 1 ≡ length_allowed 2 size
unfolding length_allowed
length-symbol size = sym (or-false _) ∙ sym (or-false _)

pub length-row : (size : ℕ) → (leb 2 size && leb size 5) ≡ length_allowed 3 size
unfolding length_allowed
length-row size = sym (or-false _)

pub length-end : (size : ℕ) → eqb size 0 ≡ length_allowed 9 size
unfolding length_allowed
length-end size = refl
