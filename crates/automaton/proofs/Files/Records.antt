-- Records and their bytes, both ways: what is read off a record that was written, and that a record whose frame passes is the record that would be written.
use Prim.Native.Nat.{ℕ, zero, suc, ◌+◌, ◌*◌, ◌/◌, ◌%◌, ◌≤◌, ◌<◌}
use mathlib.Core.Bool.{Bool, true}
use mathlib.Core.Path.{◌≡◌, sym, ap, ◌∙◌}
use mathlib.Core.List.{List, [], ◌∷◌, ◌++◌}
use native.Mathlib.Nat.{mod-eq_of_lt}
use native.Mathlib.Omega.{arith}
use lib.ListN.{length, take, drop, length-append, take-append-drop}
use lib.Seq.{length-take-le, take-append_seam, drop-append_seam, drop-drop}
use Rattle.ground.specs.Lists.{All}
use Rattle.automaton.specs.File.{two_bytes, file_record}
use Rattle.automaton.specs.Checks.{SoFar, number_at, kind_allowed, length_allowed, values, record_found}
use Rattle.automaton.proofs.Finding.Verdicts.{Passed, found-values}

-- every element is a byte
abbrev pub Bytes : List ℕ → Type 0
Bytes bytes = All (λ b. b < 256) bytes

pub bytes_drop : (n : ℕ) (bytes : List ℕ) → Bytes bytes → Bytes (drop n bytes)
bytes_drop zero bytes b = b
bytes_drop (suc n) [] b = tt
bytes_drop (suc n) (x ∷ bytes) b = bytes_drop n bytes b.1

-- ---- a number and its two bytes

pub two-of : (low high : ℕ) → low < 256 → high < 256 → two_bytes (low + 256 * high) ≡ low ∷ high ∷ []
unfolding two_bytes
two-of low high l h =
    let a : (low + 256 * high) % 256 ≡ low = omega arith in
    let b : (low + 256 * high) / 256 ≡ high = omega arith in
    rw (a, b, mod-eq_of_lt h)

pub number_of : (n : ℕ) → n < 65536 → n % 256 + 256 * (n / 256 % 256) ≡ n
number_of n h = omega arith

-- ---- reading a record that was written

module _ (kind : ℕ) (payload rest : List ℕ) (k : kind < 65536) (p : length payload < 65536) where
  pub record-size : number_at (file_record kind payload ++ rest) 0 ≡ length payload
  unfolding number_at file_record two_bytes
  record-size = number_of (length payload) p

  pub record-kind : number_at (file_record kind payload ++ rest) 2 ≡ kind
  unfolding number_at file_record two_bytes
  record-kind = number_of kind k

  pub record-payload : take (number_at (file_record kind payload ++ rest) 0) (drop 4 (file_record kind payload ++ rest)) ≡ payload
  unfolding file_record two_bytes
  record-payload = rw record-size (take-append_seam payload rest)

  pub record-rest : drop (4 + number_at (file_record kind payload ++ rest) 0) (file_record kind payload ++ rest) ≡ rest
  unfolding file_record two_bytes
  record-rest = rw (record-size, ← drop-drop (length payload) 4) (drop-append_seam payload rest)

  pub record-length : length (file_record kind payload) ≡ 4 + length payload
  unfolding file_record two_bytes
  record-length = omega arith

  pub record-passed : (allowed : ℕ → Bool) → allowed kind ≡ true → length_allowed kind (length payload) ≡ true → Passed allowed (file_record kind payload ++ rest)
  record-passed allowed a l =
      record {
        four = simp (length-append, record-length) (omega arith);
        kind = rw record-kind a;
        sized = rw (record-kind, record-size) l;
        there = rw record-size (simp (length-append, record-length) (omega arith));
      }

  -- the checks before the values are passed, and the values are those of the payload
  pub record-read : (so_far : SoFar) → kind_allowed so_far kind ≡ true → length_allowed kind (length payload) ≡ true
      → record_found so_far (file_record kind payload ++ rest) ≡ values so_far kind payload
  record-read so_far a l = found-values so_far (file_record kind payload ++ rest) (record-passed (kind_allowed so_far) a l) ∙ rw (record-kind, record-payload)

-- ---- a record that passes is the record that would be written

pub record-bytes : (bytes : List ℕ) → Bytes bytes → 4 + number_at bytes 0 ≤ length bytes
    → bytes ≡ file_record (number_at bytes 2) (take (number_at bytes 0) (drop 4 bytes)) ++ drop (4 + number_at bytes 0) bytes
unfolding number_at file_record
record-bytes [] b h = absurd (omega arith)
record-bytes (w ∷ []) b h = absurd (omega arith)
record-bytes (w ∷ x ∷ []) b h = absurd (omega arith)
record-bytes (w ∷ x ∷ y ∷ []) b h = absurd (omega arith)
record-bytes (w ∷ x ∷ y ∷ z ∷ rest) b h =
    let size = w + 256 * x in
    let long : length (take size rest) ≡ size = length-take-le size rest (omega arith) in
    rw (long, two-of w x b.0 b.1.0, two-of y z b.1.1.0 b.1.1.1.0, ← drop-drop size 4) (ap (λ (l : List ℕ). w ∷ x ∷ y ∷ z ∷ l) (sym (take-append-drop size rest)))
