-- Bytes written one after the other, and bytes put where they fit.
use Prim.Native.Nat.{ℕ, suc, ◌+◌, ◌-◌, ◌<◌, ◌≤◌}
use native.Mathlib.Omega.{arith}
use native.Mathlib.Nat.{add-zero, add-suc, suc-add}
use native.Mathlib.Numerals.{add-one}
use mathlib.Core.Path.{◌≡◌, refl, ap, ◌∙◌}
use mathlib.Core.List.{List, [], ◌∷◌, ◌++◌}
use lib.ListN.{length, get_or, set, take, length-append}
use lib.Seq.{sets, sets-eq, length-sets, take-suc, take-length}
use borrow.Rule.Slice.PartMut.{put_mid}
use Rattle.std.proofs.lemmas.Slice.{put_mid-paste}
use Rattle.buffers.specs.Writing.{Wrote, Puts}

-- ---- runs of stores

module _ {A : Type 0} where
  -- one run after another is one run
  pub sets-append : (l : List A) (i : ℕ) (xs ys : List A) → sets (sets l i xs) (i + length xs) ys ≡ sets l i (xs ++ ys)
  sets-append l i [] ys = rw add-zero
  sets-append l i (x ∷ xs) ys = rw (add-suc, ← suc-add) (sets-append (set l i x) (suc i) xs ys)

-- ---- bytes written

pub wrote_then : {before middle after : List ℕ} {at next last : ℕ} {xs ys : List ℕ} → Wrote before at xs middle next → Wrote middle next ys after last
    → Wrote before at (xs ++ ys) after last
wrote_then {before = before} {at = at} {xs = xs} {ys = ys} f s =
    record {
      bytes_there = s.bytes_there ∙ rw (f.bytes_there, f.next_place) (sets-append before at xs ys);
      next_place = omega (arith, s.next_place, f.next_place, length-append xs ys);
    }

pub wrote_none : (out : List ℕ) (at : ℕ) → Wrote out at [] out at
wrote_none out at = record { bytes_there = refl; next_place = omega arith }

pub wrote-byte : (out : List ℕ) (at b : ℕ) → Wrote out at (b ∷ []) (set out at b) (at + 1)
wrote-byte out at b = record { bytes_there = refl; next_place = refl }

-- one byte more of some
pub wrote-more : (before bytes : List ℕ) (at i : ℕ) (out : List ℕ) → i < length bytes → Wrote before at (take i bytes) out (at + i)
    → Wrote before at (take (i + 1) bytes) (set out (at + i) (get_or bytes i 0)) (at + (i + 1))
wrote-more before bytes at i out h w =
    let e : (at + i) + 1 ≡ at + (i + 1) = omega arith in
    rw (← e, add-one i, take-suc bytes i 0 h) (wrote_then w (wrote-byte out (at + i) (get_or bytes i 0)))

-- ---- bytes put

-- where the part from that place on is just these bytes, they are put
pub puts_part : {before part bytes : List ℕ} {at last : ℕ} → at + length bytes ≤ length before → last ≡ at + length bytes → part ≡ bytes
    → Puts before at bytes (put_mid at (last - at) before part) last
puts_part {before} {part} {bytes} {at} {last} h e same =
    let there = put_mid-paste at (last - at) before part bytes (length bytes) same (omega arith) refl in
    record {
      fits = λ _. record { bytes_there = there ∙ rw (sets-eq bytes before at h, take-length); next_place = e };
      short = λ l. absurd (omega arith);
    }

-- one after the other: where both fit, each has room
pub fits-then : {before middle after xs ys : List ℕ} {at next last : ℕ} → (at + length xs ≤ length before → Wrote before at xs middle next)
    → (next + length ys ≤ length middle → Wrote middle next ys after last) → at + length (xs ++ ys) ≤ length before → Wrote before at (xs ++ ys) after last
fits-then {before = before} {xs = xs} {ys = ys} {at = at} f s h =
    let both = length-append xs ys in
    let w = f (omega arith) in
    let same = ap length w.bytes_there ∙ length-sets before at xs in
    wrote_then w (s (omega (arith, w.next_place)))
