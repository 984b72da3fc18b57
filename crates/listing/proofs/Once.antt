-- The promise of `list` has one outcome: two answers, and two contents left in what was lent, that keep it are the same.
use Prim.Native.Nat.{ℕ, ◌<◌, ◌≤◌}
use native.Mathlib.Omega.{arith}
use native.Mathlib.Decide.{dec_lt}
use mathlib.Core.Path.{◌≡◌}
use mathlib.Core.List.{List}
use lib.ListN.{length}
use Rattle.automaton.specs.declared.Extent.{Extent}
use Rattle.expressions.specs.Soundness.{Sound}
use Rattle.listing.specs.Answers.{Lists, listing_of}
use Rattle.ground.proofs.Deciding.{alike}
use Rattle.expressions.proofs.Decidable.{dec-sound}

pub list-once : (words : List ℕ) (count answer : ℕ) (before after other : List ℕ) (r s : Extent)
    → Lists words count answer before after r → Lists words count answer before other s → (r ≡ s) × (after ≡ other)
list-once words count answer before after other r s p q = go (dec-sound words count answer) (dec_lt (length before) (length (listing_of words count answer)))
  where
    go : Dec (Sound words count answer) → Dec (length before < length (listing_of words count answer)) → (r ≡ s) × (after ≡ other)
    go (no n) d = alike (p.unsound n) (q.unsound n)
    go (yes k) (yes l) = alike (p.short k l) (q.short k l)
    go (yes k) (no l) = let h : length (listing_of words count answer) ≤ length before = omega arith in alike (p.done k h) (q.done k h)
