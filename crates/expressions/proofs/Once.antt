-- Each promise has one outcome: two answers, and two contents left in what was lent, that keep it are the same.
use Prim.Native.Nat.{ℕ, ◌<◌, ◌≤◌}
use native.Mathlib.Omega.{arith}
use native.Mathlib.Decide.{dec_lt}
use mathlib.Core.Path.{◌≡◌}
use mathlib.Core.Bool.{Bool}
use mathlib.Core.List.{List}
use lib.ListN.{length}
use Rattle.automaton.specs.declared.Refusal.{Refusal}
use Rattle.expressions.specs.declared.Measured.{Measured}
use Rattle.expressions.specs.declared.Shape.{Shape}
use Rattle.expressions.specs.Soundness.{Fits, Sound}
use Rattle.expressions.specs.Making.{Room, Makes}
use Rattle.expressions.specs.Answers.{SoundAnswer, Measures}
use Rattle.ground.proofs.Deciding.{alike, decides-once}
use Rattle.expressions.proofs.Decidable.{dec-fits, dec-room, dec-sound}

pub sound-once : (words : List ℕ) (count answer : ℕ) (r s : Bool) → SoundAnswer words count answer r → SoundAnswer words count answer s → r ≡ s
sound-once words count answer r s p q = decides-once p q

pub make-once : (before : List ℕ) (count : ℕ) (shape : Shape) (after other : List ℕ) (r s : Refusal)
    → Makes before count shape after r → Makes before count shape other s → (r ≡ s) × (after ≡ other)
make-once before count shape after other r s p q = go (dec-fits count shape) (dec-room before count)
  where
    go : Dec (Fits count shape) → Dec (Room before count) → (r ≡ s) × (after ≡ other)
    go (no n) d = alike (p.unfit n) (q.unfit n)
    go (yes f) (no n) = alike (p.full f n) (q.full f n)
    go (yes f) (yes m) = alike (p.done f m) (q.done f m)

pub measure-once : (words : List ℕ) (count answer : ℕ) (before after other : List ℕ) (r s : Measured)
    → Measures words count answer before after r → Measures words count answer before other s → (r ≡ s) × (after ≡ other)
measure-once words count answer before after other r s p q = go (dec-sound words count answer) (dec_lt (length before) count)
  where
    go : Dec (Sound words count answer) → Dec (length before < count) → (r ≡ s) × (after ≡ other)
    go (no n) d = alike (p.unsound n) (q.unsound n)
    go (yes k) (yes l) = alike (p.short k l) (q.short k l)
    go (yes k) (no l) = let h : count ≤ length before = omega arith in alike (p.done k h) (q.done k h)
