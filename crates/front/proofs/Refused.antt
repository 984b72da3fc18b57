-- The line "refused N": its bytes, and a reason's.
use Prim.Native.Nat.{ℕ, ◌+◌, ◌%◌, ◌<◌}
use native.Mathlib.Omega.{arith}
use mathlib.Core.Path.{◌≡◌, refl, sym, ◌∙◌, ap}
use mathlib.Core.List.{List, [], ◌∷◌}
use lib.ListN.{length}
use denote.Enum.Declared.{tag_of}
use Rattle.automaton.specs.contracts.Refused.{the_type}
use Rattle.automaton.specs.declared.Refused.{Refused}
use Rattle.automaton.specs.declared.Refused.TheVariants.{BreaksOff, Kind, Length, Limit, PastEnd, Short, NoTree, Unsound, TooFar}
use Rattle.automaton.specs.Refusals.{number_of}
use Rattle.listing.specs.Listing.{spaced, line}
use Rattle.buffers.proofs.Decimal.{decimal-one}
use Rattle.front.specs.Text.{refused_line}

-- the line of a number with one digit
abbrev line_bytes : ℕ → List ℕ
line_bytes number = 114 ∷ 101 ∷ 102 ∷ 117 ∷ 115 ∷ 101 ∷ 100 ∷ 32 ∷ (48 + number) ∷ 10 ∷ []

line-bytes : (number : ℕ) → number < 10 → refused_line number ≡ line_bytes number
unfolding refused_line line spaced
line-bytes number h = let e : number % 10 ≡ number = omega arith in rw (decimal-one number h, e)

pub refused-length : (number : ℕ) → number < 10 → length (refused_line number) ≡ 10
refused-length number h = ap length (line-bytes number h)

-- a reason's number, as its line shows it
pub reason-few : (reason : Refused) → number_of reason < 10
reason-few BreaksOff = omega arith
reason-few Kind = omega arith
reason-few Length = omega arith
reason-few Limit = omega arith
reason-few PastEnd = omega arith
reason-few Short = omega arith
reason-few NoTree = omega arith
reason-few Unsound = omega arith
reason-few TooFar = omega arith

reason-tag : (reason : Refused) → tag_of the_type reason + 1 ≡ number_of reason
reason-tag BreaksOff = refl
reason-tag Kind = refl
reason-tag Length = refl
reason-tag Limit = refl
reason-tag PastEnd = refl
reason-tag Short = refl
reason-tag NoTree = refl
reason-tag Unsound = refl
reason-tag TooFar = refl

pub refused-there : (reason : Refused) → line_bytes (tag_of the_type reason + 1) ≡ refused_line (number_of reason)
refused-there reason = ap line_bytes (reason-tag reason) ∙ sym (line-bytes (number_of reason) (reason-few reason))
