-- Refusals as they are returned [section 4]: the reasons with their numbers, done, and a file's fault. Everything that gives a refusal names it from here.
use Rattle.std.specs.Prelude.{ℕ, Result, Ok, Err}
use Rattle.automaton.specs.declared.Refused.{Refused}
use Rattle.automaton.specs.declared.Refused.TheVariants.{BreaksOff, Kind, Length, Limit, PastEnd, Short, NoTree, Unsound, TooFar}
use Rattle.automaton.specs.declared.Refusal.{Refusal}
use Rattle.automaton.specs.declared.Extent.{Extent}

-- the refusal of this number [4.1 to 4.9]
abbrev pub refusal : ℕ → Refusal
refusal number = record { number = number }

-- done: no refusal [4.0]
abbrev pub no_refusal : Refusal
no_refusal = refusal 0

-- the number of each reason [4.1 to 4.9] [12.13]
abbrev pub number_of : Refused → ℕ
number_of BreaksOff = 1
number_of Kind = 2
number_of Length = 3
number_of Limit = 4
number_of PastEnd = 5
number_of Short = 6
number_of NoTree = 7
number_of Unsound = 8
number_of TooFar = 9

-- the refusal in a result: done where it has a value [4.0] [12.13]
abbrev pub refusal_of : {T : Type 0} → Result T Refused → Refusal
refusal_of (Ok value) = no_refusal
refusal_of (Err reason) = refusal (number_of reason)

-- the refusal and the length in a result that is a length: 0 on a refusal [4.20] [12.13]
abbrev pub extent_of : Result ℕ Refused → Extent
extent_of (Ok size) = record { refusal = no_refusal; length = size }
extent_of (Err reason) = record { refusal = refusal (number_of reason); length = 0 }

-- a file's fault, as it is handed on: its number alone [3.7]
abbrev pub fault_refusal : (number offset : ℕ) → Refusal
fault_refusal number offset = refusal number
