-- The numbers of refusals: a reason's number is not 0.
use Rattle.std.proofs.Common.{◌≡◌, arith}
use Rattle.automaton.specs.declared.Refused.{Refused}
use Rattle.automaton.specs.declared.Refused.TheVariants.{BreaksOff, Kind, Length, Limit, PastEnd, Short, NoTree, Unsound, TooFar}
use Rattle.automaton.specs.Refusals.{number_of}

-- a reason's number is not that of done
pub number-some : (reason : Refused) → number_of reason ≡ 0 → ⊥
number-some BreaksOff e = omega arith
number-some Kind e = omega arith
number-some Length e = omega arith
number-some Limit e = omega arith
number-some PastEnd e = omega arith
number-some Short e = omega arith
number-some NoTree e = omega arith
number-some Unsound e = omega arith
number-some TooFar e = omega arith
