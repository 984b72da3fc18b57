use native.Mathlib.Omega.{arith}
use Rattle.sets.specs.Members.{state_width}
use Rattle.sets.proofs.Bits.{shifted_right}
use Rattle.sets.proofs.Membership.{past-count}
use Rattle.sets.proofs.StateSet.past.Goals as goal

pub returns : goal.returns
returns c = rw (c.unbounded_shr.ensures, c.from.ensures, shifted_right state_width c.args.self.0 c.args.count (omega arith)) (past-count c.args.count c.args.self.0)
