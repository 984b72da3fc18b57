use native.Mathlib.Omega.{arith}
use Rattle.sets.specs.Members.{state_width}
use Rattle.sets.proofs.Bits.{union-or}
use Rattle.sets.proofs.StateSet.union.Goals as goal

pub returns : goal.returns
returns c = union-or state_width c.args.self.0 c.args.other.0 (omega arith) (omega arith)
