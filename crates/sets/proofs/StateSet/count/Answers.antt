use native.Mathlib.Omega.{arith}
use Rattle.sets.specs.Members.{state_width}
use Rattle.sets.proofs.Bits.{ones-size}
use Rattle.sets.proofs.StateSet.count.Goals as goal

pub returns : goal.returns
returns c = ones-size state_width c.args.self.0 (omega arith)
