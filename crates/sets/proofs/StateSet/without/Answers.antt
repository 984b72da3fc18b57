use native.Mathlib.Omega.{arith}
use Rattle.sets.specs.Members.{state_width}
use Rattle.sets.proofs.Bits.{without-and}
use Rattle.sets.proofs.StateSet.without.Goals as goal

pub returns : goal.returns
returns c = rw c.one.ensures (without-and state_width c.args.self.0 c.args.state (omega arith))
