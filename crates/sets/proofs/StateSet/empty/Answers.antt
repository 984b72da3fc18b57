use Rattle.sets.specs.Members.{state_width}
use Rattle.sets.proofs.Bits.{empty-zero}
use Rattle.sets.proofs.StateSet.empty.Goals as goal

pub returns : goal.returns
returns c = empty-zero state_width
