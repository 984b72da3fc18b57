use mathlib.Core.Path.{◌∙◌}
use Rattle.sets.specs.Members.{state_width}
use Rattle.sets.proofs.Bits.{one_shifted}
use Rattle.sets.proofs.StateSet.one.Goals as goal

pub returns : goal.returns
returns c = c.unbounded_shl.ensures ∙ one_shifted state_width c.args.state
