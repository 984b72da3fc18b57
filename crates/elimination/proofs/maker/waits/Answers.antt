use mathlib.Core.Path.{◌∙◌}
use Rattle.elimination.proofs.Makers.{size-cut}
use Rattle.elimination.proofs.maker.waits.Goals as goal

pub returns : goal.returns
returns c = c.count.ensures ∙ rw (c.of_word.ensures, c.node_at.ensures) (size-cut _ _)
