-- `nodes::iter_opens` meets its contract.
use mathlib.Core.Path.{◌∙◌}
use Rattle.sets.specs.Members.{state_width}
use Rattle.sets.proofs.Membership.{union-cut-left}
use Rattle.expressions.proofs.nodes.iter_opens.Goals as goal

pub returns : goal.returns
returns c = c.wide.ensures ∙ c.union.ensures ∙ rw (c.of_word.ensures, c.one.ensures) (union-cut-left state_width _ _)
