use mathlib.Core.Path.{refl}
use Rattle.trees.specs.Stacks.{down}
use Rattle.trees.proofs.stack.Stack.new.Goals as goal

pub returns : goal.returns
unfolding down
returns g c = refl
