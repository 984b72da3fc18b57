use Rattle.std.proofs.Common.{arith}
use Rattle.std.proofs.lemmas.Grind.{common_steps}
use Rattle.trees.specs.Promises.{no_run, no_states}
use Rattle.trees.proofs.ReachedStatesFromResultReachedRefused.from.Goals as goal

pub returns : goal.returns
unfolding no_run no_states
returns c = grind (arith, common_steps)
