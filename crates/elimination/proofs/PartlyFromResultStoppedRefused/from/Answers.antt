use Rattle.std.proofs.Common.{arith}
use Rattle.std.proofs.lemmas.Grind.{common_steps}
use Rattle.elimination.specs.Answers.{refused_partly, refused_whole}
use Rattle.elimination.proofs.PartlyFromResultStoppedRefused.from.Goals as goal

pub returns : goal.returns
unfolding refused_partly refused_whole
returns c = grind (arith, common_steps)
