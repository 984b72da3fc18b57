use mathlib.Core.Path.{refl}
use Rattle.automaton.specs.Answers.{unused_row}
use Rattle.automaton.proofs.no_rows.Goals as goal

pub returns : goal.returns
unfolding unused_row
returns c = refl
