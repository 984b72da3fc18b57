use Rattle.std.proofs.Common.{rules}
use Rattle.automaton.specs.Answers.{no_automaton, unused_row}
use Rattle.automaton.proofs.ReadingFromResultAutomatonRefused.from.Goals as goal

pub returns : goal.returns
unfolding no_automaton unused_row
returns c = search rules
