use native.Mathlib.Omega.{arith}
use mathlib.Core.Path.{ap, ◌∙◌}
use lib.ListN.{length}
use borrow.Author.Tests.{lt-leb}
use Rattle.automaton.specs.Held.{Held}
use Rattle.automaton.specs.Answers.{held_by}
use Rattle.trees.specs.Words.{most_words}
use Rattle.trees.specs.Piles.{tree_answer, words_answer}
use Rattle.trees.proofs.Stacking.{answered}
use Rattle.trees.proofs.climb.answer.Goals as goal

pub returns-in-0-to-64 : goal.returns-in-0-to-64
unfolding held_by
returns-in-0-to-64 c =
    c.reached.ensures ∙ ap (λ (held : Held). tree_answer held.finals c.climb.result) c.runner.view_is ∙ answered c.args.runner.now c.args.words.now c.climb.result (omega arith) c.climb.ensures

pub returns-in-0-to-4096 : goal.returns-in-0-to-4096
unfolding held_by
returns-in-0-to-4096 c =
    c.reached-in-0-to-4096.ensures ∙ ap (λ (held : Held). tree_answer held.finals c.climb-in-0-to-4096.result) c.runner.view_is
    ∙ answered c.args.runner.now c.args.words.now c.climb-in-0-to-4096.result (omega arith) c.climb-in-0-to-4096.ensures

pub returns-in_default : goal.returns-in_default
unfolding words_answer
returns-in_default c = rw (lt-leb (length c.args.words.now) most_words (omega arith))
