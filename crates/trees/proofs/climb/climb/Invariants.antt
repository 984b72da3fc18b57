use lib.ListN.{length}
use Rattle.trees.proofs.Stacking.{Left}
use Rattle.trees.proofs.climb.climb.Given as goal

abbrev pub invariant-loop-word : goal.invariant-loop-word
invariant-loop-word g l = Left l.runner l.words (length l.yielded) l.pile
