-- `sizes::fill` meets its contract. The invariant: the words hold the sizes of the nodes passed, and behind them what they held.
use mathlib.Core.Path.{◌≡◌}
use Rattle.expressions.specs.Inside.{nodes_of}
use Rattle.expressions.proofs.Written.{so_far}
use Rattle.expressions.proofs.sizes.fill.Given as goal

abbrev pub invariant-loop-i : goal.invariant-loop-i
invariant-loop-i l = l.sizes ≡ so_far (nodes_of l.nodes) l.initial.sizes l.i
