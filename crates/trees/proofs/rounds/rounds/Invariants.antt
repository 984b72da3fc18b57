use Prim.Native.Nat.{ℕ, ◌-◌, ◌^◌}
use mathlib.Core.Bool.{true}
use mathlib.Core.Path.{◌≡◌}
use Rattle.sets.specs.Members.{has, state_width}
use Rattle.trees.specs.Runs.{Productive}
use Rattle.trees.proofs.rounds.rounds.Given as goal

abbrev pub invariant-loop-have : goal.invariant-loop-have
invariant-loop-have l = (q : ℕ) → has l.have q ≡ true → Productive l.runner.rules q

abbrev pub decreases-loop-have : goal.decreases-loop-have
decreases-loop-have l = 2 ^ state_width - l.have
