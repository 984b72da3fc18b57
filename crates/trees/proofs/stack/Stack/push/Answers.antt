use Prim.Native.Nat.{ℕ}
use mathlib.Core.Path.{ap, ◌∙◌}
use mathlib.Core.List.{List, ◌∷◌}
use lib.ListN.{length, length-set}
use native.Mathlib.Omega.{arith}
use Rattle.trees.proofs.Stacking.{length-down, down-push}
use Rattle.trees.proofs.stack.Stack.push.Goals as goal

pub bounds-self-inside-self-inside : goal.bounds-self-inside-self-inside
bounds-self-inside-self-inside g c = omega (arith, ap length c.self.view_is, length-down c.self.inside.places.now c.self.inside.depth)

pub invariant_of-self : goal.invariant_of-self
invariant_of-self g c =
    let s = c.self.inside in
    record { long = length-set s.places.now s.depth c.args.set ∙ c.self.invariant.long; within = omega (arith, ap length c.self.view_is, length-down s.places.now s.depth); few = c.self.invariant.few }

pub returns : goal.returns
returns g c =
    let s = c.self.inside in
    down-push s.places.now s.depth c.args.set (omega (arith, ap length c.self.view_is, length-down s.places.now s.depth, c.self.invariant.long))
    ∙ ap (λ (sets : List ℕ). c.args.set ∷ sets) c.self.view_is
