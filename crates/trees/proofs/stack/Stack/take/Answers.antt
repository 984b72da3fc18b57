use Prim.Native.Nat.{◌+◌, ◌<◌}
use mathlib.Core.Path.{◌≡◌, sym, ap, ◌∙◌}
use lib.ListN.{length, take, drop}
use native.Mathlib.Omega.{arith}
use Rattle.trees.proofs.Stacking.{length-down, drop-down, tops}
use Rattle.trees.proofs.stack.Stack.take.Goals as goal

pub returns-in_err-base : goal.returns-in_err-base
returns-in_err-base g c =
    let s = c.self.inside in
    let few : length c.args.self.now < c.args.count = omega (arith, ap length c.self.view_is, length-down s.places.now s.depth, c.in_err-base.ensures) in
    rw c.from_residual.ensures few

pub returns : goal.returns
returns g c =
    let s = c.self.inside in
    let base = c.in_ok-base.base in
    let split : s.depth ≡ c.args.count + base = omega (arith, c.in_ok-base.ensures) in
    record {
      enough = omega (arith, ap length c.self.view_is, length-down s.places.now s.depth);
      left = sym (drop-down s.places.now c.args.count base s.depth split) ∙ ap (drop c.args.count) c.self.view_is;
      taken = sym (tops s.places.now c.args.count base s.depth split c.requires.some c.requires.few) ∙ ap (take c.args.count) c.self.view_is;
    }
