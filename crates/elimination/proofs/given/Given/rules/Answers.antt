use mathlib.Core.Path.{◌∙◌, ap}
use native.Mathlib.Omega.{arith}
use Prim.Native.Nat.{ℕ}
use lib.ListN.{take}
use Rattle.elimination.proofs.Starting.{rules-few, rules-read}
use Rattle.elimination.proofs.given.Given.rules.Goals as goal

pub shared_ref_as_front-result : goal.shared_ref_as_front-result
shared_ref_as_front-result c =
    let given = c.args.self.now in
    omega (arith, rules-few given.value given.handed, c.index.ensures.0)

pub returns : goal.returns
returns c =
    let given = c.args.self.now in
    ap (λ (n : ℕ). take n given.value.rows) c.index.ensures.0 ∙ rules-read given.value given.handed
