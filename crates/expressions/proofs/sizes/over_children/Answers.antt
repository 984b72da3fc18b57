-- `sizes::over_children` meets its contract: the sizes summed from the left.
use Rattle.std.proofs.Common.{rules, ℕ, get_or, min, ◌+◌, ◌∙◌}
use Rattle.std.proofs.lemmas.Iterator.{YieldsList-from_slice, YieldsList-from_take}
use Rattle.std.proofs.lemmas.Iterator.Consumers.{fold_from_yields_List}
use Rattle.expressions.specs.Nodes.{places, children}
use Rattle.expressions.specs.Sizes.{most_size}
use Rattle.expressions.specs.Inside.{size_over}
use Rattle.expressions.proofs.Places.{held-fold}
use Rattle.expressions.proofs.sizes.over_children.Goals as goal

pub returns : goal.returns
unfolding size_over children
returns c =
    let size : ℕ → ℕ = λ i. get_or c.args.sizes.now i 0 in
    let e = fold_from_yields_List _ (λ total i. min (total + size i) most_size) _ c.fold.result c.fold.ensures.ran
    (YieldsList-from_take c.args.used (YieldsList-from_slice (places c.args.shape) cc) cc) (λ a x b q k. search rules) in
    e ∙ rw c.requires (held-fold size (children c.args.shape) 1)
