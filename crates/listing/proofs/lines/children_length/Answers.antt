-- `lines::children_length` meets its contract: the fields summed.
use Rattle.std.proofs.Common.{rules, tests, arith, ◌≡◌, ◌∙◌, ◌^◌, length, ◌∷◌, take}
use Rattle.std.proofs.lemmas.Iterator.{YieldsList-from_slice, YieldsList-from_take, YieldsList-from_map}
use Rattle.std.proofs.lemmas.Iterator.Consumers.{sum_by_from_yields_List, fits_by_from_yields_list}
use Rattle.buffers.specs.Decimal.{decimal}
use Rattle.expressions.specs.Nodes.{places, children}
use Rattle.listing.proofs.Listing.{children-few, fields-sum}
use Rattle.listing.proofs.Longest.{fields-most}
use Rattle.listing.proofs.lines.children_length.Goals as goal

pub sum-requires-clause-fits : goal.sum-requires-clause-fits
unfolding children
sum-requires-clause-fits c =
    let shape = c.args.shape in
    let e : take c.child_count.result (places shape) ≡ children shape = rw c.child_count.ensures in
    fits_by_from_yields_list (λ n. length (32 ∷ decimal n)) (take c.child_count.result (places shape)) c.map.result (2 ^ 64)
    (YieldsList-from_map _ (λ n. length (32 ∷ decimal n)) (YieldsList-from_take c.child_count.result (YieldsList-from_slice (places shape) cc) cc) c.map.ensures.closure (λ x r q k. search (rules, tests)))
    (rw e (omega (arith, fields-sum (children shape), fields-most (children shape) c.requires, children-few shape)))

pub returns : goal.returns
unfolding children
returns c =
    let shape = c.args.shape in
    sum_by_from_yields_List (λ n. length (32 ∷ decimal n)) (take c.child_count.result (places shape)) c.map.result c.sum.result c.sum.ensures.ran
    (YieldsList-from_map _ (λ n. length (32 ∷ decimal n)) (YieldsList-from_take c.child_count.result (YieldsList-from_slice (places shape) cc) cc) c.map.ensures.closure (λ x r q k. search (rules, tests)))
    ∙ rw c.child_count.ensures (fields-sum (children shape))
