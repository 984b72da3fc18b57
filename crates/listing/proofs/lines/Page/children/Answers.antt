-- `Page::children` meets its contract: each child after those before it.
use Rattle.std.proofs.Common.{◌≡◌, ◌∙◌, refl, map}
use Rattle.std.proofs.lemmas.Iterator.{YieldsList-from_slice, YieldsList-from_take}
use Rattle.std.proofs.lemmas.Iterator.Consumers.{YieldsList-end}
use Rattle.buffers.proofs.Bytes.{wrote_none, fits-then}
use Rattle.expressions.specs.Nodes.{places, children}
use Rattle.listing.specs.Listing.{spaced}
use Rattle.listing.proofs.Listing.{fields-more}
use Rattle.listing.proofs.lines.Page.children.Goals as goal

pub loop-child-init : goal.loop-child-init
unfolding spaced
loop-child-init c = record { same_bytes = refl; wrote = λ _. wrote_none _ _ }

pub loop-child-preserved : goal.loop-child-preserved
loop-child-preserved c =
    record {
      same_bytes = c.field.ensures.same_bytes ∙ c.loop-child.invariant.same_bytes;
      wrote = rw (fields-more (λ x. x.now) c.loop-child.yielded c.in-Some.child) (fits-then c.loop-child.invariant.wrote c.field.ensures.wrote);
    }

pub returns-clause-wrote : goal.returns-clause-wrote
unfolding children
returns-clause-wrote c =
    let shape = c.args.shape in
    let e = YieldsList-end (YieldsList-from_take c.child_count.result (YieldsList-from_slice (places shape) cc) cc) c.loop-child.yielded _ c.loop-child.yielded_by _ _ c.in-None.is c.next.ensures.steps in
    let f : map (λ x. x.now) c.loop-child.yielded ≡ children shape = e.0 ∙ rw c.child_count.ensures in
    rw (← f) c.loop-child.invariant.wrote
