-- `Page::line` meets its contract: the parts of a line, one after the other.
use Rattle.buffers.proofs.Bytes.{fits-then}
use Rattle.listing.proofs.Listing.{line-parts}
use Rattle.listing.proofs.lines.Page.line.Goals as goal

pub returns-clause-wrote : goal.returns-clause-wrote
returns-clause-wrote c =
    let a = c.args in
    rw (line-parts a.number a.shape)
    (fits-then c.number.ensures.wrote (fits-then c.name.ensures.wrote (fits-then c.label.ensures.wrote (fits-then c.children.ensures.wrote c.put.ensures.wrote))))
