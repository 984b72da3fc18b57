-- `lines::line_length` meets its contract: the parts of a line summed. None of them is long, since the line of a node that fits is not.
use Rattle.std.proofs.Common.{arith, ap, length}
use Rattle.ground.proofs.Lists.{all_map}
use Rattle.expressions.specs.Nodes.{kind_of, children}
use Rattle.listing.specs.Inside.{number_in}
use Rattle.listing.proofs.Listing.{line-size, label-size}
use Rattle.listing.proofs.Longest.{line-most}
use Rattle.listing.proofs.lines.line_length.Goals as goal

pub children_length-requires : goal.children_length-requires
children_length-requires c = all_map (children c.args.shape) (λ i l. let h = c.requires.few in omega arith) c.requires.fits.earlier

pub overflow_add-head : goal.overflow_add-head
overflow_add-head c =
    let e = ap length c.name.ensures in
    omega (arith, line-size c.args.number c.args.shape, line-most c.args.number c.args.shape c.requires.few c.requires.fits)

pub overflow_add-head-2 : goal.overflow_add-head-2
overflow_add-head-2 c =
    let e = ap length c.name.ensures in
    let d = label-size c.label_number.result (number_in (kind_of c.args.shape.kind) c.args.shape.label) c.label_number.ensures c.map_or-label.ensures in
    omega (arith, line-size c.args.number c.args.shape, line-most c.args.number c.args.shape c.requires.few c.requires.fits)

pub overflow_add-result : goal.overflow_add-result
overflow_add-result c =
    let e = ap length c.name.ensures in
    let d = label-size c.label_number.result (number_in (kind_of c.args.shape.kind) c.args.shape.label) c.label_number.ensures c.map_or-label.ensures in
    omega (arith, line-size c.args.number c.args.shape, line-most c.args.number c.args.shape c.requires.few c.requires.fits)

pub overflow_add-result-2 : goal.overflow_add-result-2
overflow_add-result-2 c =
    let e = ap length c.name.ensures in
    let d = label-size c.label_number.result (number_in (kind_of c.args.shape.kind) c.args.shape.label) c.label_number.ensures c.map_or-label.ensures in
    omega (arith, line-size c.args.number c.args.shape, line-most c.args.number c.args.shape c.requires.few c.requires.fits)

pub returns : goal.returns
returns c =
    let e = ap length c.name.ensures in
    let d = label-size c.label_number.result (number_in (kind_of c.args.shape.kind) c.args.shape.label) c.label_number.ensures c.map_or-label.ensures in
    omega (arith, line-size c.args.number c.args.shape)
