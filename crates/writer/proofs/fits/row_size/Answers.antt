use Rattle.std.proofs.Common.{rules, ◌≡◌, ◌<◌, ◌≤◌, length, take, get_or}
use Rattle.writer.proofs.Fitting.{all-decides, row-unknown, row-aimless, row-tested}
use Rattle.writer.proofs.fits.row_size.Goals as goal

pub returns-in_err-get : goal.returns-in_err-get
returns-in_err-get c =
    let a = c.args in
    let long : length a.row.now.sources ≡ 3 = search rules in
    let none : length a.arities.now ≤ a.row.now.symbol = search rules in
    rw c.from_residual.ensures (row-unknown a.arities.now a.row.now c.requires long a.states none)

pub returns-then-states-row : goal.returns-then-states-row
returns-then-states-row c =
    let a = c.args in
    let long : length a.row.now.sources ≡ 3 = search rules in
    row-aimless a.arities.now a.row.now c.requires long a.states c.if-states-row.true

pub returns : goal.returns
returns c =
    let a = c.args in
    let long : length a.row.now.sources ≡ 3 = search rules in
    let less : a.row.now.symbol < length a.arities.now = search rules in
    let arity : c.from-arity.result ≡ get_or a.arities.now a.row.now.symbol 0 = search rules in
    row-tested a.arities.now a.row.now c.requires long a.states less c.if-states-row.false c.all.result
    (rw arity at (all-decides (λ q. q < a.states) (take c.from-arity.result a.row.now.sources) c.all.result (search rules)))
    c.then_some.result (rw arity at c.then_some.ensures)
