use Rattle.std.proofs.Common.{rules, ◌≡◌, length}
use Rattle.writer.proofs.Putting.{record-long}
use Rattle.writer.proofs.Fitting.{row-record}
use Rattle.writer.proofs.puts.put_row.Goals as goal

pub put_record-requires-clause-room : goal.put_record-requires-clause-room
put_record-requires-clause-room c =
    let a = c.args in
    let long : length a.row.now.sources ≡ 3 = search rules in
    rw (c.from-arity.ensures, c.from.ensures) (rw (row-record a.arities.now a.row.now c.requires.small long, record-long) at c.requires.room)

pub returns : goal.returns
returns c =
    let a = c.args in
    let long : length a.row.now.sources ≡ 3 = search rules in
    rw (row-record a.arities.now a.row.now c.requires.small long) (rw (c.from-arity.ensures, c.from.ensures) at c.put_record.ensures)
