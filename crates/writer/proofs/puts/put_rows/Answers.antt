use Rattle.std.proofs.Common.{[], get_or}
use Rattle.automaton.specs.File.{row_record, each}
use Rattle.automaton.specs.Answers.{rule_held}
use Rattle.automaton.specs.declared.Row.{Row}
use Rattle.writer.proofs.Putting.{puts-none, each-map, each-room, each-next, each-done}
use Rattle.writer.proofs.Fitting.{row-valid, row-known}
use Rattle.writer.proofs.puts.put_rows.Goals as goal

pub loop-row-init : goal.loop-row-init
unfolding each
loop-row-init c = puts-none c.args.out.now

pub put_row-at-requires : goal.put_row-at-requires
put_row-at-requires c =
    let a = c.args in
    let l = c.loop-row in
    let d : Row = record { symbol = 0; target = 0; sources = [] } in
    record {
      small = c.requires.small;
      less = row-known c.requires.valid.0 a.arities.now (get_or a.rows.now l.row-index d) (row-valid c.requires.valid.0 a.arities.now a.rows.now l.row-index d c.loop-row-test.true c.requires.valid.1);
      room = each-room (λ row. row_record (rule_held a.arities.now row)) a.rows.now d a.out.now
          (rw (each-map row_record (rule_held a.arities.now) a.rows.now) at c.requires.room) l.out l.at l.row-index l.invariant l.auto.out c.loop-row-test.true;
    }

pub loop-row-preserved : goal.loop-row-preserved
loop-row-preserved c =
    let a = c.args in
    let l = c.loop-row in
    each-next (λ row. row_record (rule_held a.arities.now row)) a.rows.now (record { symbol = 0; target = 0; sources = [] }) a.out.now
    (rw (each-map row_record (rule_held a.arities.now) a.rows.now) at c.requires.room) l.out l.at l.row-index l.invariant l.auto.out c.loop-row-test.true
    c.put_row-at.new.out c.put_row-at.result c.put_row-at.ensures

pub returns : goal.returns
returns c =
    let a = c.args in
    let l = c.loop-row in
    rw (each-map row_record (rule_held a.arities.now) a.rows.now)
    (each-done (λ row. row_record (rule_held a.arities.now row)) a.rows.now (record { symbol = 0; target = 0; sources = [] }) a.out.now
    (rw (each-map row_record (rule_held a.arities.now) a.rows.now) at c.requires.room) l.out l.at l.row-index l.invariant l.auto.out c.loop-row-test.false)
