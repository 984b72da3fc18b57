use Rattle.std.proofs.Common.{rules}
use Rattle.automaton.specs.File.{two_bytes, head_record, end_record}
use Rattle.writer.proofs.Writes.{few-symbols, few-rules, head-room, symbols-room, rows-there, end-room, file-put}
use Rattle.writer.proofs.puts.put_file.Goals as goal

pub shared_ref_as_front-arities : goal.shared_ref_as_front-arities
shared_ref_as_front-arities c = rw c.from.ensures (few-symbols c.args.value.now c.requires.valid)

pub shared_ref_as_front-rows : goal.shared_ref_as_front-rows
shared_ref_as_front-rows c = rw c.from-2.ensures (few-rules c.args.value.now c.requires.valid)

pub put_record-at-requires-clause-room : goal.put_record-at-requires-clause-room
put_record-at-requires-clause-room c = head-room c.args.value.now c.requires.valid (search rules) (search rules) c.args.out.now c.requires.room

pub put_symbols-at-requires : goal.put_symbols-at-requires
unfolding head_record two_bytes
put_symbols-at-requires c =
    rw c.from.ensures
    (symbols-room c.args.value.now c.requires.valid (search rules) (search rules) c.args.out.now c.requires.room _ _ (rw c.to_le_bytes.ensures at c.put_record-at.ensures))

pub put_rows-at-requires : goal.put_rows-at-requires
unfolding head_record two_bytes
put_rows-at-requires c =
    rw (c.from.ensures, c.from-2.ensures)
    (rows-there c.args.value.now c.requires.valid (search rules) (search rules) c.args.out.now c.requires.room _ _ (rw c.to_le_bytes.ensures at c.put_record-at.ensures)
    _ _ (rw c.from.ensures at c.put_symbols-at.ensures))

pub put_record-requires-clause-room : goal.put_record-requires-clause-room
unfolding head_record two_bytes
put_record-requires-clause-room c =
    end-room c.args.value.now c.requires.valid (search rules) (search rules) c.args.out.now c.requires.room _ _ (rw c.to_le_bytes.ensures at c.put_record-at.ensures)
    _ _ (rw c.from.ensures at c.put_symbols-at.ensures) _ _ (rw (c.from.ensures, c.from-2.ensures) at c.put_rows-at.ensures)

pub returns : goal.returns
unfolding head_record two_bytes end_record
returns c =
    file-put c.args.value.now c.requires.valid (search rules) (search rules) c.args.out.now c.requires.room _ _ (rw c.to_le_bytes.ensures at c.put_record-at.ensures)
    _ _ (rw c.from.ensures at c.put_symbols-at.ensures) _ _ (rw (c.from.ensures, c.from-2.ensures) at c.put_rows-at.ensures) _ _ c.put_record.ensures
