use Rattle.std.proofs.Common.{arith}
use Rattle.writer.proofs.Putting.{record-put}
use Rattle.writer.proofs.puts.put_record.Goals as goal

pub returns : goal.returns
returns c = rw (c.copy_from_slice.ensures.after, c.copy_from_slice-2.ensures.after) (record-put c.args.out.now c.args.payload.now c.args.kind (omega arith) c.requires.short)
