use Rattle.std.proofs.Common.{[], ◌∷◌, get_or}
use Rattle.automaton.specs.File.{symbol_record, each}
use Rattle.writer.proofs.Putting.{record-long, puts-none, each-room, each-next}
use Rattle.writer.proofs.puts.put_symbols.Goals as goal

pub loop-arity-init : goal.loop-arity-init
unfolding each
loop-arity-init c = puts-none c.args.out.now

pub put_record-at-requires-clause-room : goal.put_record-at-requires-clause-room
unfolding symbol_record
put_record-at-requires-clause-room c =
    let l = c.loop-arity in
    let arity = get_or c.args.arities.now l.arity-index 0 in
    rw (record-long 2 (arity ∷ [])) at (each-room symbol_record c.args.arities.now 0 c.args.out.now c.requires l.out l.at l.arity-index l.invariant l.auto.out c.loop-arity-test.true)

pub loop-arity-preserved : goal.loop-arity-preserved
unfolding symbol_record
loop-arity-preserved c =
    let l = c.loop-arity in
    each-next symbol_record c.args.arities.now 0 c.args.out.now c.requires l.out l.at l.arity-index l.invariant l.auto.out c.loop-arity-test.true c.put_record-at.new.out c.put_record-at.result c.put_record-at.ensures
