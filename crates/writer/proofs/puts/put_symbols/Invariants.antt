use Rattle.std.proofs.Common.{take}
use Rattle.automaton.specs.File.{symbol_record, each}
use Rattle.writer.specs.Inside.{Put}
use Rattle.writer.proofs.puts.put_symbols.Given as goal

abbrev pub invariant-loop-arity : goal.invariant-loop-arity
invariant-loop-arity l = Put (each symbol_record (take l.arity-index l.arities)) l.initial.out l.out l.at
