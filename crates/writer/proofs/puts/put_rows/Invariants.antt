use Rattle.std.proofs.Common.{take}
use Rattle.automaton.specs.File.{row_record, each}
use Rattle.automaton.specs.Answers.{rule_held}
use Rattle.writer.specs.Inside.{Put}
use Rattle.writer.proofs.puts.put_rows.Given as goal

abbrev pub invariant-loop-row : goal.invariant-loop-row
invariant-loop-row l = Put (each (λ row. row_record (rule_held l.arities row)) (take l.row-index l.rows)) l.initial.out l.out l.at
