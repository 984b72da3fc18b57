use mathlib.Core.Path.{◌≡◌, ◌∙◌}
use mathlib.Core.Bool.{◌&&◌}
use lib.Dec.{leb}
use Rattle.std.proofs.Common.{rules}
use Rattle.automaton.proofs.Finding.Frames.{length-head, length-symbol, length-row, length-end}
use Rattle.automaton.proofs.reader.Kind.takes.Goals as goal

pub returns-in-Head : goal.returns-in-Head
returns-in-Head c = rw c.in-Head.is (length-head c.args.size)

pub returns-in-Symbol : goal.returns-in-Symbol
returns-in-Symbol c = rw c.in-Symbol.is (length-symbol c.args.size)

pub returns-in-End : goal.returns-in-End
returns-in-End c = rw c.in-End.is (length-end c.args.size)

pub returns-in-Row : goal.returns-in-Row
returns-in-Row c = let e : c.contains.result ≡ (leb 2 c.args.size && leb c.args.size 5) = search rules in rw c.in-Row.is (e ∙ length-row c.args.size)
