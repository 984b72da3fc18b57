use native.Mathlib.Omega.{arith}
use Rattle.sets.specs.Members.{state_width}
use Rattle.sets.proofs.Bits.{shifted}
use Rattle.trees.specs.Columns.{entered}
use Rattle.trees.proofs.columns.Columns.enter.Goals as goal

pub returns-clause-made : goal.returns-clause-made
unfolding entered
returns-clause-made c =
    rw (c.from.ensures, c.from-2.ensures, c.needs.ensures 0 (omega arith), c.needs.ensures 1 (omega arith), c.needs.ensures 2 (omega arith), shifted state_width c.args.row.target c.requires.target_lt_state_width)
