use Prim.Native.Nat.{◌<◌, ◌≤◌}
use borrow.Author.Tests.{lt-ltb, le-ltb}
use Rattle.sets.specs.Members.{state_width}
use Rattle.sets.proofs.Bits.{shifted}
use Rattle.trees.specs.Columns.{need_at}
use native.Mathlib.Omega.{arith}
use Rattle.trees.proofs.columns.needed.Goals as goal

pub returns-then-place-from : goal.returns-then-place-from
unfolding need_at
returns-then-place-from c =
    let present : c.args.place < c.args.arity = omega arith in
    rw (lt-ltb _ _ present) (shifted state_width _ (c.requires.place_bound present))

pub returns-else-place-from : goal.returns-else-place-from
unfolding need_at
returns-else-place-from c =
    let absent : c.args.arity ≤ c.args.place = omega arith in
    rw (le-ltb _ _ absent)
