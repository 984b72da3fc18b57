-- `nodes::open_of` meets its contract: each arm by computing.
use native.Mathlib.Omega.{arith}
use mathlib.Core.Path.{sym, ◌∙◌}
use Rattle.sets.specs.Members.{state_width}
use Rattle.sets.proofs.Bits.{empty-zero}
use Rattle.expressions.specs.Nodes.{child_count, children}
use Rattle.expressions.specs.Soundness.{opens_of, opens_in}
use Rattle.expressions.proofs.KindLaws.{none-opens}
use Rattle.expressions.proofs.nodes.open_of.Goals as goal

pub returns-in-1 : goal.returns-in-1
unfolding opens_in opens_of
returns-in-1 c = c.wide.ensures ∙ c.one.ensures ∙ rw c.in-1.is

pub union_opens-requires : goal.union_opens-requires
unfolding child_count
union_opens-requires c = rw c.in-2.is

pub union_opens-requires-in-3 : goal.union_opens-requires-in-3
unfolding child_count
union_opens-requires-in-3 c = rw c.in-3.is

pub returns-in-2 : goal.returns-in-2
unfolding opens_in opens_of
returns-in-2 c = c.union_opens.ensures ∙ rw c.in-2.is

pub returns-in-3 : goal.returns-in-3
unfolding opens_in opens_of
returns-in-3 c = c.union_opens-in-3.ensures ∙ rw c.in-3.is

pub returns-in-4 : goal.returns-in-4
unfolding opens_in opens_of children child_count
returns-in-4 c = c.cat_opens.ensures ∙ rw (c.opens_of.ensures, c.opens_of-in-4.ensures, c.in-4.is)

pub returns-in-5 : goal.returns-in-5
unfolding opens_in opens_of children child_count
returns-in-5 c = c.iter_opens.ensures ∙ rw (c.opens_of-in-5.ensures, c.in-5.is)

pub returns-in_default : goal.returns-in_default
unfolding opens_in
returns-in_default c = empty-zero state_width ∙ sym (none-opens _ _ _ (λ l. omega arith))
