-- What a row list is made of, and the states in their order.
--
-- Names for rows: a `Rule` is a row of the file; a `NodeRow`, declared in src/, is a row of the list as the table has it, a node's number and a target; an `ExprRow` is a row of the list by its meaning, the expression that the node unfolds to and the target.
use Rattle.std.specs.Prelude.{ℕ, zero, suc, List, [], ◌∷◌, ◌++◌}
use Rattle.sets.specs.Members.{has, state_width}
use Rattle.automaton.specs.Held.{Held}
use Rattle.meaning.specs.Expressions.{Expr}
use Rattle.ground.specs.Lists.{those}

-- a row of the list, with its expression in place of its node [8.3] [7.14]
pub record ExprRow : Type 0 where
  pub expr : Expr
  pub target : ℕ

-- the final state that a conversion adds: the number after those of a file's states [2.2]
abbrev pub final_target : ℕ
final_target = state_width

-- how many rows a list has room for: a file's rows, and one for each final state [8.22] [2.4] [2.1]
abbrev pub list_places : ℕ
list_places = 80

-- the states below a number, the lowest first [8.5]
unfoldable pub ascending : ℕ → List ℕ
ascending zero = []
ascending (suc k) = ascending k ++ (k ∷ [])

-- the final states, the lowest first [8.4]
unfoldable pub final_states : Held → List ℕ
final_states held = those (has held.finals) (ascending held.states)
