-- Taking states out, on expressions: making an expression and joining, the row list at the start, one state taken out of it, the states one after the other, and the final join. The theorem is proved here first; that the table of nodes mirrors it is proved apart.
use Prim.Native.Nat.{ℕ}
use mathlib.Core.Bool.{Bool, true, false, cond, not, ◌&&◌, ◌||◌}
use mathlib.Core.List.{List, [], ◌∷◌, ◌++◌, map}
use lib.Dec.{eqb}
use Rattle.automaton.specs.Held.{Rule, Held}
use Rattle.meaning.specs.Expressions.{Expr, Exprs, emptyᴱ, holeᴱ, symbolᴱ, altᴱ, catᴱ, iterᴱ, []ᴱ, ◌∷ᴱ◌, is_open}
use Rattle.theory.specs.RowLists.{ExprRow, final_target, final_states}
use Rattle.ground.specs.Lists.{those}

-- ---- making an expression, and joining

unfoldable pub is_empty : Expr → Bool
is_empty emptyᴱ = true
is_empty (holeᴱ q) = false
is_empty (symbolᴱ f es) = false
is_empty (altᴱ a b) = false
is_empty (catᴱ q a b) = false
is_empty (iterᴱ q a) = false

unfoldable pub is_hole : ℕ → Expr → Bool
is_hole q emptyᴱ = false
is_hole q (holeᴱ p) = eqb q p
is_hole q (symbolᴱ f es) = false
is_hole q (altᴱ a b) = false
is_hole q (catᴱ p a b) = false
is_hole q (iterᴱ p a) = false

-- the alternation [8.15]
unfoldable pub make_alt : Expr → Expr → Expr
make_alt a b = cond (is_empty a) b (cond (is_empty b) a (altᴱ a b))

-- the concatenation [8.16]
unfoldable pub make_cat : ℕ → Expr → Expr → Expr
make_cat q a b = cond (is_hole q a) b (catᴱ q a b)

-- the iteration [8.17]
unfoldable pub make_iter : ℕ → Expr → Expr
make_iter q a = cond (is_empty a) (holeᴱ q) (iterᴱ q a)

-- joining [8.14]
unfoldable pub joined_from : Expr → List Expr → Expr
joined_from a [] = a
joined_from a (e ∷ es) = joined_from (make_alt a e) es

unfoldable pub joined : List Expr → Expr
joined es = joined_from emptyᴱ es

-- ---- the start

-- the expression of a row of the file [8.2]
unfoldable pub holesᴱ : List ℕ → Exprs
holesᴱ [] = []ᴱ
holesᴱ (q ∷ qs) = holeᴱ q ∷ᴱ holesᴱ qs

abbrev pub rule_row : Rule → ExprRow
rule_row rule = record { expr = symbolᴱ rule.symbol (holesᴱ rule.sources); target = rule.target }

-- the rows of the final states [8.4]
abbrev pub final_row : ℕ → ExprRow
final_row q = record { expr = holeᴱ q; target = final_target }

unfoldable pub start_rows : Held → List ExprRow
start_rows held = map rule_row held.rules ++ map final_row (final_states held)

-- ---- one state

-- how a row stands to q [8.6]
unfoldable pub looping : ℕ → ExprRow → Bool
looping q row = eqb row.target q && is_open row.expr q

unfoldable pub incoming : ℕ → ExprRow → Bool
incoming q row = eqb row.target q && not (is_open row.expr q)

unfoldable pub outgoing : ℕ → ExprRow → Bool
outgoing q row = is_open row.expr q && not (eqb row.target q)

abbrev pub exprs : List ExprRow → List Expr
exprs rows = map (λ row. row.expr) rows

-- X, by A, I and B [8.8 to 8.11]
unfoldable pub stand_in : ℕ → List ExprRow → Expr
stand_in q rows =
    let A = joined (exprs (those (looping q) rows)) in
    let I = make_iter q A in
    let B = joined (exprs (those (incoming q) rows)) in
    make_cat q I B

-- an outgoing row closed with X [8.12]
unfoldable pub replaced : ℕ → Expr → ExprRow → ExprRow
replaced q X row = record { expr = cond (outgoing q row) (make_cat q row.expr X) row.expr; target = row.target }

-- the rows that stay [8.13]
unfoldable pub remains : ℕ → ExprRow → Bool
remains q row = not (looping q row || incoming q row)

unfoldable pub eliminated : ℕ → List ExprRow → List ExprRow
eliminated q rows = map (replaced q (stand_in q rows)) (those (remains q) rows)

-- ---- the states, and the join

-- the states of a list taken out, one after the other
unfoldable pub eliminated_all : List ℕ → List ExprRow → List ExprRow
eliminated_all [] rows = rows
eliminated_all (q ∷ qs) rows = eliminated_all qs (eliminated q rows)

-- the final join [8.20]
unfoldable pub answer_of : List ExprRow → Expr
answer_of rows = joined (exprs rows)
