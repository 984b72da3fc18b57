-- Which trees a row list accepts, at any stop of a conversion.
use Rattle.std.specs.Prelude.{ℕ, zero, suc, ◌≡◌, true, false}
use mathlib.Core.List.{List, Memᴰ}
use Rattle.meaning.specs.Trees.{Tree, hole}
use Rattle.meaning.specs.Fillings.{Family, Filled}
use Rattle.meaning.specs.Expressions.{Expr, Denotes, is_open}
use Rattle.theory.specs.RowLists.{ExprRow, final_target}

-- what stands at a hole of an expression's tree: a tree of the family where its state is open, else the hole itself [8.31]
pub data OpenOnly (e : Expr) (family : Family) : ℕ → Tree → Type 0 where
  fills : {p : ℕ} {t : Tree} → is_open e p ≡ true → family p t → OpenOnly e family p t
  stays : {p : ℕ} → is_open e p ≡ false → OpenOnly e family p (hole p)

-- what a list accepts at a level, toward a target: nothing at first; then what a row toward the target denotes, with each hole filled from the level before, each anew [8.31]
abbrev pub AcceptsAt : List ExprRow → ℕ → Family
AcceptsAt rows zero r t = ⊥
AcceptsAt rows (suc m) r t =
    (row : ExprRow) × Memᴰ row rows × (row.target ≡ r) × (s : Tree) × Denotes row.expr s × Filled (OpenOnly row.expr (AcceptsAt rows m)) s t

-- what a list accepts: toward the added final state, at some level [8.32]
abbrev pub Accepts : List ExprRow → Tree → Type 0
Accepts rows t = (m : ℕ) × AcceptsAt rows m final_target t
