-- The theorem: whatever states are taken out, in whatever order, the list accepts what the automaton accepts; and when all are gone, the join denotes it.
use Prim.Native.Nat.{ℕ, zero, suc, ◌<◌, ◌≤◌}
use native.Mathlib.Omega.{arith}
use mathlib.Core.Path.{◌≡◌}
use mathlib.Core.Bool.{false}
use mathlib.Core.List.Memᴰ
use mathlib.Core.List.{List, [], ◌∷◌, Memᴰ}
use mathlib.Core.Logic.{◌⊎◌, inl, inr, ◌↔◌}
use lib.ListN.{length}
use Rattle.automaton.specs.Held.{Held, Valid}
use Rattle.ground.specs.Lists.{All}
use Rattle.meaning.specs.Trees.{Tree}
use Rattle.trees.specs.Runs.{Accepted}
use Rattle.meaning.specs.Expressions.{Denotes, is_open}
use Rattle.ground.proofs.Tests.{to-false}
use Rattle.meaning.proofs.Fillings.{Within, within_more, filled-same, filled-stays}
use Rattle.meaning.proofs.Opens.{denoted-within}
use Rattle.theory.proofs.Expressions.OnExpressions.{joined, exprs, start_rows, eliminated, eliminated_all, answer_of}
use Rattle.theory.specs.RowLists.{ExprRow, final_target}
use Rattle.theory.specs.Acceptance.{Accepts}
use Rattle.ground.proofs.Lists.{of-all}
use Rattle.theory.proofs.Expressions.Levels.{Toward, Reached, Denoted, accepts}
use Rattle.theory.proofs.Expressions.Making.{denotes-joined}
use Rattle.theory.proofs.Expressions.Step.{RowIn, RowsIn, step-accepts, step_in, step-length}
use Rattle.theory.proofs.Expressions.Start.{start-accepts, start-in}

-- ---- any list of states taken out of any list of rows

-- toward a target that is none of them it accepts as before
pub all-accept : (gone : List ℕ) (rows : List ExprRow) (r : ℕ) (t : Tree) → (Memᴰ r gone → ⊥) → Reached (Denoted rows) r t ↔ Reached (Denoted (eliminated_all gone rows)) r t
unfolding eliminated_all
all-accept [] rows r t n = (λ x. x, λ x. x)
all-accept (q ∷ gone) rows r t n =
    let f = step-accepts q rows r t (λ e. n (Memᴰ.head e)) in
    let g = all-accept gone (eliminated q rows) r t (λ m. n (Memᴰ.tail m)) in
    (λ x. g.0 (f.0 x), λ x. f.1 (g.1 x))

-- nothing further is open or aimed at, and none of them
pub all_in : (gone : List ℕ) (R S : ℕ → Type 0) (rows : List ExprRow) → RowsIn R S rows
    → RowsIn (λ r. R r × (Memᴰ r gone → ⊥)) (λ p. S p × (Memᴰ p gone → ⊥)) (eliminated_all gone rows)
unfolding eliminated_all
all_in [] R S rows a row m = let k = a row m in record { aimed = (k.aimed, λ n. Memᴰ.not-nil n); opened = λ p w. (k.opened p w, λ n. Memᴰ.not-nil n) }
all_in (q ∷ gone) R S rows a row m =
    let k = all_in gone (λ r. R r × (r ≡ q → ⊥)) (λ p. S p × (p ≡ q → ⊥)) (eliminated q rows) (step_in q R S rows a) row m in
    record {
      aimed = (k.aimed.0.0, neither row.target k.aimed.0.1 k.aimed.1);
      opened = λ p w. let o = k.opened p w in (o.0.0, neither p o.0.1 o.1);
    }
  where
    neither : (r : ℕ) → (r ≡ q → ⊥) → (Memᴰ r gone → ⊥) → Memᴰ r (q ∷ gone) → ⊥
    neither r n n' (Memᴰ.head e) = n e
    neither r n n' (Memᴰ.tail m) = n' m

pub all-length : (gone : List ℕ) (rows : List ExprRow) → length (eliminated_all gone rows) ≤ length rows
unfolding eliminated_all
all-length [] rows = omega arith
all-length (q ∷ gone) rows = omega (arith, step-length q rows, all-length gone (eliminated q rows))

-- ---- the list of an automaton, with some of its states gone

module _ (held : Held) (v : Valid held) (gone : List ℕ) (states : All (λ q. q < held.states) gone) where
  rows : List ExprRow
  rows = eliminated_all gone (start_rows held)

  -- the list accepts what the automaton accepts [1.6]
  pub list-accepts : (t : Tree) → Accepts (eliminated_all gone (start_rows held)) t ↔ Accepted held t
  list-accepts t =
      let f = accepts (eliminated_all gone (start_rows held)) t in
      let g = all-accept gone (start_rows held) final_target t no-final in
      let h = start-accepts held v t in
      (λ x. h.0 (g.1 (f.0 x)), λ x. f.1 (g.0 (h.1 x)))
    where
      no-final : Memᴰ final_target gone → ⊥
      no-final m = let l = v.few_states in let h = of-all (λ q. q < held.states) gone states m in omega arith

  -- targets are states that are left, or 16; and only states that are left are open
  pub rows_left : (row : ExprRow) → Memᴰ row (eliminated_all gone (start_rows held))
      → RowIn (λ r. ((r < held.states) ⊎ (r ≡ final_target)) × (Memᴰ r gone → ⊥)) (λ p. (p < held.states) × (Memᴰ p gone → ⊥)) row
  rows_left = all_in gone (λ r. (r < held.states) ⊎ (r ≡ final_target)) (λ p. p < held.states) (start_rows held) (start-in held v)

  pub gone-not-open : (row : ExprRow) → Memᴰ row (eliminated_all gone (start_rows held)) → (q : ℕ) → Memᴰ q gone → is_open row.expr q ≡ false
  gone-not-open row m q g = to-false (is_open row.expr q) (λ w. ((rows_left row m).opened q w).1 g)

  pub no_more_rows : length (eliminated_all gone (start_rows held)) ≤ length (start_rows held)
  no_more_rows = all-length gone (start_rows held)

  -- ---- when every state is gone

  module _ (all-gone : (q : ℕ) → q < held.states → Memᴰ q gone) where
    -- no hole is left, so that what a row denotes is what it accepts
    dry : (r : ℕ) (s : Tree) → Denoted rows r s → Within (λ p. ⊥) s
    unfolding rows
    dry r s d =
        within_more (λ p w. let o = (rows_left d.0 d.1).opened p w in o.1 (all-gone p o.0)) s (denoted-within d.0.expr s d.3)

    of-last : (t : Tree) → Reached (Denoted rows) final_target t → Denoted rows final_target t
    of-last t x = go x.0 x.1
      where
        go : (m : ℕ) → Toward (Denoted rows) m final_target t → Denoted rows final_target t
        go zero y = absurd y
        go (suc m) y = rw (filled-stays (λ p u z. absurd z) y.2 (dry final_target y.0 y.1)) y.1

    to_last : (t : Tree) → Denoted rows final_target t → Reached (Denoted rows) final_target t
    to_last t d = (1, (t, d, filled-same (λ p z. absurd z) t (dry final_target t d)))

    -- every row that is left has target 16
    pub aimed-last : (row : ExprRow) → Memᴰ row (eliminated_all gone (start_rows held)) → row.target ≡ final_target
    aimed-last row m = go row.target (rows_left row m).aimed
      where
        go : (r : ℕ) → ((r < held.states) ⊎ (r ≡ final_target)) × (Memᴰ r gone → ⊥) → r ≡ final_target
        go r k = either k.0
          where
            either : (r < held.states) ⊎ (r ≡ final_target) → r ≡ final_target
            either (inl h) = absurd (k.1 (all-gone r h))
            either (inr e) = e

    -- the answer denotes it [1.9]
    pub answer-denotes : (t : Tree) → Denotes (answer_of (eliminated_all gone (start_rows held))) t ↔ Accepted held t
    unfolding answer_of rows
    answer-denotes t = (λ x. (list-accepts t).0 ((accepts rows t).1 (to_last t (of x))), λ x. to (of-last t ((accepts rows t).0 ((list-accepts t).1 x))))
      where
        of : Denotes (joined (exprs rows)) t → Denoted rows final_target t
        of x =
            let c = (denotes-joined (exprs rows) t).0 x in
            let y = Memᴰ.of_map (λ (row : ExprRow). row.expr) rows c.1 in
            (y.0, y.1, aimed-last y.0 y.1, rw y.2 c.2)

        to : Denoted rows final_target t → Denotes (joined (exprs rows)) t
        to d = (denotes-joined (exprs rows) t).1 (d.0.expr, Memᴰ.map (λ (row : ExprRow). row.expr) d.1, d.3)
