-- One state taken out of a list: it accepts as before toward every other target; what is left open and aimed at; no more rows.
use Prim.Native.Nat.{ℕ, ◌≤◌}
use native.Mathlib.Omega.{arith}
use mathlib.Core.Path.{◌≡◌, refl, sym, ◌∙◌, ap}
use mathlib.Core.Bool.{Bool, true, false, cond, not, ◌&&◌, ◌||◌, and-true}
use mathlib.Core.List.Memᴰ
use mathlib.Core.List.{List, Memᴰ}
use mathlib.Core.Logic.{◌⊎◌, inl, inr, ◌↔◌}
use lib.ListN.{length, length-map}
use lib.Dec.{T, eqb, eqb→eq, T_not}
use borrow.Author.Tests.{ne_eqb, eq-eqb}
use Rattle.meaning.specs.Trees.{Tree, hole}
use Rattle.meaning.specs.Fillings.{Filled, Only, here, stays}
use Rattle.meaning.specs.Expressions.{Expr, Concatenated, Iterated, Denotes, is_open}
use Rattle.ground.proofs.Tests.{not_of_false, and_cases}
use Rattle.meaning.proofs.Fillings.{Within, within_more, filled_more, filled-same, filled-stays, only-more}
use Rattle.meaning.proofs.Opens.{denoted-within}
use Rattle.theory.proofs.Expressions.OnExpressions.{make_cat, make_iter, joined, looping, incoming, outgoing, exprs, stand_in, replaced, remains, eliminated}
use Rattle.theory.specs.RowLists.{ExprRow}
use Rattle.ground.specs.Lists.{those}
use Rattle.ground.proofs.Lists.{in-those, of-those, those-length}
use Rattle.theory.proofs.Expressions.Levels.{Reached, Denoted}
use Rattle.theory.proofs.Expressions.OneState.{Taken, forth, back}
use Rattle.theory.proofs.Expressions.Making.{Some, denotes-cat, denotes-iter, denotes-joined, open-cat, open-iter, open-joined}

-- ---- the rows' tests

module _ (q : ℕ) (row : ExprRow) where
  pub looping-is : T (looping q row) → (row.target ≡ q) × T (is_open row.expr q)
  unfolding looping
  looping-is w = let c = and_cases (eqb row.target q) (is_open row.expr q) w in (eqb→eq row.target q c.0, c.1)

  pub incoming-is : T (incoming q row) → (row.target ≡ q) × (T (is_open row.expr q) → ⊥)
  unfolding incoming
  incoming-is w = let c = and_cases (eqb row.target q) (not (is_open row.expr q)) w in (eqb→eq row.target q c.0, T_not (is_open row.expr q) c.1)

  -- a row with target q loops or comes in
  pub at-q : row.target ≡ q → T (looping q row) ⊎ T (incoming q row)
  unfolding looping incoming
  at-q e = rw (eq-eqb row.target q e) (go (is_open row.expr q))
    where
      go : (b : Bool) → T (true && b) ⊎ T (true && not b)
      go true = inl tt
      go false = inr tt

  -- a row with another target remains
  pub remains-is : T (remains q row) → row.target ≡ q → ⊥
  unfolding remains looping incoming
  remains-is w e = go (is_open row.expr q) (rw (eq-eqb row.target q e) at w)
    where
      go : (b : Bool) → T (not ((true && b) || (true && not b))) → ⊥
      go true w = w
      go false w = w

  pub is-remains : (row.target ≡ q → ⊥) → T (remains q row)
  unfolding remains looping incoming
  is-remains n = rw (ne_eqb row.target q n) tt

  -- and goes out where q is open
  pub outgoing-is : T (remains q row) → outgoing q row ≡ is_open row.expr q
  unfolding outgoing
  outgoing-is w = rw (ne_eqb row.target q (remains-is w)) (and-true (is_open row.expr q))

pub replaced-target : (q : ℕ) (X : Expr) (row : ExprRow) → (replaced q X row).target ≡ row.target
unfolding replaced
replaced-target q X row = refl

-- ---- a row that remains, with a tree of X put in for q

module _ (q : ℕ) (X : Expr) (row : ExprRow) (stay : T (remains q row)) where
  replaced-into : (s t : Tree) → Denotes row.expr s → Filled (Only q (Denotes X)) s t → Denotes (replaced q X row).expr t
  unfolding replaced
  replaced-into s t d f = rw (outgoing-is q row stay) (go (is_open row.expr q) refl)
    where
      go : (b : Bool) → is_open row.expr q ≡ b → Denotes (cond b (make_cat q row.expr X) row.expr) t
      go true e = (denotes-cat q row.expr X t).1 (s, d, f)
      go false e = rw (filled-stays keep f (denoted-within row.expr s d)) d
        where
          keep : (p : ℕ) (u : Tree) → T (is_open row.expr p) → Only q (Denotes X) p u → u ≡ hole p
          keep p u w (here y) = absurd (not_of_false e w)
          keep p u w (stays n) = refl

  replaced-from : (t : Tree) → Denotes (replaced q X row).expr t → Concatenated q (Denotes row.expr) (Denotes X) t
  unfolding replaced
  replaced-from t d = go (is_open row.expr q) refl (rw (outgoing-is q row stay) at d)
    where
      go : (b : Bool) → is_open row.expr q ≡ b → Denotes (cond b (make_cat q row.expr X) row.expr) t → Concatenated q (Denotes row.expr) (Denotes X) t
      go true e d = (denotes-cat q row.expr X t).0 d
      go false e d = (t, d, filled-same (λ p w. stays (λ i. not_of_false e (rw i at w))) t (denoted-within row.expr t d))

-- ---- the step

module _ (q : ℕ) (rows : List ExprRow) where
  A : Expr
  A = joined (exprs (those (looping q) rows))

  B : Expr
  B = joined (exprs (those (incoming q) rows))

  X-into : (t : Tree) → Concatenated q (Iterated q (Denotes A)) (Denotes B) t → Denotes (stand_in q rows) t
  unfolding A B stand_in
  X-into t c = (denotes-cat q (make_iter q A) B t).1 (c.0, (denotes-iter q A c.0).1 c.1, c.2)

  X-from : (t : Tree) → Denotes (stand_in q rows) t → Concatenated q (Iterated q (Denotes A)) (Denotes B) t
  unfolding A B stand_in
  X-from t d = let c = (denotes-cat q (make_iter q A) B t).0 d in (c.0, (denotes-iter q A c.0).0 c.1, c.2)

  -- what a joining of chosen rows denotes
  chosen_of : (test : ExprRow → Bool) (P : Expr → Type 0) → Some (exprs (those test rows)) P → (row : ExprRow) × Memᴰ row rows × T (test row) × P row.expr
  chosen_of test P x =
      let y = Memᴰ.of_map (λ (row : ExprRow). row.expr) (those test rows) x.1 in
      let z = of-those test rows y.1 in
      (y.0, z.0, z.1, rw y.2 x.2)

  chosen-in : (test : ExprRow → Bool) (row : ExprRow) (t : Tree) → Memᴰ row rows → T (test row) → Denotes row.expr t → Denotes (joined (exprs (those test rows))) t
  chosen-in test row t m w d =
      (denotes-joined (exprs (those test rows)) t).1 (row.expr, Memᴰ.map (λ (row : ExprRow). row.expr) (in-those test rows m w), d)

  taken : Taken (Denoted rows) (Denoted (eliminated q rows)) q (Denotes A) (Denotes B)
  unfolding A B eliminated
  taken = record {
    cases = λ s d. split s d (at-q q d.0 d.2);
    loops = λ s d. let c = chosen_of (looping q) (λ e. Denotes e s) ((denotes-joined (exprs (those (looping q) rows)) s).0 d) in (c.0, c.1, (looping-is q c.0 c.2).0, c.3);
    comes = λ s d. let c = chosen_of (incoming q) (λ e. Denotes e s) ((denotes-joined (exprs (those (incoming q) rows)) s).0 d) in (c.0, c.1, (incoming-is q c.0 c.2).0, c.3);
    no_hole = λ s d. let c = chosen_of (incoming q) (λ e. Denotes e s) ((denotes-joined (exprs (those (incoming q) rows)) s).0 d) in dry s c;
    into = λ r t n c. put r t n c.0 c.1 (filled_more (only-more X-into) c.2);
    from = λ r t d. take r t d;
  }
    where
      split : (s : Tree) (d : Denoted rows q s) → T (looping q d.0) ⊎ T (incoming q d.0) → Denotes A s ⊎ Denotes B s
      split s d (inl w) = inl (chosen-in (looping q) d.0 s d.1 w d.3)
      split s d (inr w) = inr (chosen-in (incoming q) d.0 s d.1 w d.3)

      dry : (s : Tree) → (row : ExprRow) × Memᴰ row rows × T (incoming q row) × Denotes row.expr s → Within (λ p. p ≡ q → ⊥) s
      dry s c = within_more (λ p w i. (incoming-is q c.0 c.2).1 (rw i at w)) s (denoted-within c.0.expr s c.3)

      put : (r : ℕ) (t : Tree) → (r ≡ q → ⊥) → (s : Tree) → Denoted rows r s → Filled (Only q (Denotes (stand_in q rows))) s t → Denoted (eliminated q rows) r t
      put r t n s d f =
          let stay = is-remains q d.0 (λ e. n (sym d.2 ∙ e)) in
          (replaced q (stand_in q rows) d.0, Memᴰ.map (replaced q (stand_in q rows)) (in-those (remains q) rows d.1 stay), replaced-target q (stand_in q rows) d.0 ∙ d.2, replaced-into q (stand_in q rows) d.0 stay s t d.3 f)

      take : (r : ℕ) (t : Tree) → Denoted (eliminated q rows) r t → Concatenated q (Denoted rows r) (Concatenated q (Iterated q (Denotes A)) (Denotes B)) t
      take r t d =
          let y = Memᴰ.of_map (replaced q (stand_in q rows)) (those (remains q) rows) d.1 in
          let z = of-those (remains q) rows y.1 in
          let e : y.0.target ≡ r = sym (replaced-target q (stand_in q rows) y.0) ∙ ap (λ (row : ExprRow). row.target) y.2 ∙ d.2 in
          let c = replaced-from q (stand_in q rows) y.0 z.1 t (rw y.2 d.3) in
          (c.0, (y.0, z.0, e, c.1), filled_more (only-more X-from) c.2)

  pub step-accepts : (r : ℕ) (t : Tree) → (r ≡ q → ⊥) → Reached (Denoted rows) r t ↔ Reached (Denoted (eliminated q rows)) r t
  step-accepts r t n = (
    forth (Denoted rows) (Denoted (eliminated q rows)) q (Denotes A) (Denotes B) taken r t n,
    back (Denoted rows) (Denoted (eliminated q rows)) q (Denotes A) (Denotes B) taken r t,
  )

-- ---- what is left open, and aimed at

-- a row's target is of R, and what is open in it is of S
pub record RowIn (R S : ℕ → Type 0) (row : ExprRow) : Type 0 where
  pub aimed : R row.target
  pub opened : (p : ℕ) → T (is_open row.expr p) → S p

abbrev pub RowsIn : (R S : ℕ → Type 0) → List ExprRow → Type 0
RowsIn R S rows = (row : ExprRow) → Memᴰ row rows → RowIn R S row

-- what stands for q opens only what was open in some row, and not q
pub stand_in-open : (q : ℕ) (rows : List ExprRow) (p : ℕ) → T (is_open (stand_in q rows) p) → ((row : ExprRow) × Memᴰ row rows × T (is_open row.expr p)) × (p ≡ q → ⊥)
unfolding stand_in
stand_in-open q rows p w = go (open-cat q (make_iter q (joined (exprs (those (looping q) rows)))) (joined (exprs (those (incoming q) rows))) p w)
  where
    Found : Type 0
    Found = ((row : ExprRow) × Memᴰ row rows × T (is_open row.expr p)) × (p ≡ q → ⊥)

    looped : (p ≡ q → ⊥) → T (is_open (joined (exprs (those (looping q) rows))) p) ⊎ (p ≡ q) → Found
    looped n (inl w) = let c = chosen_of q rows (looping q) (λ e. T (is_open e p)) (open-joined (exprs (those (looping q) rows)) p w) in ((c.0, c.1, c.3), n)
    looped n (inr e) = absurd (n e)

    came : (row : ExprRow) × Memᴰ row rows × T (incoming q row) × T (is_open row.expr p) → Found
    came c = ((c.0, c.1, c.3), λ i. (incoming-is q c.0 c.2).1 (rw i at c.3))

    go : (T (is_open (make_iter q (joined (exprs (those (looping q) rows)))) p) × (p ≡ q → ⊥)) ⊎ T (is_open (joined (exprs (those (incoming q) rows))) p) → Found
    go (inl y) = looped y.1 (open-iter q (joined (exprs (those (looping q) rows))) p y.0)
    go (inr y) = came (chosen_of q rows (incoming q) (λ e. T (is_open e p)) (open-joined (exprs (those (incoming q) rows)) p y))

replaced-open : (q : ℕ) (X : Expr) (row : ExprRow) (p : ℕ) → T (remains q row) → T (is_open (replaced q X row).expr p) → (T (is_open row.expr p) × (p ≡ q → ⊥)) ⊎ T (is_open X p)
unfolding replaced
replaced-open q X row p stay w = go (is_open row.expr q) refl (rw (outgoing-is q row stay) at w)
  where
    go : (b : Bool) → is_open row.expr q ≡ b → T (is_open (cond b (make_cat q row.expr X) row.expr) p) → (T (is_open row.expr p) × (p ≡ q → ⊥)) ⊎ T (is_open X p)
    go true e w = open-cat q row.expr X p w
    go false e w = inl (w, λ i. not_of_false e (rw i at w))

pub step_in : (q : ℕ) (R S : ℕ → Type 0) (rows : List ExprRow) → RowsIn R S rows → RowsIn (λ r. R r × (r ≡ q → ⊥)) (λ p. S p × (p ≡ q → ⊥)) (eliminated q rows)
unfolding eliminated
step_in q R S rows a row m =
    let y = Memᴰ.of_map (replaced q (stand_in q rows)) (those (remains q) rows) m in
    let z = of-those (remains q) rows y.1 in
    rw (sym y.2) (made y.0 z.1 (a y.0 z.0))
  where
    X : Expr
    X = stand_in q rows

    X-in : (p : ℕ) → T (is_open X p) → S p × (p ≡ q → ⊥)
    X-in p w = let c = stand_in-open q rows p w in ((a c.0.0 c.0.1).opened p c.0.2, c.1)

    either : {row : ExprRow} (p : ℕ) → RowIn R S row → (T (is_open row.expr p) × (p ≡ q → ⊥)) ⊎ T (is_open X p) → S p × (p ≡ q → ⊥)
    either p k (inl y) = (k.opened p y.0, y.1)
    either p k (inr y) = X-in p y

    made : (row : ExprRow) → T (remains q row) → RowIn R S row → RowIn (λ r. R r × (r ≡ q → ⊥)) (λ p. S p × (p ≡ q → ⊥)) (replaced q X row)
    made row stay k = record { aimed = rw (replaced-target q X row) (k.aimed, remains-is q row stay); opened = λ p w. either p k (replaced-open q X row p stay w) }

-- no more rows than before
pub step-length : (q : ℕ) (rows : List ExprRow) → length (eliminated q rows) ≤ length rows
unfolding eliminated
step-length q rows = omega (arith, length-map (those (remains q) rows) (replaced q (stand_in q rows)), those-length (remains q) rows)
