-- Making a node, for those who make them: which shapes fit, when a node is made, and what the table then is.
use Prim.Native.Nat.{ℕ, suc, ◌<◌, ◌≤◌}
use native.Mathlib.Omega.{arith}
use mathlib.Core.Path.{◌≡◌, refl, sym, ◌∙◌, ap, ap₂}
use mathlib.Core.List.{List, [], ◌∷◌, ◌++◌}
use lib.ListN.{length, take, drop}
use Rattle.sets.specs.Members.{state_width}
use Rattle.automaton.specs.declared.Refusal.{Refusal}
use Rattle.automaton.specs.Refusals.{refusal}
use Rattle.ground.specs.Lists.{All}
use Rattle.expressions.specs.declared.Shape.{Shape}
use Rattle.expressions.specs.Nodes.{Table, empty_shape, hole_shape, symbol_shape, alt_shape, cat_shape, iter_shape, label_of, symbol_of, arity_of, child_count, children, unused}
use Rattle.expressions.specs.Words.{node_width, table_of, words_of}
use Rattle.expressions.specs.Unfolding.{built, expr_at}
use Rattle.expressions.specs.Soundness.{Fits, completed, SoundNodes}
use Rattle.expressions.specs.Making.{Room, Makes}
use Rattle.expressions.proofs.Words.{length-table, table-put, table-words, put-words, length-put}
use Rattle.expressions.proofs.Unfolding.{expr-append}
use Rattle.expressions.proofs.Soundness.{sound-made, expr-made}
use Rattle.expressions.proofs.Decidable.{dec-fits, dec-room}

-- ---- which shapes fit

module _ (number : ℕ) where
  pub empty-fits : Fits number empty_shape
  unfolding children unused child_count
  empty-fits = record { labelled = refl; earlier = tt; zeros = (refl, (refl, (refl, tt))) }

  pub hole-fits : (q : ℕ) → q < state_width → Fits number (hole_shape q)
  unfolding children unused child_count
  hole-fits q h = record { labelled = h; earlier = tt; zeros = (refl, (refl, (refl, tt))) }

  pub symbol-fits : (label a b c : ℕ) → symbol_of label < 32 → arity_of label ≤ 3 → All (λ i. i < number) (take (arity_of label) (a ∷ b ∷ c ∷ []))
      → All (λ i. i ≡ 0) (drop (arity_of label) (a ∷ b ∷ c ∷ [])) → Fits number (symbol_shape label a b c)
  unfolding children unused child_count
  symbol-fits label a b c hs ha e z = record { labelled = (hs, ha); earlier = e; zeros = z }

  pub alt-fits : (a b : ℕ) → a < number → b < number → Fits number (alt_shape a b)
  unfolding children unused child_count
  alt-fits a b ha hb = record { labelled = refl; earlier = (ha, (hb, tt)); zeros = (refl, tt) }

  pub cat-fits : (q a b : ℕ) → q < state_width → a < number → b < number → Fits number (cat_shape q a b)
  unfolding children unused child_count
  cat-fits q a b h ha hb = record { labelled = h; earlier = (ha, (hb, tt)); zeros = (refl, tt) }

  pub iter-fits : (q a : ℕ) → q < state_width → a < number → Fits number (iter_shape q a)
  unfolding children unused child_count
  iter-fits q a h ha = record { labelled = h; earlier = (ha, tt); zeros = (refl, (refl, tt)) }

-- a symbol's label holds its number and its arity
pub label-symbol : (symbol arity : ℕ) → symbol < 256 → symbol_of (label_of symbol arity) ≡ symbol
unfolding label_of
label-symbol symbol arity h = omega arith

pub label-arity : (symbol arity : ℕ) → symbol < 256 → arity_of (label_of symbol arity) ≡ arity
unfolding label_of
label-arity symbol arity h = omega arith

-- ---- what `make` does

module _ (before : List ℕ) (count : ℕ) (shape : Shape) (after : List ℕ) (answer : Refusal) (makes : Makes before count shape after answer) where
  -- the answer is 0 only where the shape fits and there is room
  pub made-only : answer.number ≡ 0 → Fits count shape × Room before count
  made-only e = go (dec-fits count shape) (dec-room before count)
    where
      zero-not : {n : ℕ} → answer ≡ refusal (suc n) → ⊥
      zero-not k = let z : 0 ≡ suc _ = sym e ∙ ap (λ (r : Refusal). r.number) k in omega arith

      go : Dec (Fits count shape) → Dec (Room before count) → Fits count shape × Room before count
      go (no n) d = absurd (zero-not (makes.unfit n).0)
      go (yes f) (no n) = absurd (zero-not (makes.full f n).0)
      go (yes f) (yes r) = (f, r)

  module _ (fits : Fits count shape) (room : Room before count) where
    -- one node more
    pub made_table : table_of after (suc count) ≡ table_of before count ++ (completed (table_of before count) shape ∷ [])
    made_table =
        ap (λ (w : List ℕ). table_of w (suc count)) (makes.done fits room).1 ∙ table-put before count (completed (table_of before count) shape) room.roomy

    pub made-length : length after ≡ length before
    made-length = ap length (makes.done fits room).1 ∙ length-put before count (completed (table_of before count) shape) room.roomy

    -- as words: the table's, and what follows, less one node
    pub made-words : (table : Table) (rest : List ℕ) → before ≡ words_of table ++ rest → length table ≡ count
        → after ≡ words_of (table ++ (completed table shape ∷ [])) ++ drop node_width rest
    made-words table rest e l =
        let t : table_of before count ≡ table = ap₂ table_of e (sym l) ∙ table-words table rest in
        (makes.done fits room).1 ∙ rw (t, e, ← l) (put-words table (completed table shape) rest)

    -- a sound table stays sound
    pub made-sound : SoundNodes (table_of before count) → SoundNodes (table_of after (suc count))
    made-sound s = rw made_table (sound-made (table_of before count) shape s (rw (length-table before count) fits))

    -- the new node's expression is its shape's over the children's, and no earlier one has changed
    pub made-expr : expr_at (table_of after (suc count)) count ≡ built (expr_at (table_of before count)) shape
    made-expr =
        ap₂ expr_at made_table (sym (length-table before count)) ∙ expr-made (table_of before count) shape

    pub made-earlier : (i : ℕ) → i < count → expr_at (table_of after (suc count)) i ≡ expr_at (table_of before count) i
    made-earlier i h =
        ap (λ (t : Table). expr_at t i) made_table
        ∙ expr-append (table_of before count) (completed (table_of before count) shape ∷ []) i (omega (arith, length-table before count))
