-- The words say which tree it is: two trees of known symbols with the same words are the same tree.
use Prim.Native.Nat.{ℕ}
use native.Mathlib.Omega.{arith}
use mathlib.Core.Path.{◌≡◌, refl, sym, ◌∙◌, ap, ap₂}
use mathlib.Core.List.{List, [], ◌++◌, append_assoc, append-nil}
use Rattle.automaton.specs.Held.{Held}
use Rattle.meaning.specs.Trees.{Tree, Forest, hole, node, []ᶠ, ◌∷ᶠ◌}
use Rattle.trees.specs.Words.{prefix, prefixes, count, OfKnown, AllOfKnown, KnownIn, arity_in, IsTree}

module _ (Known : ℕ → Type 0) (arity : ℕ → ℕ) where
  mutual
    unfolding prefix prefixes count

    -- words that begin with two trees begin with one, and go on alike
    begin-one : (s t : Tree) (a b : List ℕ) → OfKnown Known arity s → OfKnown Known arity t → prefix s ++ a ≡ prefix t ++ b → (s ≡ t) × (a ≡ b)
    begin-one (hole p) t a b ks kt e = absurd ks
    begin-one (node f ss) (hole p) a b ks kt e = absurd kt
    begin-one (node f ss) (node g ts) a b ks kt e =
        let same : f ≡ g = cc in
        let rest : prefixes ss ++ a ≡ prefixes ts ++ b = cc in
        let counts : count ss ≡ count ts = ks.1 ∙ ap arity same ∙ sym kt.1 in
        let below = begin-all ss ts a b counts ks.2 kt.2 rest in
        (ap₂ node same below.0, below.1)

    begin-all : (ss ts : Forest) (a b : List ℕ) → count ss ≡ count ts → AllOfKnown Known arity ss → AllOfKnown Known arity ts
        → prefixes ss ++ a ≡ prefixes ts ++ b → (ss ≡ ts) × (a ≡ b)
    begin-all []ᶠ []ᶠ a b w ks kt e = (refl, e)
    begin-all []ᶠ (t ∷ᶠ ts) a b w ks kt e = absurd (omega arith)
    begin-all (s ∷ᶠ ss) []ᶠ a b w ks kt e = absurd (omega arith)
    begin-all (s ∷ᶠ ss) (t ∷ᶠ ts) a b w ks kt e =
        let first =
        begin-one s t (prefixes ss ++ a) (prefixes ts ++ b) ks.0 kt.0
        (sym (append_assoc (prefix s) (prefixes ss) a) ∙ e ∙ append_assoc (prefix t) (prefixes ts) b)
        in
        let others = begin-all ss ts a b (omega arith) ks.1 kt.1 first.1 in
        (ap₂ ◌∷ᶠ◌ first.0 others.0, others.1)

  pub spelled-once : (s t : Tree) → OfKnown Known arity s → OfKnown Known arity t → prefix s ≡ prefix t → s ≡ t
  spelled-once s t ks kt e = (begin-one s t [] [] ks kt (append-nil (prefix s) ∙ e ∙ sym (append-nil (prefix t)))).0

-- the words are at most one tree
pub at_most_one : (held : Held) (words : List ℕ) (s t : Tree) → IsTree held words s → IsTree held words t → s ≡ t
at_most_one held words s t is it = spelled-once (KnownIn held) (arity_in held) s t is.of_known it.of_known (is.in_order ∙ sym it.in_order)
