-- Trees and runs: the cases of P, and the productive states of one draft.
use Prim.Native.Nat.{ℕ, zero, suc}
use native.Mathlib.Omega.{arith}
use mathlib.Core.Path.{◌≡◌, refl, sym, ◌∙◌, ap, subst}
use mathlib.Core.Bool.{true, false}
use mathlib.Core.Logic.{◌⊎◌, inl, inr}
use mathlib.Core.List.Memᴰ
use mathlib.Core.List.{List, [], ◌∷◌}
use borrow.Author.Tests.{eqb-true}
use Rattle.sets.specs.Members.{has}
use Rattle.sets.proofs.Bits.{has-pow, has-high}
use Rattle.automaton.specs.Held.{Held}
use Rattle.automaton.specs.Refusals.{refusal, no_refusal}
use Rattle.trees.specs.declared.ReachedStates.{ReachedStates}
use Rattle.trees.specs.declared.ProductiveStates.{ProductiveStates}
use Rattle.meaning.specs.Trees.{Tree, hole, node, []ᶠ, ◌∷ᶠ◌}
use Rattle.trees.specs.Words.{prefix, prefixes, count, IsTree, NoTree}
use Rattle.trees.specs.Runs.{Reaches, ReachesEach, Accepted, Productive}
use Rattle.trees.specs.Promises.{no_run, ProductivePromise}
use Rattle.trees.specs.Piles.{put, pile_of, run_to, pile_answer, words_answer}
use Rattle.trees.proofs.Answers.{answer-tree, one_set_lem}
use Rattle.claims.proofs.Worked.Drafts.{unused}
use Rattle.ground.proofs.Lists.{of-all}
use Rattle.claims.specs.DraftFiles.{file_unused}
use Rattle.claims.specs.Slips.{leaf}
use Rattle.claims.specs.WorkedDrafts.{over, pair}
use Rattle.claims.specs.ComputedFiles.{rule, held_p}
use Rattle.claims.specs.Computed.{RunCases}
use Rattle.claims.proofs.Worked.DraftsHeld.{drafts-held}

-- ---- words

one_tree : IsTree held_p (1 ∷ 0 ∷ 0 ∷ []) (pair 1 (leaf 0) (leaf 0))
unfolding prefix prefixes count
one_tree = record { of_known = omega arith; in_order = refl; some_word = omega arith; few_words = omega arith }

-- words that are refused are no tree
refused : (held : Held) (words : List ℕ) → words_answer held words ≡ no_run (refusal 7) → NoTree held words
unfolding no_run run_to
refused held words e t is = let z = ap (λ (a : ReachedStates). a.refusal.number) (sym e ∙ answer-tree held words t is) in omega arith

half : words_answer held_p (1 ∷ 0 ∷ []) ≡ no_run (refusal 7)
unfolding words_answer pile_answer pile_of put
half = refl

two : words_answer held_p (0 ∷ 0 ∷ []) ≡ no_run (refusal 7)
unfolding words_answer pile_answer pile_of put
two = refl

no_words : words_answer held_p [] ≡ no_run (refusal 7)
unfolding words_answer pile_answer pile_of
no_words = refl

unknown : words_answer held_p (2 ∷ []) ≡ no_run (refusal 7)
unfolding words_answer pile_answer pile_of put
unknown = refl

-- ---- states

leaf-0 : Reaches held_p.rules (leaf 0) 0
leaf-0 = (rule 0 0 [], Memᴰ.head refl, refl, refl, tt)

reaches : Reaches held_p.rules (pair 1 (leaf 0) (leaf 0)) 1
reaches = (rule 1 1 (0 ∷ 0 ∷ []), Memᴰ.tail (Memᴰ.head refl), refl, refl, (leaf-0, (leaf-0, tt)))

not_this : Reaches held_p.rules (pair 1 (leaf 0) (leaf 0)) 0 → ⊥
not_this x =
    of-all (λ r. r.symbol ≡ 1 → r.target ≡ 0 → ⊥) held_p.rules (λ i j. omega arith, (λ i j. omega arith, (λ i j. omega arith, tt))) x.1 x.2 x.3

not-leaf : Reaches held_p.rules (leaf 0) 1 → ⊥
not-leaf x =
    of-all (λ r. r.symbol ≡ 0 → r.target ≡ 1 → ⊥) held_p.rules (λ i j. omega arith, (λ i j. omega arith, (λ i j. omega arith, tt))) x.1 x.2 x.3

not_turned : (q : ℕ) → Reaches held_p.rules (pair 1 (leaf 0) (pair 1 (leaf 0) (leaf 0))) q → ⊥
not_turned q x =
    of-all (λ r. r.symbol ≡ 1 → ReachesEach held_p.rules (leaf 0 ∷ᶠ pair 1 (leaf 0) (leaf 0) ∷ᶠ []ᶠ) r.sources → ⊥) held_p.rules
    (λ i y. omega arith, (λ i y. not_this y.1.0, (λ i y. not-leaf y.0, tt))) x.1 x.2 x.4

accepted : Accepted held_p (pair 1 (leaf 0) (leaf 0))
unfolding has
accepted = (1, refl, reaches)

not_accepted : Accepted held_p (leaf 0) → ⊥
not_accepted x =
    let e : x.0 ≡ 1 = eqb-true x.0 1 (sym (has-pow 1 x.0) ∙ x.1) in
    not-leaf (subst (λ (q : ℕ). Reaches held_p.rules (leaf 0) q) e x.2)

-- ---- the productive states

reached-0 : Reaches unused.rules (leaf 0) 0
reached-0 = (rule 0 0 [], Memᴰ.head refl, refl, refl, tt)

reached-2 : Reaches unused.rules (over 2 (leaf 0)) 2
reached-2 = (rule 2 2 (0 ∷ []), Memᴰ.tail (Memᴰ.tail (Memᴰ.head refl)), refl, refl, (reached-0, tt))

only : (q : ℕ) → Productive unused.rules q → has 5 q ≡ true
unfolding has
only q x = go x.0 x.1
  where
    in-five : (q ≡ 0) ⊎ (q ≡ 2) → has 5 q ≡ true
    in-five (inl e) = rw e
    in-five (inr e) = rw e

    go : (t : Tree) → Reaches unused.rules t q → has 5 q ≡ true
    go (hole p) y = absurd y
    go (node f ts) y =
        in-five (of-all (λ r. r.target ≡ q → (q ≡ 0) ⊎ (q ≡ 2)) unused.rules (λ e. inl (sym e), (λ e. inl (sym e), (λ e. inr (sym e), tt))) y.1 y.3)

never : false ≡ true → ⊥
never e = let z : ◌≡◌ {A = ℕ} 0 1 = cc in omega arith

always : (q : ℕ) → has 5 q ≡ true → Productive unused.rules q
unfolding has
always zero e = (leaf 0, reached-0)
always (suc zero) e = absurd (never e)
always (suc (suc zero)) e = (over 2 (leaf 0), reached-2)
always (suc (suc (suc k))) e = absurd (never (sym (has-high 3 5 (suc (suc (suc k))) (omega arith) (omega arith)) ∙ e))

productive : (r : ProductiveStates) → ProductivePromise file_unused r → r ≡ record { refusal = no_refusal; states = record { 0 = 5 } }
productive r p =
    let c = p.found unused drafts-held.unused_held in
    let states : r.states.0 ≡ 5 = one_set_lem r.states.0 5 (λ q. (λ e. only q ((c.productive q).0 e), λ e. (c.productive q).1 (always q e))) in
    λ i. record { refusal = c.done i; states = record { 0 = states i } }

pub run-cases : RunCases
unfolding prefix prefixes
run-cases =
    record {
      words_of = refl;
      one_tree = one_tree;
      half_a_tree = refused held_p (1 ∷ 0 ∷ []) half;
      two_trees = refused held_p (0 ∷ 0 ∷ []) two;
      no_words = refused held_p [] no_words;
      unknown_symbol = refused held_p (2 ∷ []) unknown;
      too_many = λ held words h t is. let k = is.few_words in omega arith;
      reaches = reaches;
      not_this = not_this;
      not_turned = not_turned;
      accepted = accepted;
      not_accepted = not_accepted;
      productive = productive;
    }
