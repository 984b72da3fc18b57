-- From piles to promises: the answer that the pile of the words gives is the run of the tree that the words are, and 7 where they are none; and an answer that keeps the promise is the only one.
use Prim.Native.Nat.{ℕ, zero, suc, ◌+◌, ◌^◌, ◌<◌, ◌≤◌}
use native.Mathlib.Omega.{arith}
use native.Mathlib.Nat.{pow-suc, lt_of_lt_of_le}
use native.Mathlib.Decide.{dec_lt}
use mathlib.Core.Bool.{Bool, true, false, false≢true, ◌&&◌}
use mathlib.Core.Logic.{◌↔◌, ◌⊎◌, inl, inr}
use mathlib.Core.Path.{◌≡◌, refl, sym, ◌∙◌, subst}
use mathlib.Core.List.{List, [], ◌∷◌}
use lib.Dec.{leb}
use lib.ListN.{length}
use lib.Pow.{pow_mono}
use borrow.Author.Tests.{le-leb, leb-true, leb-false}
use Rattle.sets.specs.Members.{has, state_width}
use Rattle.sets.proofs.Bits.{same-members, has-high}
use Rattle.automaton.specs.Refusals.{refusal}
use Rattle.automaton.specs.Held.{Held, Valid}
use Rattle.automaton.specs.Checks.{Verdict, verdict, holds, fault}
use Rattle.trees.specs.declared.ReachedStates.{ReachedStates}
use Rattle.trees.specs.declared.ProductiveStates.{ProductiveStates}
use Rattle.meaning.specs.Trees.{Tree, hole, node}
use Rattle.trees.specs.Words.{prefix, OfKnown, KnownIn, arity_in, most_words, IsTree, NoTree}
use Rattle.trees.specs.Runs.{Reaches, Accepted}
use Rattle.trees.specs.Promises.{no_run, RunOf, RunPromise, StatesOf, ProductivePromise}
use Rattle.trees.specs.Piles.{meets, Pile, broken, pile, pile_of, run_to, pile_answer, words_answer}
use Rattle.ground.proofs.Truth.{and_parts, and_both, same_test}
use Rattle.ground.proofs.Lists.{below-pick, below-some}
use Rattle.trees.proofs.Reaching.{reached_set, holds-set, valid-aimed}
use Rattle.trees.proofs.Piling.{pile-of-tree, tree-of-pile}

-- ---- the words of a tree and the piles that they leave

pub tree-pile : (held : Held) (words : List ℕ) (t : Tree) → IsTree held words t → pile_of held words ≡ pile (reached_set held.rules t ∷ [])
tree-pile held words t is = rw is.in_order at (pile-of-tree held t is.of_known)

some_prefix : (held : Held) (t : Tree) → OfKnown (KnownIn held) (arity_in held) t → 1 ≤ length (prefix t)
unfolding prefix
some_prefix held (hole p) k = absurd k
some_prefix held (node f ts) k = omega arith

pub pile-tree : (held : Held) (words : List ℕ) (x : ℕ) → length words ≤ most_words → pile_of held words ≡ pile (x ∷ []) → (t : Tree) × IsTree held words t
pile-tree held words x few e =
    let r = tree-of-pile held words x e in (
      r.0,
      record {
        of_known = r.1;
        in_order = r.2;
        some_word = subst (λ (l : List ℕ). 1 ≤ length l) r.2 (some_prefix held r.0 r.1);
        few_words = few;
      },
    )

-- the words are a tree, or none
pub decide-tree : (held : Held) (words : List ℕ) → ((t : Tree) × IsTree held words t) ⊎ NoTree held words
decide-tree held words = go (leb (length words) most_words) (pile_of held words) refl refl
  where
    go : (b : Bool) (p : Pile) → leb (length words) most_words ≡ b → pile_of held words ≡ p → ((t : Tree) × IsTree held words t) ⊎ NoTree held words
    go false p d e = inr (λ t is. omega (arith, leb-false (length words) most_words d, is.few_words))
    go true broken d e = inr (λ t is. let z : broken ≡ pile (reached_set held.rules t ∷ []) = sym e ∙ tree-pile held words t is in let y : ◌≡◌ {A = ℕ} 0 1 = cc in omega arith)
    go true (pile []) d e = inr (λ t is. let z : pile [] ≡ pile (reached_set held.rules t ∷ []) = sym e ∙ tree-pile held words t is in let y : ◌≡◌ {A = ℕ} 0 1 = cc in omega arith)
    go true (pile (x ∷ [])) d e = inl (pile-tree held words x (leb-true (length words) most_words d) e)
    go true (pile (x ∷ (w ∷ ws))) d e =
        inr (λ t is. let z : pile (x ∷ (w ∷ ws)) ≡ pile (reached_set held.rules t ∷ []) = sym e ∙ tree-pile held words t is in let y : ◌≡◌ {A = ℕ} 0 1 = cc in omega arith)

-- ---- the answer of the pile

pub answer-no-tree : (held : Held) (words : List ℕ) → NoTree held words → words_answer held words ≡ no_run (refusal 7)
unfolding words_answer pile_answer
answer-no-tree held words none = go (leb (length words) most_words) (pile_of held words) refl refl
  where
    go : (b : Bool) (p : Pile) → leb (length words) most_words ≡ b → pile_of held words ≡ p → words_answer held words ≡ no_run (refusal 7)
    go false p d e = rw d
    go true broken d e = rw (d, e)
    go true (pile []) d e = rw (d, e)
    go true (pile (x ∷ [])) d e = let r = pile-tree held words x (leb-true (length words) most_words d) e in absurd (none r.0 r.1)
    go true (pile (x ∷ (w ∷ ws))) d e = rw (d, e)

pub answer-tree : (held : Held) (words : List ℕ) (t : Tree) → IsTree held words t → words_answer held words ≡ run_to held.finals (reached_set held.rules t)
unfolding words_answer pile_answer
answer-tree held words t is = rw (le-leb (length words) most_words is.few_words, tree-pile held words t is)

pub run-to : (held : Held) (t : Tree) → Valid held → RunOf held t (run_to held.finals (reached_set held.rules t))
unfolding run_to meets
run-to held t v =
    record {
      done = refl;
      reached = reached;
      accepted = (there, back);
    }
  where
    x : ℕ
    x = reached_set held.rules t

    reached : (q : ℕ) → (has x q ≡ true) ↔ Reaches held.rules t q
    reached q = holds-set held.rules (valid-aimed held v) t q

    there : meets x held.finals ≡ true → Accepted held t
    there e =
        let r = below-pick state_width (λ q. has x q && has held.finals q) e in
        let both = and_parts (has x r.0) (has held.finals r.0) r.2 in
        (r.0, both.1, (reached r.0).0 both.0)

    small : (q : ℕ) → has held.finals q ≡ true → q < state_width
    small q e = go (dec_lt q state_width)
      where
        within : held.finals < 2 ^ state_width
        within = lt_of_lt_of_le v.finals_within (pow_mono v.few_states)

        go : Dec (q < state_width) → q < state_width
        go (yes l) = l
        go (no l) = absurd (false≢true (sym (has-high state_width held.finals q within (omega arith)) ∙ e))

    back : Accepted held t → meets x held.finals ≡ true
    back a =
        below-some state_width (λ q. has x q && has held.finals q) a.0 (small a.0 a.1)
        (and_both (has x a.0) (has held.finals a.0) ((reached a.0).1 a.2) a.1)

-- ---- no second answer

lt-two-pow-self : (n : ℕ) → n < 2 ^ n
lt-two-pow-self zero = omega arith
lt-two-pow-self (suc n) = rw (pow-suc 2 n) (omega (arith, lt-two-pow-self n))

-- two sets with the same members are one number
pub one_set_lem : (a b : ℕ) → ((q : ℕ) → (has a q ≡ true) ↔ (has b q ≡ true)) → a ≡ b
one_set_lem a b same =
    same-members (a + b) a b (lt_of_lt_of_le (lt-two-pow-self a) (pow_mono (omega arith)))
    (lt_of_lt_of_le (lt-two-pow-self b) (pow_mono (omega arith)))
    (λ q _. same_test (has a q) (has b q) (same q).0 (same q).1)

same-run : (held : Held) (t : Tree) (r s : ReachedStates) → RunOf held t r → RunOf held t s → r ≡ s
same-run held t r s a b =
    let given : r.refusal ≡ s.refusal = a.done ∙ sym b.done in
    let states : r.states.0 ≡ s.states.0 =
    one_set_lem r.states.0 s.states.0 (λ q. (λ e. (b.reached q).1 ((a.reached q).0 e), λ e. (a.reached q).1 ((b.reached q).0 e)))
    in
    let says : r.yes ≡ s.yes = same_test r.yes s.yes (λ e. b.accepted.1 (a.accepted.0 e)) (λ e. a.accepted.1 (b.accepted.0 e)) in
    λ i. record { refusal = given i; states = record { 0 = states i }; yes = says i }

-- two answers that keep the promise of `run` on one input are equal
pub run-unique : (file words : List ℕ) (r s : ReachedStates) → RunPromise file words r → RunPromise file words s → r ≡ s
run-unique file words r s a b = go (verdict file) refl
  where
    on-held : (held : Held) → verdict file ≡ holds held → ((t : Tree) × IsTree held words t) ⊎ NoTree held words → r ≡ s
    on-held held e (inl x) = same-run held x.0 r s (a.one_tree held x.0 e x.1) (b.one_tree held x.0 e x.1)
    on-held held e (inr none) = a.no_tree held e none ∙ sym (b.no_tree held e none)

    go : (v : Verdict) → verdict file ≡ v → r ≡ s
    go (holds held) e = on-held held e (decide-tree held words)
    go (fault number offset) e = a.faulty number offset e ∙ sym (b.faulty number offset e)

-- two answers that keep the promise of `productive` on one input are equal
pub productive-unique : (file : List ℕ) (r s : ProductiveStates) → ProductivePromise file r → ProductivePromise file s → r ≡ s
productive-unique file r s a b = go (verdict file) refl
  where
    on-held : (held : Held) → StatesOf held r → StatesOf held s → r ≡ s
    on-held held c d =
        let given : r.refusal ≡ s.refusal = c.done ∙ sym d.done in
        let states : r.states.0 ≡ s.states.0 =
        one_set_lem r.states.0 s.states.0 (λ q. (λ e. (d.productive q).1 ((c.productive q).0 e), λ e. (c.productive q).1 ((d.productive q).0 e)))
        in
        λ i. record { refusal = given i; states = record { 0 = states i } }

    go : (v : Verdict) → verdict file ≡ v → r ≡ s
    go (holds held) e = on-held held (a.found held e) (b.found held e)
    go (fault number offset) e = a.faulty number offset e ∙ sym (b.faulty number offset e)
