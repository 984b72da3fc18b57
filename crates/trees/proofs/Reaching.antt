-- The set that a symbol reaches over subtrees is right: where the sets of the subtrees hold the states that they reach, and no other, so does the set of the node.
use Prim.Native.Nat.{ℕ, ◌<◌}
use native.Mathlib.Omega.{arith}
use mathlib.Core.Bool.{true, false≢true, ◌&&◌}
use mathlib.Core.Logic.{◌↔◌}
use mathlib.Core.Path.{◌≡◌, refl, sym, ◌∙◌}
use mathlib.Core.List.{List, [], ◌∷◌}
use lib.Dec.{ltb, eqb}
use borrow.Author.Tests.{eqb-true, eq-eqb, lt-ltb}
use Rattle.sets.specs.Members.{has, state_width}
use Rattle.sets.proofs.Bits.{has-set_of, has-zero}
use Rattle.automaton.specs.Held.{Rule, Held, ValidRule, Valid}
use Rattle.ground.specs.Lists.{All, any_of}
use Rattle.meaning.specs.Trees.{Tree, Forest, hole, node, []ᶠ, ◌∷ᶠ◌}
use Rattle.trees.specs.Runs.{Reaches, ReachesEach}
use Rattle.trees.specs.Piles.{each_in, gives, reached_from}
use Rattle.ground.proofs.Truth.{and_parts, and_both}
use Rattle.ground.proofs.Lists.{any-pick, any-mem, of-all}

-- ---- sets of reached states

-- the set holds the states that the tree reaches, and no other
abbrev pub Holds : List Rule → Tree → ℕ → Type 0
Holds rules t x = (q : ℕ) → (has x q ≡ true) ↔ Reaches rules t q

abbrev pub HoldsEach : List Rule → Forest → List ℕ → Type 0
HoldsEach rules []ᶠ [] = Unit {0}
HoldsEach rules []ᶠ (x ∷ xs) = ⊥
HoldsEach rules (t ∷ᶠ ts) [] = ⊥
HoldsEach rules (t ∷ᶠ ts) (x ∷ xs) = Holds rules t x × HoldsEach rules ts xs

each_in_lem : (rules : List Rule) (ts : Forest) (xs qs : List ℕ) → HoldsEach rules ts xs → (each_in qs xs ≡ true) ↔ ReachesEach rules ts qs
unfolding each_in
each_in_lem rules []ᶠ [] [] h = (λ e. tt, λ r. refl)
each_in_lem rules []ᶠ [] (q ∷ qs) h = (λ e. absurd (false≢true e), λ r. absurd r)
each_in_lem rules []ᶠ (x ∷ xs) qs h = absurd h
each_in_lem rules (t ∷ᶠ ts) [] qs h = absurd h
each_in_lem rules (t ∷ᶠ ts) (x ∷ xs) [] h = (λ e. absurd (false≢true e), λ r. absurd r)
each_in_lem rules (t ∷ᶠ ts) (x ∷ xs) (q ∷ qs) h =
    let later = each_in_lem rules ts xs qs h.1 in
    let parts = and_parts (has x q) (each_in qs xs) in
    (λ e. ((h.0 q).0 (parts e).0, later.0 (parts e).1), λ r. and_both (has x q) (each_in qs xs) ((h.0 q).1 r.0) (later.1 r.1))

-- every row aims at a state of a set
abbrev pub Aimed : List Rule → Type 0
Aimed rules = All (λ rule. rule.target < state_width) rules

pub holds-node : (rules : List Rule) (f : ℕ) (ts : Forest) (xs : List ℕ) → Aimed rules → HoldsEach rules ts xs → Holds rules (node f ts) (reached_from rules f xs)
unfolding reached_from gives
holds-node rules f ts xs aimed h q = (there, back)
  where
    there : has (reached_from rules f xs) q ≡ true → Reaches rules (node f ts) q
    there e =
        let r = any-pick (gives f xs q) rules (and_parts (ltb q state_width) (any_of (gives f xs q) rules) (sym (has-set_of state_width (λ p. any_of (gives f xs p) rules) q) ∙ e)).1 in
        let rule = r.0 in
        let one = and_parts (eqb rule.symbol f) (eqb rule.target q && each_in rule.sources xs) r.2 in
        let two = and_parts (eqb rule.target q) (each_in rule.sources xs) one.1 in
        (rule, r.1, eqb-true rule.symbol f one.0, eqb-true rule.target q two.0, (each_in_lem rules ts xs rule.sources h).0 two.1)

    back : Reaches rules (node f ts) q → has (reached_from rules f xs) q ≡ true
    back r =
        let rule = r.0 in
        let small : q < state_width = rw r.3 at (of-all (λ y. y.target < state_width) rules aimed r.1) in
        let passes : gives f xs q rule ≡ true =
        and_both (eqb rule.symbol f) (eqb rule.target q && each_in rule.sources xs) (eq-eqb rule.symbol f r.2)
        (and_both (eqb rule.target q) (each_in rule.sources xs) (eq-eqb rule.target q r.3) ((each_in_lem rules ts xs rule.sources h).1 r.4))
        in
        has-set_of state_width (λ p. any_of (gives f xs p) rules) q
        ∙ and_both (ltb q state_width) (any_of (gives f xs q) rules) (lt-ltb q state_width small) (any-mem (gives f xs q) rule rules r.1 passes)

-- ---- the reached set of a tree, computed

unfoldable mutual
  pub reached_set : List Rule → Tree → ℕ
  reached_set rules (hole p) = 0
  reached_set rules (node f ts) = reached_from rules f (reached_sets rules ts)

  pub reached_sets : List Rule → Forest → List ℕ
  reached_sets rules []ᶠ = []
  reached_sets rules (t ∷ᶠ ts) = reached_set rules t ∷ reached_sets rules ts

module _ (rules : List Rule) (aimed : Aimed rules) where
  mutual
    unfolding reached_set reached_sets

    pub holds-set : (t : Tree) → Holds rules t (reached_set rules t)
    holds-set (hole p) q = (λ e. absurd (false≢true (sym (has-zero q) ∙ e)), λ r. absurd r)
    holds-set (node f ts) q = holds-node rules f ts (reached_sets rules ts) aimed (holds-sets ts) q

    pub holds-sets : (ts : Forest) → HoldsEach rules ts (reached_sets rules ts)
    holds-sets []ᶠ = tt
    holds-sets (t ∷ᶠ ts) = (λ q. holds-set t q, holds-sets ts)

-- the rows of a valid file aim at states
pub valid-aimed : (held : Held) → Valid held → Aimed held.rules
valid-aimed held v = go held.rules v.valid_rules
  where
    go : (rules : List Rule) → All (ValidRule held.states held.arities) rules → Aimed rules
    go [] a = tt
    go (x ∷ xs) a = (omega (arith, a.0.aimed, v.few_states), go xs a.1)
