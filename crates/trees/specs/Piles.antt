-- How the run goes, for the contracts of the private functions: the words are read from the right end. Each symbol takes as many sets off a pile as its arity, and puts back the set that its node reaches.
-- The promises do not rest on this page: that it finds the trees, and their reached states, is proved.
use Rattle.std.specs.Prelude.{ℕ, Bool, true, false, cond, ◌&&◌, List, [], ◌∷◌, ◌≡◌, leb, ltb, eqb, length, take, drop, Option, None, Some, MatchOption}
use Rattle.sets.specs.Members.{has, set_of, state_width}
use Rattle.automaton.specs.Refusals.{refusal, no_refusal}
use Rattle.automaton.specs.Held.{Rule, Held}
use Rattle.trees.specs.declared.ReachedStates.{ReachedStates}
use Rattle.trees.specs.Words.{arity_in, most_words}
use Rattle.trees.specs.Promises.{no_run}
use Rattle.trees.specs.Stacks.{alone}
use Rattle.ground.specs.Lists.{any_of, any_below}

-- have two sets of states a member in common?
unfoldable pub meets : ℕ → ℕ → Bool
meets a b = any_below state_width (λ q. has a q && has b q)

-- is each state in the set at its place?
unfoldable pub each_in : List ℕ → List ℕ → Bool
each_in [] [] = true
each_in [] (x ∷ xs) = false
each_in (q ∷ qs) [] = false
each_in (q ∷ qs) (x ∷ xs) = has x q && each_in qs xs

-- does a row give state q for symbol f over subtrees that reach these sets?
unfoldable pub gives : ℕ → List ℕ → ℕ → Rule → Bool
gives f sets q rule = eqb rule.symbol f && (eqb rule.target q && each_in rule.sources sets)

-- the set that symbol f reaches over subtrees that reach these sets
unfoldable pub reached_from : List Rule → ℕ → List ℕ → ℕ
reached_from rules f sets = set_of state_width (λ q. any_of (gives f sets q) rules)

-- what the words read so far leave: the reached sets of so many trees, the leftmost on top; or words that no further word can complete
pub data Pile : Type 0 where
  broken : Pile
  pile : List ℕ → Pile

-- one more symbol, on the left
unfoldable pub put : Held → ℕ → Pile → Pile
put held f broken = broken
put held f (pile sets) =
    cond (ltb f (length held.arities) && leb (arity_in held f) (length sets))
    (pile (reached_from held.rules f (take (arity_in held f) sets) ∷ drop (arity_in held f) sets))
    broken

-- the pile of these sets becomes that of those, or is broken
abbrev pub Puts : Held → ℕ → (before after : List ℕ) → Option (Unit {0}) → Type 0
Puts held f before after done = MatchOption done (put held f (pile before) ≡ broken) (λ _. put held f (pile before) ≡ pile after)

unfoldable pub pile_of : Held → List ℕ → Pile
pile_of held [] = pile []
pile_of held (f ∷ words) = put held f (pile_of held words)

-- ---- the answers that piles give

-- the run of a tree that reaches the set x, where these states are final
unfoldable pub run_to : ℕ → ℕ → ReachedStates
run_to finals x = record { refusal = no_refusal; states = record { 0 = x }; yes = meets x finals }

-- one tree is left, or not
unfoldable pub pile_answer : Held → Pile → ReachedStates
pile_answer held broken = no_run (refusal 7)
pile_answer held (pile []) = no_run (refusal 7)
pile_answer held (pile (x ∷ [])) = run_to held.finals x
pile_answer held (pile (x ∷ (y ∷ sets))) = no_run (refusal 7)

-- the run of the tree that reaches the set; refusal 7 where there is none
unfoldable pub tree_answer : ℕ → Option ℕ → ReachedStates
tree_answer finals None = no_run (refusal 7)
tree_answer finals (Some x) = run_to finals x

-- the set of the one tree that is left, if one is
abbrev pub one_left : Pile → Option ℕ
one_left broken = None
one_left (pile sets) = alone sets

unfoldable pub words_answer : Held → List ℕ → ReachedStates
words_answer held words = cond (leb (length words) most_words) (pile_answer held (pile_of held words)) (no_run (refusal 7))
