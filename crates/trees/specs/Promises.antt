-- What `run` and `productive` promise, for every file and all words [5.5, 5.8].
use Rattle.std.specs.Prelude.{ℕ, true, false, ◌↔◌, ◌≡◌, List, Result, Ok, Err}
use Rattle.sets.specs.Members.{has}
use Rattle.automaton.specs.Held.{Held}
use Rattle.automaton.specs.declared.Refusal.{Refusal}
use Rattle.automaton.specs.declared.Refused.{Refused}
use Rattle.automaton.specs.Refusals.{refusal, no_refusal, number_of, fault_refusal}
use Rattle.sets.specs.declared.StateSet.{StateSet}
use Rattle.trees.specs.declared.Reached.{Reached}
use Rattle.automaton.specs.Checks.{verdict, holds, fault}
use Rattle.trees.specs.declared.ReachedStates.{ReachedStates}
use Rattle.trees.specs.declared.ProductiveStates.{ProductiveStates}
use Rattle.meaning.specs.Trees.{Tree}
use Rattle.trees.specs.Words.{IsTree, NoTree}
use Rattle.trees.specs.Runs.{Reaches, Accepted, ProductiveSet}

-- ---- the run

-- a refusal: the set is empty, and the yes is a no [4.20]
unfoldable pub no_run : Refusal → ReachedStates
no_run given = record { refusal = given; states = record { 0 = 0 }; yes = false }

-- the numbers of a result of `run` [5.5, 12.13]
abbrev pub run_of : Result Reached Refused → ReachedStates
run_of (Ok reached) = record { refusal = no_refusal; states = reached.states; yes = reached.yes }
run_of (Err reason) = no_run (refusal (number_of reason))

-- the reached set, and a yes exactly where the tree is accepted [5.5]
pub record RunOf (held : Held) (tree : Tree) (answer : ReachedStates) : Type 0 where
  pub done : answer.refusal ≡ no_refusal
  pub reached : (q : ℕ) → (has answer.states.0 q ≡ true) ↔ Reaches held.rules tree q
  pub accepted : (answer.yes ≡ true) ↔ Accepted held tree

-- the file's refusal first, then 7 where the words are no tree, else the run of the tree that they are [4.23, 5.3, 5.5]
pub record RunPromise (file words : List ℕ) (answer : ReachedStates) : Type 0 where
  pub faulty : (number offset : ℕ) → verdict file ≡ fault number offset → answer ≡ no_run (fault_refusal number offset)
  pub no_tree : (held : Held) → verdict file ≡ holds held → NoTree held words → answer ≡ no_run (refusal 7)
  pub one_tree : (held : Held) (tree : Tree) → verdict file ≡ holds held → IsTree held words tree → RunOf held tree answer

-- ---- the productive states

unfoldable pub no_states : Refusal → ProductiveStates
no_states given = record { refusal = given; states = record { 0 = 0 } }

-- the numbers of a result of `productive` [5.8, 12.13]
abbrev pub states_of : Result StateSet Refused → ProductiveStates
states_of (Ok states) = record { refusal = no_refusal; states = states }
states_of (Err reason) = no_states (refusal (number_of reason))

-- the set of all productive states [5.8]
pub record StatesOf (held : Held) (answer : ProductiveStates) : Type 0 where
  pub done : answer.refusal ≡ no_refusal
  pub productive : ProductiveSet held.rules answer.states.0

-- the file's refusal first; else the set of the productive states [5.8]
pub record ProductivePromise (file : List ℕ) (answer : ProductiveStates) : Type 0 where
  pub faulty : (number offset : ℕ) → verdict file ≡ fault number offset → answer ≡ no_states (fault_refusal number offset)
  pub found : (held : Held) → verdict file ≡ holds held → StatesOf held answer
