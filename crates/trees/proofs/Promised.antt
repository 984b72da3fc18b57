-- The promises are kept: by the answer for a file that is refused, and by the answer for what a file holds. And the answer of a run, computed from the file's bytes and the words alone.
use Prim.Native.Nat.{ℕ}
use mathlib.Core.Path.{◌≡◌, refl, sym, ap, subst}
use mathlib.Core.List.{List}
use Rattle.automaton.specs.Held.{Held}
use Rattle.automaton.specs.Refusals.{refusal, fault_refusal}
use Rattle.automaton.specs.Checks.{Verdict, verdict, holds, fault}
use Rattle.automaton.proofs.Files.Faults.{one-held, never_both}
use Rattle.automaton.proofs.Files.Pair.{verdict-valid}
use Rattle.trees.specs.declared.ReachedStates.{ReachedStates}
use Rattle.trees.specs.declared.ProductiveStates.{ProductiveStates}
use Rattle.meaning.specs.Trees.{Tree}
use Rattle.trees.specs.Words.{IsTree, NoTree}
use Rattle.trees.specs.Promises.{no_run, RunOf, RunPromise, no_states, StatesOf, ProductivePromise}
use Rattle.trees.specs.Piles.{words_answer}
use Rattle.trees.proofs.Answers.{answer-no-tree, answer-tree, run-to, run-unique}

-- a file has one fault, so one refusal
fault-same : (file : List ℕ) (number offset n o : ℕ) → verdict file ≡ fault number offset → verdict file ≡ fault n o → fault_refusal number offset ≡ fault_refusal n o
fault-same file number offset n o e d = let same : number ≡ n = cc in ap refusal same

-- ---- the run

pub run-fault : (file words : List ℕ) (number offset : ℕ) → verdict file ≡ fault number offset → RunPromise file words (no_run (fault_refusal number offset))
run-fault file words number offset e =
    record {
      faulty = λ n o d. let e1 = fault-same file number offset n o e d in ap no_run e1;
      no_tree = λ held d none. absurd (never_both file held number offset d e);
      one_tree = λ held tree d is. absurd (never_both file held number offset d e);
    }

pub run-held : (file words : List ℕ) (held : Held) → verdict file ≡ holds held → RunPromise file words (words_answer held words)
run-held file words held e =
    record {
      faulty = λ n o d. absurd (never_both file held n o e d);
      no_tree = λ other d none. answer-no-tree held words (subst (λ (h : Held). NoTree h words) (one-held file other held d e) none);
      one_tree = λ other tree d is. tree-run other tree (one-held file other held d e) is;
    }
  where
    tree-run : (other : Held) (tree : Tree) → other ≡ held → IsTree other words tree → RunOf other tree (words_answer held words)
    tree-run other tree same is =
        let is_held : IsTree held words tree = subst (λ (h : Held). IsTree h words tree) same is in
        subst (λ (h : Held). RunOf h tree (words_answer held words)) (sym same)
        (subst (RunOf held tree) (sym (answer-tree held words tree is_held)) (run-to held tree (verdict-valid file held e)))

-- the answer of a run
unfoldable pub answer_for : Verdict → List ℕ → ReachedStates
answer_for (holds held) words = words_answer held words
answer_for (fault number offset) words = no_run (fault_refusal number offset)

unfoldable pub run_answer : List ℕ → List ℕ → ReachedStates
run_answer file words = answer_for (verdict file) words

pub answer-promised : (file words : List ℕ) → RunPromise file words (run_answer file words)
unfolding run_answer answer_for
answer-promised file words = go (verdict file) refl
  where
    go : (v : Verdict) → verdict file ≡ v → RunPromise file words (answer_for (verdict file) words)
    go (holds held) e = rw e (run-held file words held e)
    go (fault number offset) e = rw e (run-fault file words number offset e)

-- whatever keeps the promise of `run` is this answer
pub run-answer : (file words : List ℕ) (r : ReachedStates) → RunPromise file words r → r ≡ run_answer file words
run-answer file words r ran = run-unique file words r (run_answer file words) ran (answer-promised file words)

-- ---- the productive states

pub productive-fault : (file : List ℕ) (number offset : ℕ) → verdict file ≡ fault number offset → ProductivePromise file (no_states (fault_refusal number offset))
productive-fault file number offset e =
    record {
      faulty = λ n o d. let e1 = fault-same file number offset n o e d in ap no_states e1;
      found = λ held d. absurd (never_both file held number offset d e);
    }

pub productive-held : (file : List ℕ) (held : Held) (answer : ProductiveStates) → verdict file ≡ holds held → StatesOf held answer → ProductivePromise file answer
productive-held file held answer e states =
    record {
      faulty = λ n o d. absurd (never_both file held n o e d);
      found = λ other d. subst (λ (h : Held). StatesOf h answer) (one-held file held other e d) states;
    }
