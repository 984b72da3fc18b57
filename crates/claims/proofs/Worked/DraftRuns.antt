-- The runs of P's trees, computed from the file's bytes and the words.
use Prim.Native.Nat.{ℕ, ◌^◌}
use mathlib.Core.Path.{◌≡◌}
use mathlib.Core.Bool.{true, false}
use mathlib.Core.List.{List, [], ◌∷◌}
use Rattle.sets.specs.Members.{has, set_of}
use Rattle.trees.specs.declared.ReachedStates.{ReachedStates}
use Rattle.trees.specs.Promises.{no_run, RunPromise}
use Rattle.ground.specs.Lists.{any_of, any_below}
use Rattle.trees.specs.Piles.{meets, each_in, gives, reached_from, put, pile_of, run_to, pile_answer, words_answer}
use Rattle.trees.proofs.Promised.{answer_for, run_answer, run-answer}
use Rattle.claims.proofs.Worked.Drafts.{P}
use Rattle.claims.specs.DraftFiles.{file_p}
use Rattle.claims.specs.WorkedDrafts.{ran}
use Rattle.claims.proofs.Worked.DraftsHeld.{drafts-held}

-- a run of P is the answer for what P holds
of-P : (words : List ℕ) (r : ReachedStates) → RunPromise file_p words r → r ≡ words_answer P words
unfolding run_answer answer_for
of-P words r x = rw drafts-held.p_held at (run-answer file_p words r x)

pub p_100 : (r : ReachedStates) → RunPromise file_p (1 ∷ 0 ∷ 0 ∷ []) r → r ≡ ran 0 (2 ^ 1) true
unfolding words_answer pile_answer pile_of put reached_from gives each_in meets any_below any_of run_to no_run has set_of
p_100 r x = of-P _ r x

pub p_11000 : (r : ReachedStates) → RunPromise file_p (1 ∷ 1 ∷ 0 ∷ 0 ∷ 0 ∷ []) r → r ≡ ran 0 (2 ^ 1) true
unfolding words_answer pile_answer pile_of put reached_from gives each_in meets any_below any_of run_to no_run has set_of
p_11000 r x = of-P _ r x

pub p_10100 : (r : ReachedStates) → RunPromise file_p (1 ∷ 0 ∷ 1 ∷ 0 ∷ 0 ∷ []) r → r ≡ ran 0 0 false
unfolding words_answer pile_answer pile_of put reached_from gives each_in meets any_below any_of run_to no_run has set_of
p_10100 r x = of-P _ r x

pub p_0 : (r : ReachedStates) → RunPromise file_p (0 ∷ []) r → r ≡ ran 0 (2 ^ 0) false
unfolding words_answer pile_answer pile_of put reached_from gives each_in meets any_below any_of run_to no_run has set_of
p_0 r x = of-P _ r x

pub p_10 : (r : ReachedStates) → RunPromise file_p (1 ∷ 0 ∷ []) r → r ≡ ran 7 0 false
unfolding words_answer pile_answer pile_of put no_run
p_10 r x = of-P _ r x

pub p_00 : (r : ReachedStates) → RunPromise file_p (0 ∷ 0 ∷ []) r → r ≡ ran 7 0 false
unfolding words_answer pile_answer pile_of put no_run
p_00 r x = of-P _ r x

pub p_none : (r : ReachedStates) → RunPromise file_p [] r → r ≡ ran 7 0 false
unfolding words_answer pile_answer pile_of no_run
p_none r x = of-P _ r x
