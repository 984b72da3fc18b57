-- The shams that the promises must not let pass [12.4 to 12.8]: each, as what no outcome of the promises is. Where a sham could have every number right, the claim goes by the words or the list alone.
use Rattle.std.specs.Prelude.{ℕ, ◌≤◌, ◌≡◌, Bool, List, [], ◌∷◌, length, replicate}
use Rattle.automaton.specs.declared.Reading.{Reading}
use Rattle.automaton.specs.Answers.{read_answer}
use Rattle.trees.specs.declared.ReachedStates.{ReachedStates}
use Rattle.trees.specs.Promises.{RunPromise}
use Rattle.expressions.specs.Answers.{SoundAnswer, Measures, measured}
use Rattle.elimination.specs.declared.Partly.{Partly}
use Rattle.elimination.specs.declared.Wholly.{Wholly}
use Rattle.elimination.specs.Answers.{PartlyAnswered, WhollyAnswered}
use Rattle.claims.specs.DraftFiles.{file_p, file_pairs, file_exchanged}
use Rattle.claims.specs.WorkedDrafts.{whole, words_p}

-- after k states of P and after j of them the lists differ, whatever else is right
abbrev pub ListsDiffer : (k j : ℕ) → Type 0
ListsDiffer k j = (before after other words : List ℕ) (r s : Partly) → 60 ≤ length before → 60 ≤ length other
    → PartlyAnswered file_p k before after r → PartlyAnswered file_p j other words s → r.list ≡ s.list → ⊥

-- and the tables differ, in words that were all 0
abbrev pub TablesDiffer : (k j : ℕ) → Type 0
TablesDiffer k j = (n : ℕ) (after words : List ℕ) (r s : Partly) → 60 ≤ n
    → PartlyAnswered file_p k (replicate n 0) after r → PartlyAnswered file_p j (replicate n 0) words s → after ≡ words → ⊥

pub record NoSham : Type 0 where
  -- turns every file away [12.4]
  pub refuses_all : (before after : List ℕ) (number : ℕ) → 60 ≤ length before → WhollyAnswered file_p before after (whole number 0 0) → ⊥
  -- one table for all files: no words serve both P and the pairs, whatever numbers go with them [12.5]
  pub fixed_table : (before after other : List ℕ) (r s : Wholly) → 60 ≤ length before → 60 ≤ length other
      → WhollyAnswered file_p before after r → WhollyAnswered file_pairs other after s → ⊥
  -- also where the same numbers are right, for P and P with its symbols exchanged, the words differ [12.5]
  pub same_numbers : (before after other words : List ℕ) (r s : Wholly) → 60 ≤ length before → 60 ≤ length other
      → WhollyAnswered file_p before after r → WhollyAnswered file_exchanged other words s → (r ≡ s) × (after ≡ words → ⊥)
  -- leaves its list alone [12.6]
  pub list_as_found : ListsDiffer 0 1
  pub table_as_found : TablesDiffer 0 1
  -- takes out state 0 and no more [12.6]
  pub first_state_only : ListsDiffer 1 2
  pub first_table_only : TablesDiffer 1 2
  -- makes up a number of nodes, or a size [12.7]
  pub invented_count : (before after : List ℕ) (count answer : ℕ) → 60 ≤ length before → WhollyAnswered file_p before after (whole 0 count answer) → count ≡ 10
  pub invented_size : (before after : List ℕ) (n : ℕ) → 10 ≤ length before → Measures words_p 10 9 before after (measured 0 n) → n ≡ 12
  -- a run, a reader and a check that always say the same [12.8]
  pub constant_run : (r : ReachedStates) → RunPromise file_p (1 ∷ 0 ∷ 0 ∷ []) r → RunPromise file_p (0 ∷ []) r → ⊥
  pub constant_reader : (r : Reading) → r ≡ read_answer file_p → r ≡ read_answer [] → ⊥
  pub constant_check : (r : Bool) → SoundAnswer words_p 10 9 r → SoundAnswer words_p 10 10 r → ⊥
