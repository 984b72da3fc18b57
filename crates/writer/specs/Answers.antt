-- What `write` promises, of the value, the lent bytes before and after, and what it returns.
use Rattle.std.specs.Prelude.{ℕ, ◌≤◌, ◌<◌, ◌≡◌, List, ◌++◌, length, drop}
use Rattle.automaton.specs.declared.Refusal.{Refusal}
use Rattle.automaton.specs.declared.Automaton.{Automaton}
use Rattle.automaton.specs.Held.{Valid}
use Rattle.automaton.specs.File.{file_of}
use Rattle.automaton.specs.Refusals.{refusal, no_refusal}
use Rattle.automaton.specs.Answers.{held_by}
use Rattle.automaton.specs.declared.Extent.{Extent}

-- what is returned: a refusal, and the file's length
abbrev pub writing : Refusal → ℕ → Extent
writing given size = record { refusal = given; length = size }

-- 4 where no file has the value, then 6 where the bytes are too few, and nothing is changed; done, the file stands at the front and its length is returned [3.20 to 3.23, 4.24]
pub record Written (value : Automaton) (before after : List ℕ) (answer : Extent) : Type 0 where
  pub unfit : (Valid (held_by value) → ⊥) → (answer ≡ writing (refusal 4) 0) × (after ≡ before)
  pub short : Valid (held_by value) → length before < length (file_of (held_by value)) → (answer ≡ writing (refusal 6) 0) × (after ≡ before)
  pub done : Valid (held_by value) → length (file_of (held_by value)) ≤ length before
      → (answer ≡ writing no_refusal (length (file_of (held_by value)))) × (after ≡ file_of (held_by value) ++ drop (length (file_of (held_by value))) before)
