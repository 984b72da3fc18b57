-- What `is_sound` and `measure` promise, of what they are lent and answer.
use Rattle.std.specs.Prelude.{ℕ, ◌≤◌, ◌<◌, ◌≡◌, Bool, List, ◌++◌, length, drop, Result, Ok, Err}
use Rattle.ground.specs.Decides.{Decides}
use Rattle.automaton.specs.declared.Refused.{Refused}
use Rattle.automaton.specs.Refusals.{refusal, number_of}
use Rattle.expressions.specs.declared.Measured.{Measured}
use Rattle.expressions.specs.Words.{table_of}
use Rattle.expressions.specs.Unfolding.{expr_at}
use Rattle.expressions.specs.Soundness.{Sound}
use Rattle.expressions.specs.Sizes.{held_size, sizes_of}

-- `is_sound` answers yes just when the words are a sound table [7.13]
abbrev pub SoundAnswer : List ℕ → ℕ → ℕ → Bool → Type 0
SoundAnswer words count answer result = Decides (Sound words count answer) result

-- the answer of `measure` with this refusal and this size
abbrev pub measured : ℕ → ℕ → Measured
measured number size = record { refusal = refusal number; size = size }

-- the numbers of a result of `measure` [9.3, 12.13]
abbrev pub measured_of : Result ℕ Refused → Measured
measured_of (Ok size) = measured 0 size
measured_of (Err reason) = measured (number_of reason) 0

-- what `measure` promises, of the words, the scratch before and after, and its result: 8 for words that are not sound, then 6 for too little scratch, and nothing changes; else the scratch words begin with the sizes of the nodes, and that of the answer is returned [9.3]
pub record Measures (words : List ℕ) (count answer : ℕ) (before after : List ℕ) (result : Measured) : Type 0 where
  pub unsound : (Sound words count answer → ⊥) → (result ≡ measured 8 0) × (after ≡ before)
  pub short : Sound words count answer → length before < count → (result ≡ measured 6 0) × (after ≡ before)
  pub done : Sound words count answer → count ≤ length before
      → (result ≡ measured 0 (held_size (expr_at (table_of words count) answer))) × (after ≡ sizes_of (table_of words count) ++ drop count before)
