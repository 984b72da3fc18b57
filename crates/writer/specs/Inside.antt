-- What the private parts of the writer promise one another. Nothing here needs to be believed: the public promise cites none of it.
use Rattle.std.specs.Prelude.{ℕ, ◌≤◌, ◌<◌, ◌≡◌, List, ◌++◌, map, ◌*◌, length, drop, Option, MatchOption}
use Rattle.ground.specs.Lists.{All}
use Rattle.automaton.specs.declared.Row.{Row}
use Rattle.automaton.specs.declared.Automaton.{Automaton}
use Rattle.automaton.specs.Held.{ValidRule, Valid, most_arity}
use Rattle.automaton.specs.File.{row_record, each, file_of}
use Rattle.automaton.specs.Answers.{rule_held, held_by}

-- a row that a file can hold, and the length of its record
pub record RowFits (states : ℕ) (known : List ℕ) (row : Row) (size : ℕ) : Type 0 where
  pub valid : ValidRule states known (rule_held known row)
  pub sized : size ≡ length (row_record (rule_held known row))
  pub small : size ≤ 9

abbrev pub RowSized : ℕ → List ℕ → Row → Option ℕ → Type 0
RowSized states known row r = MatchOption r (ValidRule states known (rule_held known row) → ⊥) (RowFits states known row)

-- rows that a file can hold, and the length of their records
pub record RowsFit (states : ℕ) (known : List ℕ) (rows : List Row) (size : ℕ) : Type 0 where
  pub valid : All (ValidRule states known) (map (rule_held known) rows)
  pub sized : size ≡ length (each row_record (map (rule_held known) rows))
  pub small : size ≤ 9 * length rows

abbrev pub RowsSized : ℕ → List ℕ → List Row → Option ℕ → Type 0
RowsSized states known rows r = MatchOption r (All (ValidRule states known) (map (rule_held known) rows) → ⊥) (RowsFit states known rows)

-- a value that a file can hold, and the length of its file
pub record FileFits (value : Automaton) (size : ℕ) : Type 0 where
  pub valid : Valid (held_by value)
  pub sized : size ≡ length (file_of (held_by value))

abbrev pub FileSized : Automaton → Option ℕ → Type 0
FileSized value r = MatchOption r (Valid (held_by value) → ⊥) (FileFits value)

-- these bytes stand at the front then, all else is unchanged, and the answer is their number
pub record Put (bytes before after : List ℕ) (count : ℕ) : Type 0 where
  pub stored : after ≡ bytes ++ drop (length bytes) before
  pub counted : count ≡ length bytes

-- a row that fits, and room for its record
pub record RowThere (out known : List ℕ) (row : Row) : Type 0 where
  pub small : All (λ a. a ≤ most_arity) known
  pub less : row.symbol < length known
  pub room : length (row_record (rule_held known row)) ≤ length out

-- rows that fit, and room for their records
pub record RowsThere (out known : List ℕ) (rows : List Row) : Type 0 where
  pub small : All (λ a. a ≤ most_arity) known
  pub valid : (states : ℕ) × All (ValidRule states known) (map (rule_held known) rows)
  pub room : length (each row_record (map (rule_held known) rows)) ≤ length out
