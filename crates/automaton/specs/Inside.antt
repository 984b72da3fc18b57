-- What the private parts of the reader promise one another. Nothing here needs to be believed: the public promises cite none of it.
use Rattle.std.specs.Prelude.{ℕ, suc, ◌+◌, ◌≤◌, true, ◌≡◌, List, [], length, drop, Result, MatchResult}
use Rattle.sets.specs.declared.StateSet.{StateSet}
use Rattle.automaton.specs.Held.{Held, most_symbols, most_rows}
use Rattle.automaton.specs.Checks.{Verdict, SoFar, nothing, Found, wrong, more, number_at, kind_allowed, length_allowed, values, record_found, verdict_from}
use Rattle.automaton.specs.Refusals.{number_of}
use Rattle.automaton.specs.Answers.{placed, reading_of}
use Rattle.automaton.specs.declared.Refused.{Refused}
use Rattle.automaton.specs.declared.Automaton.{Automaton}
use Rattle.automaton.specs.declared.Reading.{Reading}
use Rattle.automaton.specs.declared.reader.Kind.{Kind}
use Rattle.automaton.specs.declared.reader.Kind.TheVariants.{Head, Symbol, Row, End}

-- what the file is found to be from an offset on
unfoldable pub verdict_at : List ℕ → ℕ → SoFar → Verdict
verdict_at file offset so_far = verdict_from (suc (length (drop offset file))) offset so_far (drop offset file)

-- what `read` returns of a file whose records so far gave this, and whose bytes from there on are these
unfoldable pub rest_answer : SoFar → List ℕ → Reading
rest_answer so_far bytes = reading_of (verdict_from (suc (length bytes)) 0 so_far bytes)

-- ---- one record

-- the number of each kind [3.2]
abbrev pub code_of : Kind → ℕ
code_of Head = 1
code_of Symbol = 2
code_of Row = 3
code_of End = 9

-- a number that no kind has
pub record NoKind (number : ℕ) : Type 0 where
  pub no_head : number ≡ 1 → ⊥
  pub no_symbol : number ≡ 2 → ⊥
  pub no_row : number ≡ 3 → ⊥
  pub no_end : number ≡ 9 → ⊥

-- the kind of a number, or refused as the number of none
abbrev pub IsKind : ℕ → Result Kind Refused → Type 0
IsKind number r = MatchResult r (λ kind. number ≡ code_of kind) (λ reason. (number_of reason ≡ 2) × NoKind number)

-- the first record of these bytes: the checks before its values have passed, and it is found to be what its values are
pub record RecordRead (so_far : SoFar) (bytes : List ℕ) (kind : Kind) (payload rest : List ℕ) : Type 0 where
  pub allowed : kind_allowed so_far (code_of kind) ≡ true
  pub sized : length_allowed (code_of kind) (length payload) ≡ true
  pub found : record_found so_far bytes ≡ values so_far (code_of kind) payload
  pub size : number_at bytes 0 ≡ length payload
  pub left : rest ≡ drop (4 + length payload) bytes
  pub shorter : length rest + (4 + length payload) ≡ length bytes

-- the number of states and the final ones, of the first record
pub record HeadRead (file : List ℕ) (states : ℕ) (finals : StateSet) (rest : List ℕ) : Type 0 where
  pub found : record_found nothing file ≡ more (record { states = states; finals = finals.0; arities = []; rules = [] })
  pub left : rest ≡ drop (4 + number_at file 0) file

-- ---- the value as it grows

-- the value says this
pub record Says (held : Held) (value : Automaton) : Type 0 where
  pub is : value ≡ placed held
  pub few_symbols : length held.arities ≤ most_symbols
  pub few_rules : length held.rules ≤ most_rows

-- what a record's values are found to be: the value says it then, or the result has its number
abbrev pub Added : Found → Automaton → Result (Unit {0}) Refused → Type 0
Added found value r = MatchResult r (λ _. (held : Held) × (found ≡ more held) × Says held value) (λ reason. found ≡ wrong (number_of reason))
