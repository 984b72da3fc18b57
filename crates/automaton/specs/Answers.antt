-- The value of an automaton, what it says, and what `read` returns for a file's bytes [3.17 to 3.19].
use Rattle.std.specs.Prelude.{ℕ, List, map, length, get_or, replicate, Result, Ok, Err}
use Rattle.automaton.specs.declared.Row.{Row}
use Rattle.automaton.specs.declared.Automaton.{Automaton}
use Rattle.automaton.specs.declared.Reading.{Reading}
use Rattle.automaton.specs.declared.Refused.{Refused}
use Rattle.automaton.specs.Held.{Rule, Held, most_symbols, most_arity, most_rows}
use Rattle.automaton.specs.Refusals.{refusal, no_refusal, number_of, fault_refusal}
use Rattle.automaton.specs.Checks.{Verdict, holds, fault, verdict}
use Rattle.ground.specs.Lists.{filled, firsts}

-- ---- the reader: unused places are 0 [3.19]

unfoldable pub placed_row : Rule → Row
placed_row rule = record { symbol = rule.symbol; target = rule.target; sources = filled most_arity 0 rule.sources }

unfoldable pub unused_row : Row
unused_row = record { symbol = 0; target = 0; sources = replicate most_arity 0 }

-- the value of what a file holds [3.18]
unfoldable pub placed : Held → Automaton
placed held =
    record {
      states = held.states;
      finals = record { 0 = held.finals };
      symbols = length held.arities;
      arities = filled most_symbols 0 held.arities;
      count = length held.rules;
      rows = filled most_rows unused_row (map placed_row held.rules);
    }

-- every number 0 [3.17, 4.20]
unfoldable pub no_automaton : Automaton
no_automaton =
    record {
      states = 0;
      finals = record { 0 = 0 };
      symbols = 0;
      arities = replicate most_symbols 0;
      count = 0;
      rows = replicate most_rows unused_row;
    }

unfoldable pub reading_of : Verdict → Reading
reading_of (holds held) = record { refusal = no_refusal; automaton = placed held }
reading_of (fault number offset) = record { refusal = fault_refusal number offset; automaton = no_automaton }

-- what `read` returns [3.17]
unfoldable pub read_answer : List ℕ → Reading
read_answer file = reading_of (verdict file)

-- the numbers and values of a result of `read` [3.17, 12.13]
abbrev pub read_of : Result Automaton Refused → Reading
read_of (Ok value) = record { refusal = no_refusal; automaton = value }
read_of (Err reason) = record { refusal = refusal (number_of reason); automaton = no_automaton }

-- ---- what a value says: unused places are not looked at [3.19]

unfoldable pub rule_held : List ℕ → Row → Rule
rule_held arities row =
    record { symbol = row.symbol; target = row.target; sources = firsts (get_or arities row.symbol 0) 0 row.sources }

-- what a value says, for a file to hold
unfoldable pub held_by : Automaton → Held
held_by value =
    let arities = firsts value.symbols 0 value.arities in
    record {
      states = value.states;
      finals = value.finals.0;
      arities = arities;
      rules = map (rule_held arities) (firsts value.count unused_row value.rows);
    }
