-- What an automaton file holds, and the limits that it keeps [2.1 to 2.4].
use Rattle.std.specs.Prelude.{ℕ, ◌^◌, ◌≤◌, ◌<◌, ◌≡◌, List, length, get_or}
use Rattle.sets.specs.Members.{state_width}
use Rattle.ground.specs.Lists.{All}

-- the limits, each named here and nowhere else; the number of states is at most the width of their sets [2.1, 2.3, 2.4]
abbrev pub most_symbols : ℕ
most_symbols = 32

abbrev pub most_arity : ℕ
most_arity = 3

abbrev pub most_rows : ℕ
most_rows = 64

-- a row f(q1..qn) to q, its sources from the left [0.4]
pub record Rule : Type 0 where
  pub symbol : ℕ
  pub target : ℕ
  pub sources : List ℕ

-- the number of states; the set of final states; the arity of symbol 0, 1, ..; the rows in the order of their records [3.2, 3.3]
pub record Held : Type 0 where
  pub states : ℕ
  pub finals : ℕ
  pub arities : List ℕ
  pub rules : List Rule

-- a row of an automaton with so many states and these arities: a declared symbol, as many sources as its arity, and no state that is not there [3.15]
pub record ValidRule (states : ℕ) (arities : List ℕ) (rule : Rule) : Type 0 where
  pub known : rule.symbol < length arities
  pub suited : length rule.sources ≡ get_or arities rule.symbol 0
  pub aimed : rule.target < states
  pub sourced : All (λ q. q < states) rule.sources

-- what a file can hold [2.1 to 2.4, 3.13]
pub record Valid (held : Held) : Type 0 where
  pub some_state : 1 ≤ held.states
  pub few_states : held.states ≤ state_width
  pub finals_within : held.finals < 2 ^ held.states
  pub some_symbol : 1 ≤ length held.arities
  pub few_symbols : length held.arities ≤ most_symbols
  pub small_arities : All (λ a. a ≤ most_arity) held.arities
  pub few_rules : length held.rules ≤ most_rows
  pub valid_rules : All (ValidRule held.states held.arities) held.rules
