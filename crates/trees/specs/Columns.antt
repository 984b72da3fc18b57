-- The rows as columns of numbers, for the contracts of the private functions. A column has a place for each row that a file may have; past the rows it is 0, so that a place without a row needs nothing and aims at no state.
use Rattle.std.specs.Prelude.{ℕ, ◌^◌, ◌<◌, Bool, true, cond, ◌&&◌, List, map, ◌≡◌, ltb, eqb, length, get_or, set, Option, None, Some}
use Rattle.std.specs.Int.Bits.{bit_and, bit_or, bit_xor}
use Rattle.sets.specs.Members.{has}
use Rattle.ground.specs.Lists.{any_of, any_below}
use Rattle.automaton.specs.declared.Row.{Row}
use Rattle.automaton.specs.Held.{Rule, Held, Valid, most_symbols, most_rows}
use Rattle.trees.specs.declared.columns.Columns.{Columns}

-- ---- the numbers in them

-- a number of the row at a place; 0 past the rows
unfoldable pub cell : (Rule → ℕ) → List Rule → ℕ → ℕ
cell number rules i = get_or (map number rules) i 0

-- a column has such a number of each row
abbrev pub Column : List ℕ → (Rule → ℕ) → List Rule → Type 0
Column column number rules = (i : ℕ) → i < most_rows → get_or column i 0 ≡ cell number rules i

-- the set that is needed at a child place, where so many sources count: of the source there; empty where the place is absent
unfoldable pub need_at : List ℕ → ℕ → ℕ → ℕ
need_at sources arity place = cond (ltb place arity) (2 ^ get_or sources place 0) 0

abbrev pub need : ℕ → Rule → ℕ
need place rule = need_at rule.sources (length rule.sources) place

-- the columns of these rows: their symbols, what they need at each child place, and the set of each target alone; and for each symbol the targets of its rows
pub record Tabled (rules : List Rule) (columns : Columns) : Type 0 where
  pub symbols : Column columns.symbols (λ rule. rule.symbol) rules
  pub firsts : Column columns.firsts (need 0) rules
  pub seconds : Column columns.seconds (need 1) rules
  pub thirds : Column columns.thirds (need 2) rules
  pub targets : Column columns.targets (λ rule. 2 ^ rule.target) rules
  pub leaves : (f q : ℕ) → f < most_symbols → has (get_or columns.leaves f 0) q ≡ any_of (λ rule. eqb rule.symbol f && eqb rule.target q) rules

-- a valid automaton, beside the columns of its rows
pub record Ready (held : Held) (columns : Columns) : Type 0 where
  pub valid : Valid held
  pub tabled : Tabled held.rules columns

-- one row more, as it stands in an automaton's value: its number in each column, at its place; and its target joined to the set of its symbol
unfoldable pub entered : ℕ → Row → ℕ → Columns → Columns
entered i row arity columns =
    record {
      symbols = set columns.symbols i row.symbol;
      firsts = set columns.firsts i (need_at row.sources arity 0);
      seconds = set columns.seconds i (need_at row.sources arity 1);
      thirds = set columns.thirds i (need_at row.sources arity 2);
      targets = set columns.targets i (2 ^ row.target);
      leaves = set columns.leaves row.symbol (bit_or (get_or columns.leaves row.symbol 0) (2 ^ row.target));
    }

-- each column has its places, as its type says
pub record Whole (columns : Columns) : Type 0 where
  pub symbols : length columns.symbols ≡ most_rows
  pub firsts : length columns.firsts ≡ most_rows
  pub seconds : length columns.seconds ≡ most_rows
  pub thirds : length columns.thirds ≡ most_rows
  pub targets : length columns.targets ≡ most_rows
  pub leaves : length columns.leaves ≡ most_symbols

-- ---- what is found in them

-- is each member of the one set in the other?
unfoldable pub within : ℕ → ℕ → Bool
within a b = eqb a (bit_and a b)

-- is it the symbol that is asked for? Where none is, any is
abbrev pub asked : Option ℕ → ℕ → Bool
asked None own = true
asked (Some symbol) own = eqb own symbol

-- what tells a symbol from the one that is asked for, in bits
abbrev pub differs : ℕ → Option ℕ → ℕ
differs own None = 0
differs own (Some symbol) = bit_xor own symbol

-- has row i the symbol that is asked for, and does it find what it needs in these sets?
unfoldable pub fires : Columns → Option ℕ → List ℕ → ℕ → Bool
fires columns symbol sets i =
    asked symbol (get_or columns.symbols i 0)
    && (within (get_or columns.firsts i 0) (get_or sets 0 0)
    && (within (get_or columns.seconds i 0) (get_or sets 1 0) && within (get_or columns.thirds i 0) (get_or sets 2 0)))

-- a set with the targets of the rows that do so, and no other
abbrev pub Scanned : Columns → Option ℕ → (sets : List ℕ) → ℕ → Type 0
Scanned columns symbol sets x = (q : ℕ) → has x q ≡ any_below most_rows (λ i. fires columns symbol sets i && has (get_or columns.targets i 0) q)
