-- An outside look at the definitions: small files, worked by hand from the text of section 3, and what the definitions find them to be. A definition that is wrong but is used wrongly everywhere would be seen here.
use Rattle.std.specs.Prelude.{ℕ, zero, suc, ◌≤◌, ◌≡◌, List, [], ◌∷◌, ◌++◌, length, replicate}
use Rattle.automaton.specs.declared.Row.{Row}
use Rattle.automaton.specs.declared.Automaton.{Automaton}
use Rattle.automaton.specs.declared.Extent.{Extent}
use Rattle.automaton.specs.Held.{Rule, Held, Valid}
use Rattle.automaton.specs.File.{file_of}
use Rattle.automaton.specs.Checks.{verdict, holds, fault}
use Rattle.automaton.specs.Refusals.{refusal, no_refusal}
use Rattle.automaton.specs.Answers.{read_answer, held_by}
use Rattle.writer.specs.Answers.{writing, Written}
use Rattle.claims.specs.DraftFiles.{file_p}

-- the records of the cases: a head of 2 states of which 1 is final; a symbol; the end [3.2]
abbrev pub head_two : List ℕ
head_two = 3 ∷ 0 ∷ 1 ∷ 0 ∷ 2 ∷ 2 ∷ 0 ∷ []

abbrev pub arity : ℕ → List ℕ
arity a = 1 ∷ 0 ∷ 2 ∷ 0 ∷ a ∷ []

abbrev pub ended : List ℕ
ended = 0 ∷ 0 ∷ 9 ∷ 0 ∷ []

-- a head and two symbols, 17 bytes: the next record's offset is 17
unfoldable pub opened : List ℕ
opened = head_two ++ arity 0 ++ arity 2

-- a row: symbol 0 to state 0, 6 bytes [3.2]
abbrev pub leaf_row : List ℕ
leaf_row = 2 ∷ 0 ∷ 3 ∷ 0 ∷ 0 ∷ 0 ∷ []

-- the same bytes so many times
unfoldable pub times : ℕ → List ℕ → List ℕ
times zero bytes = []
times (suc n) bytes = bytes ++ times n bytes

-- a row, and what P holds [10.2]
abbrev pub rule : ℕ → ℕ → List ℕ → Rule
rule symbol target sources = record { symbol = symbol; target = target; sources = sources }

abbrev pub held_p : Held
held_p = record { states = 2; finals = 2; arities = 0 ∷ 2 ∷ []; rules = rule 0 0 [] ∷ rule 1 1 (0 ∷ 0 ∷ []) ∷ rule 1 1 (1 ∷ 0 ∷ []) ∷ [] }

-- a row as it stands in a value [3.18]
abbrev pub row : ℕ → ℕ → List ℕ → Row
row symbol target sources = record { symbol = symbol; target = target; sources = sources }

-- P's value, with anything in its unused places [3.19]
unfoldable pub loose_p : List ℕ → List Row → Automaton
loose_p others rows =
    record {
      states = 2;
      finals = record { 0 = 2 };
      symbols = 2;
      arities = 0 ∷ 2 ∷ others;
      count = 3;
      rows = row 0 0 (9 ∷ 9 ∷ 9 ∷ []) ∷ row 1 1 (0 ∷ 0 ∷ 9 ∷ []) ∷ row 1 1 (1 ∷ 0 ∷ 9 ∷ []) ∷ rows;
    }

-- as much as a file may hold: 1 state, 32 symbols of arity 3, 64 rows [3.5]
unfoldable pub longest : Held
longest = record { states = 1; finals = 1; arities = replicate 32 3; rules = replicate 64 (rule 0 0 (0 ∷ 0 ∷ 0 ∷ [])) }

pub record FileCases : Type 0 where
  -- ---- length and kind are not all there [3.8]
  pub nothing_there : verdict [] ≡ fault 1 0
  pub three_bytes : verdict (3 ∷ 0 ∷ 1 ∷ []) ≡ fault 1 0
  pub no_end : verdict opened ≡ fault 1 17
  -- ---- a kind that may not stand here [3.9]
  pub symbol_first : verdict (arity 0) ≡ fault 2 0
  pub row_after_head : verdict (head_two ++ leaf_row) ≡ fault 2 7
  pub end_after_head : verdict (head_two ++ ended) ≡ fault 2 7
  pub head_again : verdict (head_two ++ arity 0 ++ head_two) ≡ fault 2 12
  pub symbol_after_row : verdict (opened ++ leaf_row ++ arity 0) ≡ fault 2 23
  pub kind_unknown : verdict (opened ++ (0 ∷ 0 ∷ 4 ∷ 0 ∷ [])) ≡ fault 2 17
  -- the second byte of a kind counts [3.9]
  pub kind_257 : verdict (3 ∷ 0 ∷ 1 ∷ 1 ∷ 2 ∷ 2 ∷ 0 ∷ []) ≡ fault 2 0
  -- the kind is looked at before the length and before what is missing [3.11]
  pub kind_before_length : verdict (8 ∷ 0 ∷ 7 ∷ 0 ∷ []) ≡ fault 2 0
  -- ---- a length that the kind has not [3.10]
  pub head_long : verdict (4 ∷ 0 ∷ 1 ∷ 0 ∷ 2 ∷ 2 ∷ 0 ∷ 0 ∷ []) ≡ fault 3 0
  pub symbol_long : verdict (head_two ++ (2 ∷ 0 ∷ 2 ∷ 0 ∷ 0 ∷ 0 ∷ [])) ≡ fault 3 7
  pub row_of_1 : verdict (opened ++ (1 ∷ 0 ∷ 3 ∷ 0 ∷ 0 ∷ [])) ≡ fault 3 17
  pub row_of_6 : verdict (opened ++ (6 ∷ 0 ∷ 3 ∷ 0 ∷ 0 ∷ 0 ∷ 0 ∷ 0 ∷ 0 ∷ 0 ∷ [])) ≡ fault 3 17
  pub end_of_1 : verdict (opened ++ (1 ∷ 0 ∷ 9 ∷ 0 ∷ 0 ∷ [])) ≡ fault 3 17
  -- the second byte of a length counts [3.1]
  pub head_of_259 : verdict (3 ∷ 1 ∷ 1 ∷ 0 ∷ 2 ∷ 2 ∷ 0 ∷ []) ≡ fault 3 0
  -- a wrong length goes before a payload that is not there [3.11]
  pub length_before_payload : verdict (4 ∷ 0 ∷ 1 ∷ 0 ∷ []) ≡ fault 3 0
  -- ---- the payload breaks off [3.11]
  pub head_cut : verdict (3 ∷ 0 ∷ 1 ∷ 0 ∷ 2 ∷ 2 ∷ []) ≡ fault 1 0
  -- also where the length would not suit the symbol [3.11]
  pub row_cut : verdict (opened ++ (5 ∷ 0 ∷ 3 ∷ 0 ∷ 0 ∷ 0 ∷ [])) ≡ fault 1 17
  -- ---- a number of states, or a final state past it [3.13]
  pub no_states : verdict (3 ∷ 0 ∷ 1 ∷ 0 ∷ 0 ∷ 0 ∷ 0 ∷ []) ≡ fault 4 0
  pub states_17 : verdict (3 ∷ 0 ∷ 1 ∷ 0 ∷ 17 ∷ 0 ∷ 0 ∷ []) ≡ fault 4 0
  pub final_past : verdict (3 ∷ 0 ∷ 1 ∷ 0 ∷ 2 ∷ 4 ∷ 0 ∷ []) ≡ fault 4 0
  pub final_8_of_8 : verdict (3 ∷ 0 ∷ 1 ∷ 0 ∷ 8 ∷ 0 ∷ 1 ∷ []) ≡ fault 4 0
  pub states_16 : verdict ((3 ∷ 0 ∷ 1 ∷ 0 ∷ 16 ∷ 255 ∷ 255 ∷ []) ++ arity 0 ++ ended)
      ≡ holds (record { states = 16; finals = 65535; arities = 0 ∷ []; rules = [] })
  -- ---- an arity, and one symbol too many [3.12, 3.14]
  pub arity_4 : verdict (head_two ++ arity 4) ≡ fault 4 7
  pub symbols_32 : verdict (head_two ++ times 32 (arity 3) ++ ended) ≡ holds (record { states = 2; finals = 2; arities = replicate 32 3; rules = [] })
  pub symbol_33 : verdict (head_two ++ times 33 (arity 3) ++ ended) ≡ fault 4 167
  -- ---- one row too many [3.12]
  pub rows_64 : verdict (opened ++ times 64 leaf_row ++ ended)
      ≡ holds (record { states = 2; finals = 2; arities = 0 ∷ 2 ∷ []; rules = replicate 64 (rule 0 0 []) })
  pub row_65 : verdict (opened ++ times 64 leaf_row ++ leaf_row ++ ended) ≡ fault 4 401
  -- which goes before a length that does not suit the symbol, and after a wrong length and a payload that breaks off [3.12]
  pub row_65_unsuited : verdict (opened ++ times 64 leaf_row ++ (3 ∷ 0 ∷ 3 ∷ 0 ∷ 0 ∷ 0 ∷ 0 ∷ [])) ≡ fault 4 401
  pub row_65_of_6 : verdict (opened ++ times 64 leaf_row ++ (6 ∷ 0 ∷ 3 ∷ 0 ∷ 0 ∷ 0 ∷ 0 ∷ 0 ∷ 0 ∷ 0 ∷ [])) ≡ fault 3 401
  pub row_65_cut : verdict (opened ++ times 64 leaf_row ++ (2 ∷ 0 ∷ 3 ∷ 0 ∷ 0 ∷ [])) ≡ fault 1 401
  -- ---- the values of a row, in their order [3.15]
  pub symbol_unknown : verdict (opened ++ (2 ∷ 0 ∷ 3 ∷ 0 ∷ 2 ∷ 0 ∷ [])) ≡ fault 4 17
  pub too_many_sources : verdict (opened ++ (3 ∷ 0 ∷ 3 ∷ 0 ∷ 0 ∷ 0 ∷ 0 ∷ [])) ≡ fault 3 17
  pub too_few_sources : verdict (opened ++ (3 ∷ 0 ∷ 3 ∷ 0 ∷ 1 ∷ 0 ∷ 0 ∷ [])) ≡ fault 3 17
  pub length_before_target : verdict (opened ++ (3 ∷ 0 ∷ 3 ∷ 0 ∷ 0 ∷ 9 ∷ 0 ∷ [])) ≡ fault 3 17
  pub target_past : verdict (opened ++ (2 ∷ 0 ∷ 3 ∷ 0 ∷ 0 ∷ 2 ∷ [])) ≡ fault 4 17
  pub source_past : verdict (opened ++ (4 ∷ 0 ∷ 3 ∷ 0 ∷ 1 ∷ 0 ∷ 0 ∷ 2 ∷ [])) ≡ fault 4 17
  -- ---- a byte past the end [3.16]
  pub byte_after : verdict (opened ++ ended ++ (0 ∷ [])) ≡ fault 5 21
  -- there may be no rows [2.4]
  pub no_rows : verdict (opened ++ ended) ≡ holds (record { states = 2; finals = 2; arities = 0 ∷ 2 ∷ []; rules = [] })
  -- a row that stands there twice is two rows [3.6]
  pub equal_rows : verdict (opened ++ leaf_row ++ leaf_row ++ ended)
      ≡ holds (record { states = 2; finals = 2; arities = 0 ∷ 2 ∷ []; rules = rule 0 0 [] ∷ rule 0 0 [] ∷ [] })
  -- ---- P, read and written [10.2]
  pub p_holds : verdict file_p ≡ holds held_p
  pub p_file : file_of held_p ≡ file_p
  -- how long a file may be [3.5]
  pub at_most_747 : (held : Held) → Valid held → length (file_of held) ≤ 747
  pub longest_valid : Valid longest
  pub longest_747 : length (file_of longest) ≡ 747
  -- ---- the reader leaves 0 in unused places, and the writer does not look at them [3.19]
  pub p_read : (read_answer file_p).automaton
      ≡ record {
        states = 2;
        finals = record { 0 = 2 };
        symbols = 2;
        arities = 0 ∷ 2 ∷ replicate 30 0;
        count = 3;
        rows = row 0 0 (0 ∷ 0 ∷ 0 ∷ []) ∷ row 1 1 (0 ∷ 0 ∷ 0 ∷ []) ∷ row 1 1 (1 ∷ 0 ∷ 0 ∷ []) ∷ replicate 61 (row 0 0 (0 ∷ 0 ∷ 0 ∷ []));
      }
  pub p_loose : (others : List ℕ) (rows : List Row) → held_by (loose_p others rows) ≡ held_p
  pub p_written : (others : List ℕ) (rows : List Row) (after : List ℕ) (w : Extent) → Written (loose_p others rows) (replicate 44 255) after w
      → (w ≡ writing no_refusal 43) × (after ≡ file_p ++ (255 ∷ []))
  pub p_unwritten : (others : List ℕ) (rows : List Row) (after : List ℕ) (w : Extent) → Written (loose_p others rows) (replicate 42 255) after w
      → (w ≡ writing (refusal 6) 0) × (after ≡ replicate 42 255)
