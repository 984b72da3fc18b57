-- What `printed` promises, of the file's bytes, the lent words and bytes before and after, and what it returns; and the room with which it is never short [9.12, 9.13].
use Rattle.std.specs.Prelude.{ℕ, ◌+◌, ◌*◌, ◌<◌, ◌≡◌, List, ◌++◌, ◌⊎◌, length, drop}
use Rattle.automaton.specs.Refusals.{refusal}
use Rattle.automaton.specs.Checks.{Verdict, holds, fault, verdict}
use Rattle.expressions.specs.Words.{node_width}
use Rattle.listing.specs.Listing.{longest_line, longest_answer}
use Rattle.theory.specs.Stages.{converted}
use Rattle.elimination.specs.Answers.{whole_nodes, written_to}
use Rattle.buffers.specs.Writing.{all_zero}
use Rattle.automaton.specs.declared.Extent.{Extent}
use Rattle.front.specs.Text.{printed_text}

-- the nodes that a file's conversion makes: none where the file is refused
unfoldable pub nodes_made : Verdict → ℕ
nodes_made (holds held) = length (converted held).table
nodes_made (fault number offset) = 0

-- 6: the conversion makes more nodes than fit the lent words, or the text is longer than the lent bytes [9.13]
unfoldable pub TooShort : (file nodes out : List ℕ) → Type 0
TooShort file nodes out = (whole_nodes nodes < nodes_made (verdict file)) ⊎ (length out < length (printed_text file))

-- the lent words afterwards: the table of the conversion, and what stood past it; all that stood there, where the file is refused [9.13, 4.24]
unfoldable pub nodes_left : Verdict → List ℕ → List ℕ
nodes_left (holds held) before = written_to before (converted held).table
nodes_left (fault number offset) before = before

abbrev pub printing : ℕ → ℕ → Extent
printing number size = record { refusal = refusal number; length = size }

-- A file's refusal stands in the text and not in the number that is returned: with a number of 1 to 5 the bytes would have to stay as they were. So 0 says that the text stands in the bytes [9.13].
pub record Prints (file nodes_before nodes_after out_before out_after : List ℕ) (r : Extent) : Type 0 where
  -- [4.22]
  pub short : TooShort file nodes_before out_before → (r ≡ printing 6 0) × ((nodes_after ≡ all_zero nodes_before) × (out_after ≡ out_before))
  -- [9.13, 4.24]
  pub done : (TooShort file nodes_before out_before → ⊥)
      → (r ≡ printing 0 (length (printed_text file)))
      × ((nodes_after ≡ nodes_left (verdict file) nodes_before) × (out_after ≡ printed_text file ++ drop (length (printed_text file)) out_before))

-- ---- the room with which it is never short

-- no conversion makes more nodes [8.30]
abbrev pub most_made : ℕ
most_made = 1393

abbrev pub node_room : ℕ
node_room = node_width * most_made

-- the longest line of a node for each, and the longest last line [9.12]
abbrev pub text_room : ℕ
text_room = longest_line * most_made + longest_answer
