-- What the program prints for a file, byte for byte [9.11].
use Rattle.std.specs.Prelude.{ℕ, List, [], ◌∷◌}
use Rattle.automaton.specs.Held.{Held}
use Rattle.automaton.specs.Checks.{Verdict, holds, fault, verdict}
use Rattle.buffers.specs.Decimal.{decimal}
use Rattle.listing.specs.Listing.{line, plain_label, listing}
use Rattle.theory.specs.Stages.{converted}

-- the line of a refusal: the word, r e f u s e d, a blank and the number, and a newline as after every line [9.11, 9.7]
unfoldable pub refused_line : ℕ → List ℕ
refused_line number = line (114 ∷ 101 ∷ 102 ∷ 117 ∷ 115 ∷ 101 ∷ 100 ∷ []) (decimal number ∷ [])

-- the listing of the table that the conversion makes, with its answer [9.11, 8.26]
unfoldable pub converted_listing : Held → List ℕ
converted_listing held = listing plain_label (converted held).table (converted held).node

unfoldable pub text_of : Verdict → List ℕ
text_of (holds held) = converted_listing held
text_of (fault number offset) = refused_line number

-- what is printed for a file's bytes [9.11]
unfoldable pub printed_text : List ℕ → List ℕ
printed_text file = text_of (verdict file)

-- the program looks at no more bytes of its input than these [9.10]
abbrev pub most_read : ℕ
most_read = 4096
