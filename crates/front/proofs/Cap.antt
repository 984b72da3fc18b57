-- The first 4,096 bytes of a file decide what is printed for it.
use native.Mathlib.Omega.{arith}
use mathlib.Core.Path.{◌≡◌, ap}
use mathlib.Core.List.{List}
use Prim.Native.Nat.{ℕ}
use lib.ListN.{take}
use Rattle.automaton.proofs.Files.Cap.{verdict-cap}
use Rattle.front.specs.Text.{most_read, text_of, printed_text}

-- what is printed for the bytes that are read is what is printed for all
pub text-cap : (file : List ℕ) → printed_text (take most_read file) ≡ printed_text file
unfolding printed_text
text-cap file = ap text_of (verdict-cap file most_read (omega arith))
