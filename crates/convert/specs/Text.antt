-- What the program has ready to print [9.9 to 9.12].
use Rattle.std.specs.Prelude.{ℕ, ◌≤◌, ◌≡◌, List, length, take}
use Rattle.front.specs.Text.{printed_text}

-- the first so many of the bytes are what is to be printed for the file: whatever the file, the listing or "refused N", for the program has room for both
pub record Printable (file bytes : List ℕ) (count : ℕ) : Type 0 where
  pub exact : take count bytes ≡ printed_text file
  pub within : count ≤ length bytes
