-- What `digits` and `zero` promise; the functions that put bytes promise `Puts`.
use Rattle.std.specs.Prelude.{ℕ, ◌≡◌, List, length}
use Rattle.buffers.specs.Decimal.{decimal}
use Rattle.buffers.specs.Writing.{all_zero}

-- `digits`: how many digits the number has [2.12]
abbrev pub CountsDigits : ℕ → ℕ → Type 0
CountsDigits n r = r ≡ length (decimal n)

-- `zero`: every word is 0 afterwards [7.21]
abbrev pub Clears : (before after : List ℕ) → Type 0
Clears before after = after ≡ all_zero before
