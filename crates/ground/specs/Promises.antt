-- What the functions of the ground promise.
use Rattle.std.specs.Prelude.{ℕ, ◌<◌, ◌≡◌}

-- `index`: the byte, and that it is one, which callers add to other numbers
abbrev pub IsIndex : ℕ → ℕ → Type 0
IsIndex byte r = (r ≡ byte) × (r < 256)

-- `Wide::wide`, of a byte and of a number of sixteen bits: the same number, in a wider type
abbrev pub IsWidened : ℕ → ℕ → Type 0
IsWidened number r = r ≡ number
