-- A number in decimal, as bytes.
use Rattle.std.specs.Prelude.{ℕ, zero, suc, ◌+◌, ◌/◌, ◌%◌, cond, List, [], ◌∷◌, ◌++◌, ltb}

-- the last digit of a number, as a byte: 48 stands for 0 [2.12]
abbrev pub last_digit : ℕ → ℕ
last_digit n = 48 + n % 10

-- the digits of a number, the last after those of a tenth of it; as many as there are turns, at most [2.12]
unfoldable pub decimal_in : ℕ → ℕ → List ℕ
decimal_in zero n = []
decimal_in (suc turns) n =
    let before = decimal_in turns (n / 10) in
    cond (ltb n 10) (last_digit n ∷ []) (before ++ (last_digit n ∷ []))

-- all its digits: one turn for each number up to it is enough [2.12]
unfoldable pub decimal : ℕ → List ℕ
decimal n = decimal_in (suc n) n
