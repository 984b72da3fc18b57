-- The files of the worked drafts, byte by byte, a record to a line. P's bytes are copied from 10.2; the others are put into the file format by hand, with states and symbols as 10.1 says.
use Rattle.std.specs.Prelude.{ℕ, List, [], ◌∷◌, ◌++◌}

-- P [10.2]
unfoldable pub file_p : List ℕ
file_p =
    (3 ∷ 0 ∷ 1 ∷ 0 ∷ 2 ∷ 2 ∷ 0 ∷ [])
    ++ (1 ∷ 0 ∷ 2 ∷ 0 ∷ 0 ∷ [])
    ++ (1 ∷ 0 ∷ 2 ∷ 0 ∷ 2 ∷ [])
    ++ (2 ∷ 0 ∷ 3 ∷ 0 ∷ 0 ∷ 0 ∷ [])
    ++ (4 ∷ 0 ∷ 3 ∷ 0 ∷ 1 ∷ 1 ∷ 0 ∷ 0 ∷ [])
    ++ (4 ∷ 0 ∷ 3 ∷ 0 ∷ 1 ∷ 1 ∷ 1 ∷ 0 ∷ [])
    ++ (0 ∷ 0 ∷ 9 ∷ 0 ∷ [])

-- the four pairs: a is symbol 0, b is 1, g is 2 [10.9]
unfoldable pub file_pairs : List ℕ
file_pairs =
    (3 ∷ 0 ∷ 1 ∷ 0 ∷ 2 ∷ 2 ∷ 0 ∷ [])
    ++ (1 ∷ 0 ∷ 2 ∷ 0 ∷ 0 ∷ [])
    ++ (1 ∷ 0 ∷ 2 ∷ 0 ∷ 0 ∷ [])
    ++ (1 ∷ 0 ∷ 2 ∷ 0 ∷ 2 ∷ [])
    ++ (2 ∷ 0 ∷ 3 ∷ 0 ∷ 0 ∷ 0 ∷ [])
    ++ (2 ∷ 0 ∷ 3 ∷ 0 ∷ 1 ∷ 0 ∷ [])
    ++ (4 ∷ 0 ∷ 3 ∷ 0 ∷ 2 ∷ 1 ∷ 0 ∷ 0 ∷ [])
    ++ (0 ∷ 0 ∷ 9 ∷ 0 ∷ [])

-- a is symbol 0, g is 1 [10.10]
unfoldable pub file_nested : List ℕ
file_nested =
    (3 ∷ 0 ∷ 1 ∷ 0 ∷ 1 ∷ 1 ∷ 0 ∷ [])
    ++ (1 ∷ 0 ∷ 2 ∷ 0 ∷ 0 ∷ [])
    ++ (1 ∷ 0 ∷ 2 ∷ 0 ∷ 2 ∷ [])
    ++ (2 ∷ 0 ∷ 3 ∷ 0 ∷ 0 ∷ 0 ∷ [])
    ++ (4 ∷ 0 ∷ 3 ∷ 0 ∷ 1 ∷ 0 ∷ 0 ∷ 0 ∷ [])
    ++ (0 ∷ 0 ∷ 9 ∷ 0 ∷ [])

-- h is symbol 0, and nothing begins [10.11]
unfoldable pub file_endless : List ℕ
file_endless =
    (3 ∷ 0 ∷ 1 ∷ 0 ∷ 1 ∷ 1 ∷ 0 ∷ [])
    ++ (1 ∷ 0 ∷ 2 ∷ 0 ∷ 1 ∷ [])
    ++ (3 ∷ 0 ∷ 3 ∷ 0 ∷ 0 ∷ 0 ∷ 0 ∷ [])
    ++ (0 ∷ 0 ∷ 9 ∷ 0 ∷ [])

-- no rows [10.12]
unfoldable pub file_rowless : List ℕ
file_rowless =
    (3 ∷ 0 ∷ 1 ∷ 0 ∷ 1 ∷ 1 ∷ 0 ∷ [])
    ++ (1 ∷ 0 ∷ 2 ∷ 0 ∷ 0 ∷ [])
    ++ (0 ∷ 0 ∷ 9 ∷ 0 ∷ [])

-- no final state: a is symbol 0 [10.13]
unfoldable pub file_finalless : List ℕ
file_finalless =
    (3 ∷ 0 ∷ 1 ∷ 0 ∷ 1 ∷ 0 ∷ 0 ∷ [])
    ++ (1 ∷ 0 ∷ 2 ∷ 0 ∷ 0 ∷ [])
    ++ (2 ∷ 0 ∷ 3 ∷ 0 ∷ 0 ∷ 0 ∷ [])
    ++ (0 ∷ 0 ∷ 9 ∷ 0 ∷ [])

-- state 1 is reached by nothing: a is symbol 0, h is 1, g is 2 [10.14]
unfoldable pub file_unused : List ℕ
file_unused =
    (3 ∷ 0 ∷ 1 ∷ 0 ∷ 3 ∷ 4 ∷ 0 ∷ [])
    ++ (1 ∷ 0 ∷ 2 ∷ 0 ∷ 0 ∷ [])
    ++ (1 ∷ 0 ∷ 2 ∷ 0 ∷ 1 ∷ [])
    ++ (1 ∷ 0 ∷ 2 ∷ 0 ∷ 1 ∷ [])
    ++ (2 ∷ 0 ∷ 3 ∷ 0 ∷ 0 ∷ 0 ∷ [])
    ++ (3 ∷ 0 ∷ 3 ∷ 0 ∷ 1 ∷ 0 ∷ 1 ∷ [])
    ++ (3 ∷ 0 ∷ 3 ∷ 0 ∷ 2 ∷ 2 ∷ 0 ∷ [])
    ++ (0 ∷ 0 ∷ 9 ∷ 0 ∷ [])

-- two looping and two incoming rows: a is symbol 0, b is 1, g is 2, h is 3 [10.15]
unfoldable pub file_order : List ℕ
file_order =
    (3 ∷ 0 ∷ 1 ∷ 0 ∷ 1 ∷ 1 ∷ 0 ∷ [])
    ++ (1 ∷ 0 ∷ 2 ∷ 0 ∷ 0 ∷ [])
    ++ (1 ∷ 0 ∷ 2 ∷ 0 ∷ 0 ∷ [])
    ++ (1 ∷ 0 ∷ 2 ∷ 0 ∷ 1 ∷ [])
    ++ (1 ∷ 0 ∷ 2 ∷ 0 ∷ 1 ∷ [])
    ++ (2 ∷ 0 ∷ 3 ∷ 0 ∷ 0 ∷ 0 ∷ [])
    ++ (2 ∷ 0 ∷ 3 ∷ 0 ∷ 1 ∷ 0 ∷ [])
    ++ (3 ∷ 0 ∷ 3 ∷ 0 ∷ 2 ∷ 0 ∷ 0 ∷ [])
    ++ (3 ∷ 0 ∷ 3 ∷ 0 ∷ 3 ∷ 0 ∷ 0 ∷ [])
    ++ (0 ∷ 0 ∷ 9 ∷ 0 ∷ [])

-- three of each: a is symbol 0, b is 1, c is 2, g is 3, h is 4, k is 5 [10.16]
unfoldable pub file_grouping : List ℕ
file_grouping =
    (3 ∷ 0 ∷ 1 ∷ 0 ∷ 1 ∷ 1 ∷ 0 ∷ [])
    ++ (1 ∷ 0 ∷ 2 ∷ 0 ∷ 0 ∷ [])
    ++ (1 ∷ 0 ∷ 2 ∷ 0 ∷ 0 ∷ [])
    ++ (1 ∷ 0 ∷ 2 ∷ 0 ∷ 0 ∷ [])
    ++ (1 ∷ 0 ∷ 2 ∷ 0 ∷ 1 ∷ [])
    ++ (1 ∷ 0 ∷ 2 ∷ 0 ∷ 1 ∷ [])
    ++ (1 ∷ 0 ∷ 2 ∷ 0 ∷ 1 ∷ [])
    ++ (2 ∷ 0 ∷ 3 ∷ 0 ∷ 0 ∷ 0 ∷ [])
    ++ (2 ∷ 0 ∷ 3 ∷ 0 ∷ 1 ∷ 0 ∷ [])
    ++ (2 ∷ 0 ∷ 3 ∷ 0 ∷ 2 ∷ 0 ∷ [])
    ++ (3 ∷ 0 ∷ 3 ∷ 0 ∷ 3 ∷ 0 ∷ 0 ∷ [])
    ++ (3 ∷ 0 ∷ 3 ∷ 0 ∷ 4 ∷ 0 ∷ 0 ∷ [])
    ++ (3 ∷ 0 ∷ 3 ∷ 0 ∷ 5 ∷ 0 ∷ 0 ∷ [])
    ++ (0 ∷ 0 ∷ 9 ∷ 0 ∷ [])

-- no draft of section 10: P with its two symbols exchanged, so that g is symbol 0 and a is 1
unfoldable pub file_exchanged : List ℕ
file_exchanged =
    (3 ∷ 0 ∷ 1 ∷ 0 ∷ 2 ∷ 2 ∷ 0 ∷ [])
    ++ (1 ∷ 0 ∷ 2 ∷ 0 ∷ 2 ∷ [])
    ++ (1 ∷ 0 ∷ 2 ∷ 0 ∷ 0 ∷ [])
    ++ (2 ∷ 0 ∷ 3 ∷ 0 ∷ 1 ∷ 0 ∷ [])
    ++ (4 ∷ 0 ∷ 3 ∷ 0 ∷ 0 ∷ 1 ∷ 0 ∷ 0 ∷ [])
    ++ (4 ∷ 0 ∷ 3 ∷ 0 ∷ 0 ∷ 1 ∷ 1 ∷ 0 ∷ [])
    ++ (0 ∷ 0 ∷ 9 ∷ 0 ∷ [])
