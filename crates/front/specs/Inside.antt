-- What a private part of `printed` promises. Nothing here needs to be believed: the public promise cites none of it.
use Rattle.std.specs.Prelude.{ℕ, ◌≤◌, ◌<◌, ◌≡◌, List, ◌++◌, length, drop}
use Rattle.buffers.specs.Writing.{all_zero}
use Rattle.automaton.specs.declared.Extent.{Extent}
use Rattle.front.specs.Text.{refused_line}
use Rattle.front.specs.Answers.{printing}

-- the line "refused N" stands in the bytes, or they are too few and the words are all 0
pub record Refuses (number : ℕ) (nodes_before nodes_after out_before out_after : List ℕ) (r : Extent) : Type 0 where
  pub short : length out_before < 10 → (r ≡ printing 6 0) × ((nodes_after ≡ all_zero nodes_before) × (out_after ≡ out_before))
  pub done : 10 ≤ length out_before → (r ≡ printing 0 10) × ((nodes_after ≡ nodes_before) × (out_after ≡ refused_line number ++ drop 10 out_before))
