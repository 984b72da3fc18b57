-- The program [9.9 to 9.12]: what follows of it from the promise of `printed`, which it calls.
use Rattle.std.specs.Prelude.{ℕ, ◌≤◌, ◌≡◌, List, [], ◌∷◌, ◌++◌, length, take, drop}
use Rattle.automaton.specs.Held.{Held}
use Rattle.automaton.specs.Checks.{verdict, holds, fault}
use Rattle.automaton.specs.declared.Extent.{Extent}
use Rattle.front.specs.Text.{refused_line, converted_listing, most_read}
use Rattle.front.specs.Answers.{printing, Prints, node_room, text_room}

pub record PrintsFaithfully : Type 0 where
  -- in the room that the program lends itself it never comes to refusal 6 [9.12]
  pub never_short : (file nodes after out bytes : List ℕ) (r : Extent) → node_room ≤ length nodes → text_room ≤ length out
      → Prints file nodes after out bytes r → r.refusal.number ≡ 0
  -- for a file that holds an automaton the text is the listing of its conversion [9.11]
  pub listing : (file nodes after out bytes : List ℕ) (r : Extent) (held : Held) → verdict file ≡ holds held → node_room ≤ length nodes → text_room ≤ length out
      → Prints file nodes after out bytes r → take r.length bytes ≡ converted_listing held
  -- for any other it is the one line with the number, and the words stay [9.11, 9.13]
  pub refused : (file nodes after out bytes : List ℕ) (r : Extent) (number offset : ℕ) → verdict file ≡ fault number offset → 10 ≤ length out
      → Prints file nodes after out bytes r → (r ≡ printing 0 10) × ((after ≡ nodes) × (bytes ≡ refused_line number ++ drop 10 out))
  -- that line, byte by byte, for 4: r e f u s e d, a blank, 4 and a newline [9.11]
  pub refused_4 : refused_line 4 ≡ 114 ∷ 101 ∷ 102 ∷ 117 ∷ 115 ∷ 101 ∷ 100 ∷ 32 ∷ 52 ∷ 10 ∷ []
  -- to go by the first 4,096 bytes changes nothing: a longer input has the text that these have [9.10]
  pub first_bytes : (file nodes after other out bytes others : List ℕ) (r s : Extent) → Prints (take most_read file) nodes after out bytes r
      → Prints file nodes other out others s → (r ≡ s) × ((after ≡ other) × (bytes ≡ others))
