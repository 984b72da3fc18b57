-- The room with which `printed` is never short: 1,393 nodes, and the bytes of the longest listing that so many nodes may have.
use Rattle.automaton.specs.Refusals.{extent_of}
use Prim.Native.Nat.{ℕ, ◌≤◌}
use native.Mathlib.Omega.{arith}
use mathlib.Core.Path.{◌≡◌, refl, ◌∙◌, ap, ap₂}
use mathlib.Core.List.{List}
use lib.ListN.{length, take, drop, length-append}
use lib.Seq.{take_at}
use Rattle.automaton.specs.Checks.{Verdict, holds, fault, verdict}
use Rattle.automaton.proofs.Files.Pair.{verdict-valid}
use Rattle.listing.proofs.Longest.{listing-most}
use Rattle.theory.specs.Stages.{converted}
use Rattle.elimination.specs.Answers.{whole_nodes}
use Rattle.theory.proofs.Counting.Bound.{bound-file}
use Rattle.theory.proofs.Theorem.{wholly-ascending}
use Rattle.std.specs.Prelude.{Result, Ok, Err, IsOk}
use Rattle.automaton.specs.declared.Refused.{Refused}
use Rattle.automaton.proofs.Refusing.{number-some}
use Rattle.automaton.specs.declared.Extent.{Extent}
use Rattle.front.specs.Text.{converted_listing, printed_text}
use Rattle.front.specs.Answers.{nodes_made, TooShort, Prints, most_made, node_room, text_room}
use Rattle.front.proofs.Outcomes.{text-holds, made_holds, text-fault-length, made_fault, room-both}

-- ---- any file

module _ (file : List ℕ) where
  made-most : nodes_made (verdict file) ≤ most_made
  made-most = go (verdict file) refl
    where
      go : (v : Verdict) → verdict file ≡ v → nodes_made (verdict file) ≤ most_made
      go (holds held) e =
          let v = verdict-valid file held e in
          let few = (wholly-ascending held v).few in
          omega (arith, made_holds file held e, bound-file held v)
      go (fault number offset) e = omega (arith, made_fault file number offset e)

  text-most : length (printed_text file) ≤ text_room
  unfolding converted_listing
  text-most = go (verdict file) refl
    where
      go : (v : Verdict) → verdict file ≡ v → length (printed_text file) ≤ text_room
      go (holds held) e =
          let v = verdict-valid file held e in
          let w = wholly-ascending held v in
          let few = w.few in
          let within = w.within in
          let bound = bound-file held v in
          omega (arith, ap length (text-holds file held e), listing-most (converted held).table (converted held).node w.sound (omega arith) (omega arith))
      go (fault number offset) e = omega (arith, text-fault-length file number offset e)

  module _ (nodes out : List ℕ) (words : node_room ≤ length nodes) (bytes : text_room ≤ length out) where
    -- with that room nothing is too short
    pub room-enough : TooShort file nodes out → ⊥
    unfolding whole_nodes
    room-enough =
        let m = made-most in
        let t = text-most in
        room-both file nodes out (omega arith) (omega arith)

    -- so the answer is 0
    pub never-six : (after text : List ℕ) (r : Extent) → Prints file nodes after out text r → r.refusal.number ≡ 0
    never-six after text r p = ap (λ (a : Extent). a.refusal.number) (p.done room-enough).0

    -- and the text stands at the start of the bytes
    pub text-within : (after text : List ℕ) (r : Extent) → Prints file nodes after out text r → r.length ≤ length text
    text-within after text r p =
        let d = p.done room-enough in
        omega (arith, ap (λ (a : Extent). a.length) d.0, ap length d.1.1, length-append (printed_text file) (drop (length (printed_text file)) out))

    pub text-exact : (after text : List ℕ) (r : Extent) → Prints file nodes after out text r → take r.length text ≡ printed_text file
    text-exact after text r p =
        let d = p.done room-enough in
        ap₂ take (ap (λ (a : Extent). a.length) d.0) d.1.1 ∙ take_at (printed_text file) (drop (length (printed_text file)) out) (length (printed_text file)) refl

    -- so no result of `printed` is a refusal
    pub never-refused : (after text : List ℕ) (r : Result ℕ Refused) → Prints file nodes after out text (extent_of r) → IsOk r
    never-refused after text (Ok size) p = refl
    never-refused after text (Err reason) p = absurd (number-some reason (never-six after text (extent_of (Err reason)) p))
