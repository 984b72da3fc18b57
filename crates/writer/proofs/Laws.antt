-- The laws of the pair over the promises of `read` and `write`: reading what was written gives the same automaton with unused places 0; a file that reads and is written back is the same bytes; and each promise has one outcome.
use Prim.Native.Nat.{ℕ, ◌≤◌}
use mathlib.Core.Path.{◌≡◌, sym, ap, ◌∙◌}
use mathlib.Core.List.{List, ◌++◌}
use native.Mathlib.Nat.{lt_of_not-le}
use native.Mathlib.Decide.{dec_le}
use native.Mathlib.Omega.{arith}
use lib.ListN.{length, take, drop}
use lib.Seq.{take-append_seam}
use Rattle.automaton.specs.Held.{Held, Valid}
use Rattle.automaton.specs.File.{file_of}
use Rattle.automaton.specs.Checks.{holds, verdict}
use Rattle.automaton.specs.Answers.{placed, reading_of, read_answer, held_by}
use Rattle.writer.specs.Answers.{writing, Written}
use Rattle.automaton.specs.declared.Automaton.{Automaton}
use Rattle.automaton.specs.declared.Extent.{Extent}
use Rattle.automaton.proofs.Files.Records.{Bytes}
use Rattle.automaton.proofs.Files.Pair.{verdict-valid, verdict-file}
use Rattle.automaton.proofs.Files.FileOf.{file-verdict}
use Rattle.automaton.proofs.Values.{dec-valid, held-placed}
use Rattle.ground.proofs.Deciding.{alike}
use Rattle.automaton.specs.Refusals.{no_refusal}

-- ---- over the promises

-- `write`: which case an answer is
module _ (value : Automaton) (before after : List ℕ) (answer : Extent) (written : Written value before after answer) where
  -- an answer of 0 says that the file stands in the buffer
  pub written-file : answer.refusal.number ≡ 0 → Valid (held_by value) × ((answer.length ≡ length (file_of (held_by value))) × (after ≡ file_of (held_by value) ++ drop (length (file_of (held_by value))) before))
  written-file z = go (dec-valid (held_by value))
    where
      go : Dec (Valid (held_by value)) → Valid (held_by value) × ((answer.length ≡ length (file_of (held_by value))) × (after ≡ file_of (held_by value) ++ drop (length (file_of (held_by value))) before))
      go (no n) = let e = (written.unfit n).0 in absurd (omega (arith, ap (λ (w : Extent). w.refusal.number) e))
      go (yes v) = room (dec_le (length (file_of (held_by value))) (length before))
        where
          room : Dec (length (file_of (held_by value)) ≤ length before) → Valid (held_by value) × ((answer.length ≡ length (file_of (held_by value))) × (after ≡ file_of (held_by value) ++ drop (length (file_of (held_by value))) before))
          room (yes h) = let d = written.done v h in (v, (ap (λ (w : Extent). w.length) d.0, d.1))
          room (no n) = let e = (written.short v (lt_of_not-le n)).0 in absurd (omega (arith, ap (λ (w : Extent). w.refusal.number) e))

  -- reading what was written gives the same automaton, with unused places 0
  pub written-reads : answer.refusal.number ≡ 0
      → read_answer (take answer.length after) ≡ record { refusal = no_refusal; automaton = placed (held_by value) }
  unfolding read_answer reading_of
  written-reads z =
      let f = written-file z in
      let bytes : take answer.length after ≡ file_of (held_by value) = rw (f.1.0, f.1.1) (take-append_seam (file_of (held_by value)) (drop (length (file_of (held_by value))) before)) in
      rw (bytes, file-verdict (held_by value) f.0)

-- a file that reads and is written back is the same bytes
pub reads-written : (bytes before after : List ℕ) (held : Held) (answer : Extent) → Bytes bytes → verdict bytes ≡ holds held
    → Written (read_answer bytes).automaton before after answer → length bytes ≤ length before
    → (answer ≡ writing no_refusal (length bytes)) × (after ≡ bytes ++ drop (length bytes) before)
unfolding read_answer reading_of
reads-written bytes before after held answer b e w h =
    let valid = verdict-valid bytes held e in
    let again : held_by (read_answer bytes).automaton ≡ held = rw e (held-placed held valid) in
    let file : file_of (held_by (read_answer bytes).automaton) ≡ bytes = ap file_of again ∙ sym (verdict-file bytes held b e) in
    rw file at (w.done (rw again valid) (rw file h))

-- what `write` promises has one outcome: the answer and every byte of the buffer
pub written_once : (value : Automaton) (before after other : List ℕ) (r s : Extent) → Written value before after r → Written value before other s → (r ≡ s) × (after ≡ other)
written_once value before after other r s w v = go (dec-valid (held_by value)) (dec_le (length (file_of (held_by value))) (length before))
  where
    go : Dec (Valid (held_by value)) → Dec (length (file_of (held_by value)) ≤ length before) → (r ≡ s) × (after ≡ other)
    go (no n) d = alike (w.unfit n) (v.unfit n)
    go (yes h) (yes l) = alike (w.done h l) (v.done h l)
    go (yes h) (no n) = alike (w.short h (lt_of_not-le n)) (v.short h (lt_of_not-le n))
