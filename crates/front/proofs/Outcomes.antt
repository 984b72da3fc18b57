-- What `printed` promises: each way to an answer, and that there is one outcome.
use Prim.Native.Nat.{ℕ, ◌*◌, ◌<◌, ◌≤◌}
use native.Mathlib.Omega.{arith}
use native.Mathlib.Decide.{dec_lt}
use mathlib.Core.Path.{◌≡◌, refl, sym, ◌∙◌, ap, ap₂}
use mathlib.Core.List.{List, ◌++◌}
use mathlib.Core.Logic.{inl, inr}
use lib.ListN.{length, drop, replicate}
use Rattle.automaton.specs.Held.{Held}
use Rattle.automaton.proofs.Files.Faults.{fault-number, fault-some}
use Rattle.automaton.specs.Checks.{Verdict, holds, fault, verdict}
use Rattle.expressions.specs.Nodes.{Table}
use Rattle.expressions.specs.Words.{node_width, table_of}
use Rattle.listing.specs.Listing.{plain_label, listing}
use Rattle.automaton.specs.declared.Extent.{Extent}
use Rattle.listing.specs.Answers.{listed, listing_of, Lists}
use Rattle.expressions.proofs.Words.{table-words}
use Rattle.elimination.specs.declared.Wholly.{Wholly}
use Rattle.theory.specs.Stages.{converted}
use Rattle.elimination.specs.Answers.{whole_nodes, written_to, refused_whole, wholly_done, WhollyAnswered}
use Rattle.buffers.specs.Writing.{all_zero}
use Rattle.elimination.proofs.Outcomes.{wholly-sound}
use Rattle.front.specs.Text.{refused_line, converted_listing, text_of, printed_text}
use Rattle.front.specs.Answers.{nodes_made, TooShort, nodes_left, printing, Prints}
use Rattle.front.specs.Inside.{Refuses}
use Rattle.front.proofs.Refused.{refused-length}

-- ---- what a verdict says of the text and the words

module _ (file : List ℕ) (held : Held) (e : verdict file ≡ holds held) where
  pub text-holds : printed_text file ≡ converted_listing held
  unfolding printed_text text_of
  text-holds = ap text_of e

  pub made_holds : nodes_made (verdict file) ≡ length (converted held).table
  unfolding nodes_made
  made_holds = ap nodes_made e

module _ (file : List ℕ) (number offset : ℕ) (e : verdict file ≡ fault number offset) where
  pub text-fault : printed_text file ≡ refused_line number
  unfolding printed_text text_of
  text-fault = ap text_of e

  pub made_fault : nodes_made (verdict file) ≡ 0
  unfolding nodes_made
  made_fault = ap nodes_made e

  pub text-fault-length : length (printed_text file) ≡ 10
  text-fault-length = let few = (fault-number file number offset e).1 in ap length text-fault ∙ refused-length number (omega arith)

-- ---- too short, or not

module _ (file nodes out : List ℕ) where
  pub short-nodes : whole_nodes nodes < nodes_made (verdict file) → TooShort file nodes out
  unfolding TooShort
  short-nodes h = inl h

  pub short-bytes : length out < length (printed_text file) → TooShort file nodes out
  unfolding TooShort
  short-bytes h = inr h

  pub room-both : nodes_made (verdict file) ≤ whole_nodes nodes → length (printed_text file) ≤ length out → TooShort file nodes out → ⊥
  unfolding TooShort
  room-both h k (inl x) = omega arith
  room-both h k (inr x) = omega arith

  prints-short : {after : List ℕ} → TooShort file nodes out → after ≡ all_zero nodes → Prints file nodes after out out (printing 6 0)
  prints-short t e = record { short = λ _. (refl, (e, refl)); done = λ n. absurd (n t) }

  -- ---- one outcome

  pub prints-once : (after after' bytes bytes' : List ℕ) (r s : Extent) → Prints file nodes after out bytes r → Prints file nodes after' out bytes' s
      → (r ≡ s) × ((after ≡ after') × (bytes ≡ bytes'))
  prints-once after after' bytes bytes' r s p q = go (dec_lt (whole_nodes nodes) (nodes_made (verdict file))) (dec_lt (length out) (length (printed_text file)))
    where
      short : TooShort file nodes out → (r ≡ s) × ((after ≡ after') × (bytes ≡ bytes'))
      short t = let a = p.short t in let b = q.short t in (a.0 ∙ sym b.0, (a.1.0 ∙ sym b.1.0, a.1.1 ∙ sym b.1.1))

      go : Dec (whole_nodes nodes < nodes_made (verdict file)) → Dec (length out < length (printed_text file)) → (r ≡ s) × ((after ≡ after') × (bytes ≡ bytes'))
      go (yes h) d = short (short-nodes h)
      go (no h) (yes k) = short (short-bytes k)
      go (no h) (no k) =
          let n = room-both (omega arith) (omega arith) in
          let a = p.done n in
          let b = q.done n in
          (a.0 ∙ sym b.0, (a.1.0 ∙ sym b.1.0, a.1.1 ∙ sym b.1.1))

-- ---- each way to an answer, after the conversion

module _ (file nodes after : List ℕ) (r : Wholly) (w : WhollyAnswered file nodes after r) where
  fault-given : (number offset : ℕ) → verdict file ≡ fault number offset → r.refusal.number ≡ number
  unfolding refused_whole
  fault-given number offset e = ap (λ (a : Wholly). a.refusal.number) (w.faulty number offset e).0

  short-number : (held : Held) → verdict file ≡ holds held → whole_nodes nodes < length (converted held).table → r.refusal.number ≡ 6
  unfolding refused_whole
  short-number held e h = ap (λ (a : Wholly). a.refusal.number) (w.short held e h).0

  done-number : (held : Held) → verdict file ≡ holds held → length (converted held).table ≤ whole_nodes nodes → r.refusal.number ≡ 0
  unfolding wholly_done
  done-number held e h = ap (λ (a : Wholly). a.refusal.number) (w.done held e h).0

  -- the nodes do not fit
  pub prints-no-nodes : (out : List ℕ) → r.refusal.number ≡ 6 → Prints file nodes after out out (printing 6 0)
  prints-no-nodes out six = go (verdict file) refl
    where
      room : (held : Held) → verdict file ≡ holds held → Dec (whole_nodes nodes < length (converted held).table) → Prints file nodes after out out (printing 6 0)
      room held e (yes h) = prints-short file nodes out (short-nodes file nodes out (omega (arith, made_holds file held e))) (w.short held e h).1
      room held e (no h) = absurd (omega (arith, done-number held e (omega arith)))

      go : (v : Verdict) → verdict file ≡ v → Prints file nodes after out out (printing 6 0)
      go (holds held) e = room held e (dec_lt (whole_nodes nodes) (length (converted held).table))
      go (fault number offset) e = absurd (omega (arith, fault-given number offset e, (fault-number file number offset e).1))

  -- the file is refused
  module _ (some : r.refusal.number ≡ 0 → ⊥) (other : r.refusal.number ≡ 6 → ⊥) where
    not-held : (held : Held) → verdict file ≡ holds held → Dec (whole_nodes nodes < length (converted held).table) → ⊥
    not-held held e (yes h) = other (short-number held e h)
    not-held held e (no h) = some (done-number held e (omega arith))

    pub number_small : r.refusal.number < 10
    number_small = go (verdict file) refl
      where
        go : (v : Verdict) → verdict file ≡ v → r.refusal.number < 10
        go (holds held) e = absurd (not-held held e (dec_lt (whole_nodes nodes) (length (converted held).table)))
        go (fault number offset) e = omega (arith, fault-given number offset e, (fault-number file number offset e).1)

    module _ (left out bytes : List ℕ) (p : Extent) (x : Refuses r.refusal.number after left out bytes p) where
      pub prints-refused : Prints file nodes left out bytes p
      unfolding nodes_left
      prints-refused = go (verdict file) refl
        where
          room : (number offset : ℕ) → verdict file ≡ fault number offset → Dec (length out < 10) → Prints file nodes left out bytes p
          room number offset e (yes h) =
              let a = x.short h in
              let same = (w.faulty number offset e).1 in
              let t = short-bytes file nodes out (omega (arith, text-fault-length file number offset e)) in
              record { short = λ _. (a.0, (a.1.0 ∙ ap (λ (l : List ℕ). replicate (length l) 0) same, a.1.1)); done = λ n. absurd (n t) }
          room number offset e (no h) =
              let a = x.done (omega arith) in
              let same = (w.faulty number offset e).1 in
              let l = text-fault-length file number offset e in
              let n = room-both file nodes out (omega (arith, made_fault file number offset e)) (omega arith) in
              let line = ap refused_line (fault-given number offset e) ∙ sym (text-fault file number offset e) in
              record {
                short = λ t. absurd (n t);
                done = λ _. (
                  a.0 ∙ ap (printing 0) (sym l),
                  (a.1.0 ∙ same ∙ ap (λ (v : Verdict). nodes_left v nodes) (sym e), a.1.1 ∙ ap₂ (λ (s : List ℕ) (k : ℕ). s ++ drop k out) line (sym l)),
                );
              }

          go : (v : Verdict) → verdict file ≡ v → Prints file nodes left out bytes p
          go (holds held) e = absurd (not-held held e (dec_lt (whole_nodes nodes) (length (converted held).table)))
          go (fault number offset) e = room number offset e (dec_lt (length out) 10)

  -- the conversion is done, and its table listed
  module _ (zero : r.refusal.number ≡ 0) where
    when-done : {C : Type 0} → ((held : Held) → verdict file ≡ holds held → length (converted held).table ≤ whole_nodes nodes → C) → C
    when-done {C = C} f = go (verdict file) refl
      where
        room : (held : Held) → verdict file ≡ holds held → Dec (whole_nodes nodes < length (converted held).table) → C
        room held e (yes h) = absurd (omega (arith, short-number held e h))
        room held e (no h) = f held e (omega arith)

        go : (v : Verdict) → verdict file ≡ v → C
        go (holds held) e = room held e (dec_lt (whole_nodes nodes) (length (converted held).table))
        go (fault number offset) e = absurd (fault-some file number offset e (sym (fault-given number offset e) ∙ zero))

    module _ (out bytes : List ℕ) (l : Extent) (x : Lists after r.nodes r.answer out bytes l) where
      module _ (held : Held) (e : verdict file ≡ holds held) (fits : length (converted held).table ≤ whole_nodes nodes) where
        -- what is listed is the text
        listed-text : listing_of after r.nodes r.answer ≡ printed_text file
        unfolding listing_of converted_listing wholly_done written_to
        listed-text =
            let d = w.done held e fits in
            let made = converted held in
            ap₂ (λ (words : List ℕ) (a : Wholly). listing plain_label (table_of words a.nodes) a.answer) d.1 d.0
            ∙ ap (λ (table : Table). listing plain_label table made.node) (table-words made.table (drop (node_width * length made.table) nodes)) ∙ sym (text-holds file held e)

        list-short : length out < length (printed_text file) → (l ≡ listed 6 0) × (bytes ≡ out)
        list-short h = x.short (wholly-sound file nodes after r w held e fits) (omega (arith, ap length listed-text))

        list_done : length (printed_text file) ≤ length out → (l ≡ listed 0 (length (printed_text file))) × (bytes ≡ printed_text file ++ drop (length (printed_text file)) out)
        list_done h = rw listed-text at (x.done (wholly-sound file nodes after r w held e fits) (omega (arith, ap length listed-text)))

      -- the listing does not fit the bytes, and the words are made 0
      pub prints-no-bytes : (left : List ℕ) → left ≡ replicate (length after) 0 → length after ≡ length nodes → (l.refusal.number ≡ 0 → ⊥) → Prints file nodes left out bytes (printing 6 0)
      prints-no-bytes left z same some = when-done (λ held e fits. go held e fits (dec_lt (length out) (length (printed_text file))))
        where
          go : (held : Held) (e : verdict file ≡ holds held) (fits : length (converted held).table ≤ whole_nodes nodes) → Dec (length out < length (printed_text file)) → Prints file nodes left out bytes (printing 6 0)
          go held e fits (yes h) =
              let t = short-bytes file nodes out h in
              record { short = λ _. (refl, (z ∙ ap (λ (n : ℕ). replicate n 0) same, (list-short held e fits h).1)); done = λ n. absurd (n t) }
          go held e fits (no h) = absurd (some (ap (λ (a : Extent). a.refusal.number) (list_done held e fits (omega arith)).0))

      pub prints-listed : l.refusal.number ≡ 0 → Prints file nodes after out bytes (printing 0 l.length)
      unfolding nodes_left
      prints-listed none = when-done (λ held e fits. go held e fits (dec_lt (length out) (length (printed_text file))))
        where
          go : (held : Held) (e : verdict file ≡ holds held) (fits : length (converted held).table ≤ whole_nodes nodes) → Dec (length out < length (printed_text file)) → Prints file nodes after out bytes (printing 0 l.length)
          go held e fits (yes h) = absurd (omega (arith, ap (λ (a : Extent). a.refusal.number) (list-short held e fits h).0))
          go held e fits (no h) =
              let d = list_done held e fits (omega arith) in
              let n = room-both file nodes out (omega (arith, made_holds file held e)) (omega arith) in
              record {
                short = λ t. absurd (n t);
                done = λ _. (ap (λ (a : Extent). printing 0 a.length) d.0, ((w.done held e fits).1 ∙ ap (λ (v : Verdict). nodes_left v nodes) (sym e), d.1));
              }
