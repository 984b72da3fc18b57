-- What is printed: that the promise is kept by some outcome, and what follows of it.
use Prim.Native.Nat.{ℕ, ◌≤◌, ◌<◌}
use native.Mathlib.Omega.{arith}
use native.Mathlib.Decide.{dec_lt}
use mathlib.Core.Path.{◌≡◌, refl, sym, ◌∙◌, ap, ap₂}
use mathlib.Core.List.{List, [], ◌∷◌, ◌++◌}
use lib.ListN.{length, take, drop}
use Rattle.buffers.specs.Writing.{all_zero}
use Rattle.automaton.specs.Checks.{Verdict, verdict, holds, fault}
use Rattle.automaton.proofs.Files.Pair.{verdict-valid}
use Rattle.automaton.proofs.Files.Cap.{verdict-cap}
use Rattle.buffers.specs.Decimal.{decimal_in, decimal}
use Rattle.listing.specs.Listing.{spaced, line}
use Rattle.theory.specs.Stages.{converted}
use Rattle.elimination.specs.Answers.{whole_nodes}
use Rattle.automaton.specs.declared.Extent.{Extent}
use Rattle.front.specs.Text.{refused_line, converted_listing, text_of, printed_text, most_read}
use Rattle.front.specs.Answers.{nodes_made, TooShort, nodes_left, printing, Prints}
use Rattle.front.proofs.Outcomes.{text-holds, made_holds, text-fault, made_fault, text-fault-length, short-nodes, short-bytes, room-both}
use Rattle.front.proofs.Room.{never-six, text-exact}
use Rattle.front.proofs.Cap.{text-cap}
use Rattle.claims.specs.Types.{Byte, Long, Bytes, Words, PrintingFits}
use Rattle.claims.specs.Kept.{Stays}
use Rattle.claims.specs.Printings.{PrintsFaithfully}
use Rattle.claims.proofs.Outcomes.TypedTables.{decimal-bytes, line-bytes, listing-bytes}
use Rattle.claims.proofs.Outcomes.TypedConversions.{zero-stays, whole-stays}
use Rattle.claims.proofs.Outcomes.KeptTables.{stays-front, stays_same}

-- ---- it is too short, or it is not

too_short : (file nodes out : List ℕ) → Dec (TooShort file nodes out)
too_short file nodes out = go (dec_lt (whole_nodes nodes) (nodes_made (verdict file))) (dec_lt (length out) (length (printed_text file)))
  where
    go : Dec (whole_nodes nodes < nodes_made (verdict file)) → Dec (length out < length (printed_text file)) → Dec (TooShort file nodes out)
    go (yes h) d = yes (short-nodes file nodes out h)
    go (no h) (yes k) = yes (short-bytes file nodes out k)
    go (no h) (no k) = no (room-both file nodes out (omega arith) (omega arith))

-- ---- some outcome keeps the promise

module _ (file nodes out : List ℕ) (n : TooShort file nodes out → ⊥) where
  nodes-fit : nodes_made (verdict file) ≤ whole_nodes nodes
  nodes-fit = go (dec_lt (whole_nodes nodes) (nodes_made (verdict file)))
    where
      go : Dec (whole_nodes nodes < nodes_made (verdict file)) → nodes_made (verdict file) ≤ whole_nodes nodes
      go (yes h) = absurd (n (short-nodes file nodes out h))
      go (no h) = omega arith

  text-fits : length (printed_text file) ≤ length out
  text-fits = go (dec_lt (length out) (length (printed_text file)))
    where
      go : Dec (length out < length (printed_text file)) → length (printed_text file) ≤ length out
      go (yes h) = absurd (n (short-bytes file nodes out h))
      go (no h) = omega arith

  left-stays : Stays Words nodes (nodes_left (verdict file) nodes)
  unfolding nodes_left
  left-stays = go (verdict file) refl
    where
      go : (v : Verdict) → verdict file ≡ v → Stays Words nodes (nodes_left (verdict file) nodes)
      go (holds held) e = rw e (whole-stays held (verdict-valid file held e) nodes (omega (arith, made_holds file held e, nodes-fit)))
      go (fault number offset) e = rw e (stays_same Words nodes)

-- the text is bytes
text-bytes : (file : List ℕ) → Bytes (printed_text file)
unfolding printed_text text_of converted_listing refused_line
text-bytes file = go (verdict file)
  where
    go : (v : Verdict) → Bytes (text_of v)
    go (holds held) = listing-bytes (converted held).table (converted held).node
    go (fault number offset) = line-bytes _ (decimal number ∷ []) (omega arith) (decimal-bytes number, tt)

pub printed-kept : (file nodes out : List ℕ) → Long (length out)
    → (after bytes : List ℕ) × (r : Extent) × Prints file nodes after out bytes r × Stays Words nodes after × Stays Bytes out bytes × PrintingFits r
printed-kept file nodes out long = go (too_short file nodes out)
  where
    text : List ℕ
    text = printed_text file

    go : Dec (TooShort file nodes out) → (after bytes : List ℕ) × (r : Extent) × Prints file nodes after out bytes r × Stays Words nodes after × Stays Bytes out bytes × PrintingFits r
    go (yes t) = (all_zero nodes, out, printing 6 0, record { short = λ _. (refl, (refl, refl)); done = λ n. absurd (n t) }, zero-stays nodes, stays_same Bytes out, omega arith)
    go (no n) =
        let fits = text-fits file nodes out n in (
          nodes_left (verdict file) nodes,
          text ++ drop (length text) out,
          printing 0 (length text),
          record { short = λ t. absurd (n t); done = λ _. (refl, (refl, refl)) },
          left-stays file nodes out n,
          stays-front Byte text out (length text) refl fits (text-bytes file),
          (omega arith, omega arith),
        )

-- ---- the line of a refusal

refused : (file nodes after out bytes : List ℕ) (r : Extent) (number offset : ℕ) → verdict file ≡ fault number offset → 10 ≤ length out
    → Prints file nodes after out bytes r → (r ≡ printing 0 10) × ((after ≡ nodes) × (bytes ≡ refused_line number ++ drop 10 out))
unfolding nodes_left
refused file nodes after out bytes r number offset e h p =
    let l = text-fault-length file number offset e in
    let d = p.done (room-both file nodes out (omega (arith, made_fault file number offset e)) (omega arith)) in (
      d.0 ∙ ap (printing 0) l,
      (d.1.0 ∙ ap (λ (v : Verdict). nodes_left v nodes) e, d.1.1 ∙ ap₂ (λ (s : List ℕ) (k : ℕ). s ++ drop k out) (text-fault file number offset e) l),
    )

refused_4 : refused_line 4 ≡ 114 ∷ 101 ∷ 102 ∷ 117 ∷ 115 ∷ 101 ∷ 100 ∷ 32 ∷ 52 ∷ 10 ∷ []
unfolding refused_line line spaced decimal decimal_in
refused_4 = refl

-- ---- the first 4,096 bytes

module _ (file nodes out : List ℕ) where
  verdict-same : verdict (take most_read file) ≡ verdict file
  verdict-same = verdict-cap file most_read (omega arith)

  short-same : TooShort (take most_read file) nodes out → TooShort file nodes out
  unfolding TooShort
  short-same t = rw (verdict-same, text-cap file) at t

  short_back : TooShort file nodes out → TooShort (take most_read file) nodes out
  unfolding TooShort
  short_back t = rw (verdict-same, text-cap file) t

  first_bytes : (after other bytes others : List ℕ) (r s : Extent) → Prints (take most_read file) nodes after out bytes r → Prints file nodes other out others s
      → (r ≡ s) × ((after ≡ other) × (bytes ≡ others))
  first_bytes after other bytes others r s p q = go (too_short file nodes out)
    where
      go : Dec (TooShort file nodes out) → (r ≡ s) × ((after ≡ other) × (bytes ≡ others))
      go (yes t) =
          let a = p.short (short_back t) in
          let b = q.short t in
          (a.0 ∙ sym b.0, (a.1.0 ∙ sym b.1.0, a.1.1 ∙ sym b.1.1))
      go (no n) =
          let a = p.done (λ t. n (short-same t)) in
          let b = q.done n in
          let text = text-cap file in (
            a.0 ∙ ap (λ (l : List ℕ). printing 0 (length l)) text ∙ sym b.0,
            (a.1.0 ∙ ap (λ (v : Verdict). nodes_left v nodes) verdict-same ∙ sym b.1.0, a.1.1 ∙ ap (λ (l : List ℕ). l ++ drop (length l) out) text ∙ sym b.1.1),
          )

pub prints_faithfully : PrintsFaithfully
prints_faithfully =
    record {
      never_short = λ file nodes after out bytes r words room p. never-six file nodes out words room after bytes r p;
      listing = λ file nodes after out bytes r held e words room p. text-exact file nodes out words room after bytes r p ∙ text-holds file held e;
      refused = refused;
      refused_4 = refused_4;
      first_bytes = λ file nodes after other out bytes others r s p q. first_bytes file nodes out after other bytes others r s p q;
    }
