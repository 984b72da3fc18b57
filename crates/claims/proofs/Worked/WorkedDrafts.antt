-- The worked drafts come out as section 10 says.
use Prim.Native.Nat.{ℕ, ◌*◌, ◌≤◌}
use native.Mathlib.Omega.{arith}
use mathlib.Core.Path.{◌≡◌, refl, ◌∙◌, ap, ap₂}
use mathlib.Core.Logic.{◌⊎◌, inl, inr, ◌↔◌}
use mathlib.Core.List.{List, [], ◌∷◌, ◌++◌, append-nil}
use lib.ListN.{length, take, drop, replicate, drop_of_length-le}
use Rattle.automaton.specs.Held.{Held}
use Rattle.automaton.specs.Checks.{holds, verdict}
use Rattle.meaning.specs.Trees.{Tree}
use Rattle.expressions.specs.declared.Measured.{Measured}
use Rattle.automaton.specs.declared.Extent.{Extent}
use Rattle.expressions.specs.Nodes.{Table}
use Rattle.expressions.specs.Words.{node_width, table_of, words_of}
use Rattle.expressions.specs.Unfolding.{expr_at}
use Rattle.expressions.specs.Soundness.{Sound}
use Rattle.expressions.specs.Sizes.{held_size, sizes_of}
use Rattle.expressions.specs.Answers.{Measures, measured}
use Rattle.listing.specs.Answers.{Lists, listed, listing_of}
use Rattle.expressions.proofs.Words.{table-words}
use Rattle.elimination.specs.declared.Partly.{Partly}
use Rattle.elimination.specs.declared.Wholly.{Wholly}
use Rattle.theory.specs.Stages.{converted, bound_of}
use Rattle.elimination.specs.Answers.{whole_nodes, written_to, refused_partly, PartlyAnswered, refused_whole, wholly_done, WhollyAnswered}
use Rattle.theory.specs.RowLists.{list_places}
use Rattle.elimination.proofs.Outcomes.{wholly-sound}
use Rattle.front.specs.Text.{printed_text}
use Rattle.front.specs.Answers.{printing, Prints}
use Rattle.front.proofs.Outcomes.{text-holds, made_holds, room-both}
use Rattle.claims.proofs.Worked.Drafts.{P, pairs, nested, endless, rowless, finalless, unused, order, grouping, numbers, AnswerDenotes, Leaf, pairs_denotes, nested_denotes, endless_denotes, rowless_denotes, finalless_denotes, unused_denotes, order_denotes, grouping_denotes}
use Rattle.claims.specs.DraftFiles.{file_p, file_pairs, file_nested, file_endless, file_rowless, file_finalless, file_unused, file_order, file_grouping}
use Rattle.claims.specs.Slips.{leaf}
use Rattle.claims.specs.WorkedDrafts.{whole, part, place, Gives, DenotesTree, DenotesJust, over, pair, words_p, sizes_p, listing_p, words_order, words_grouping, Chain, WorkedDrafts}
use Rattle.claims.proofs.Meaning.Done.{whole_room}
use Rattle.claims.proofs.Worked.DraftsHeld.{drafts-held}
use Rattle.claims.proofs.Worked.DraftRuns.{p_100, p_11000, p_10100, p_0, p_10, p_00, p_none}
use Rattle.claims.proofs.Worked.DraftTables.{p_size, P-sizes, p_listing, listing-length, P-text, P-one-done, P-one-words}

-- room for so many nodes
pub room : (n : ℕ) (words : List ℕ) → node_width * n ≤ length words → n ≤ whole_nodes words
unfolding whole_nodes
room n words h = omega arith

module _ (file : List ℕ) (held : Held) (e : verdict file ≡ holds held) where
  -- the numbers of the conversion
  gives : (answer count : ℕ) → ((converted held).node ≡ answer) × (length (converted held).table ≡ count) → Gives file answer count
  unfolding wholly_done
  gives answer count g before after r h x =
      (x.done held e (rw g.1 (room count before h))).0 ∙ ap₂ (λ (n a : ℕ). whole 0 n a) g.1 g.0

  -- and its words, in front of those that stood past them
  pub leaves : (answer count : ℕ) → ((converted held).node ≡ answer) × (length (converted held).table ≡ count) → (words : List ℕ) → words_of (converted held).table ≡ words
      → (before after : List ℕ) (r : Wholly) → node_width * count ≤ length before → WhollyAnswered file before after r
      → (r ≡ whole 0 count answer) × (after ≡ words ++ drop (node_width * count) before)
  unfolding written_to
  leaves answer count g words w before after r h x = (
    gives answer count g before after r h x,
    (x.done held e (rw g.1 (room count before h))).1 ∙ ap₂ (λ (front : List ℕ) (n : ℕ). front ++ drop (node_width * n) before) w g.1,
  )

  -- what stands in the words means what the conversion means
  means : (before after : List ℕ) (r : Wholly) → WhollyAnswered file before after r → r.refusal.number ≡ 0
      → expr_at (table_of after r.nodes) r.answer ≡ expr_at (converted held).table (converted held).node
  unfolding wholly_done written_to
  means before after r x z =
      let d = x.done held e (whole_room file before after r x held e z) in
      rw (d.0, d.1) (ap (λ (t : Table). expr_at t (converted held).node) (table-words (converted held).table (drop (node_width * length (converted held).table) before)))

-- ---- P

p_whole : (before after : List ℕ) (r : Wholly) → 60 ≤ length before → WhollyAnswered file_p before after r → (r ≡ whole 0 10 9) × (after ≡ words_p ++ drop 60 before)
p_whole before after r h x = leaves file_p P drafts-held.p_held 9 10 numbers.p_gives words_p numbers.p_words before after r h x

pub P-sound : (before after : List ℕ) (r : Wholly) → 60 ≤ length before → WhollyAnswered file_p before after r → Sound after r.nodes r.answer
P-sound before after r h x = wholly-sound file_p before after r x P drafts-held.p_held (rw numbers.p_gives.1 (room 10 before h))

p_in_59 : (before after : List ℕ) (r : Wholly) → length before ≡ 59 → WhollyAnswered file_p before after r → (r ≡ whole 6 0 0) × (after ≡ replicate 59 0)
unfolding refused_whole whole_nodes
p_in_59 before after r h x =
    let g = numbers.p_gives in
    let d = x.short P drafts-held.p_held (rw g.1 (omega arith)) in
    (d.0, d.1 ∙ ap (λ (n : ℕ). replicate n 0) h)

p_in_60 : (before after : List ℕ) (r : Wholly) → length before ≡ 60 → WhollyAnswered file_p before after r → (r ≡ whole 0 10 9) × (after ≡ words_p)
p_in_60 before after r h x =
    let d = p_whole before after r (omega arith) x in
    (d.0, d.1 ∙ ap (words_p ++◌) (drop_of_length-le before {i = 60} (omega arith)) ∙ append-nil words_p)

-- ---- which trees are denoted

module _ (file : List ℕ) (held : Held) (e : verdict file ≡ holds held) where
  denotes-tree : (t : Tree) → AnswerDenotes held t → DenotesTree file t
  denotes-tree t d before after r x z = rw (means file held e before after r x z) d

  denotes-just : (Trees : Tree → Type 0) → ((t : Tree) → AnswerDenotes held t ↔ Trees t) → DenotesJust file Trees
  denotes-just Trees d before after r x z t = rw (means file held e before after r x z) (d t)

abbrev Pairs : Tree → Type 0
Pairs t = (t ≡ pair 2 (leaf 0) (leaf 0)) ⊎ (t ≡ pair 2 (leaf 0) (leaf 1)) ⊎ (t ≡ pair 2 (leaf 1) (leaf 0)) ⊎ (t ≡ pair 2 (leaf 1) (leaf 1))

four : (t : Tree) → AnswerDenotes pairs t ↔ Pairs t
four t = (λ x. let c = (pairs_denotes t).0 x in of c.0 c.1 c.2 c.3 c.4, λ x. (pairs_denotes t).1 (to x))
  where
    of : (u v : Tree) → t ≡ pair 2 u v → Leaf u → Leaf v → Pairs t
    of u v e (inl d) (inl f) = inl cc
    of u v e (inl d) (inr f) = inr (inl cc)
    of u v e (inr d) (inl f) = inr (inr (inl cc))
    of u v e (inr d) (inr f) = inr (inr (inr cc))

    to : Pairs t → (u v : Tree) × (t ≡ pair 2 u v) × Leaf u × Leaf v
    to (inl e) = (leaf 0, leaf 0, e, inl refl, inl refl)
    to (inr (inl e)) = (leaf 0, leaf 1, e, inl refl, inr refl)
    to (inr (inr (inl e))) = (leaf 1, leaf 0, e, inr refl, inl refl)
    to (inr (inr (inr e))) = (leaf 1, leaf 1, e, inr refl, inr refl)

-- ---- P measured and listed

P-measured : (before after scratch sizes : List ℕ) (r : Wholly) (m : Measured) → 60 ≤ length before → WhollyAnswered file_p before after r
    → 10 ≤ length scratch → Measures after r.nodes r.answer scratch sizes m → (m ≡ measured 0 12) × (sizes ≡ sizes_p ++ drop 10 scratch)
P-measured before after scratch sizes r m h x l y =
    let d = p_whole before after r h x in
    let sound : Sound after 10 9 = rw d.0 at (P-sound before after r h x) in
    let y' : Measures after 10 9 scratch sizes m = rw d.0 at y in
    let z = y'.done sound l in
    let one : held_size (expr_at (table_of after 10) 9) ≡ 12 = rw d.1 (p_size (drop 60 before)) in
    let each : sizes_of (table_of after 10) ≡ sizes_p = rw d.1 (P-sizes (drop 60 before)) in
    (z.0 ∙ ap (measured 0) one, z.1 ∙ ap (◌++ drop 10 scratch) each)

P-listed : (before after out bytes : List ℕ) (r : Wholly) (l : Extent) → 60 ≤ length before → WhollyAnswered file_p before after r
    → 123 ≤ length out → Lists after r.nodes r.answer out bytes l → (l ≡ listed 0 123) × (bytes ≡ listing_p ++ drop 123 out)
P-listed before after out bytes r l h x k y =
    let d = p_whole before after r h x in
    let sound : Sound after 10 9 = rw d.0 at (P-sound before after r h x) in
    let y' : Lists after 10 9 out bytes l = rw d.0 at y in
    let same : listing_of after 10 9 ≡ listing_p = rw d.1 (p_listing (drop 60 before)) in
    let long : length (listing_of after 10 9) ≡ 123 = ap length same ∙ listing-length in
    let z = y'.done sound (rw long k) in
    (z.0 ∙ ap (listed 0) long, z.1 ∙ ap₂ (λ (b : List ℕ) (n : ℕ). b ++ drop n out) same long)

p_printed : (nodes after out bytes : List ℕ) (r : Extent) → 60 ≤ length nodes → 123 ≤ length out → Prints file_p nodes after out bytes r
    → (r ≡ printing 0 123) × (bytes ≡ listing_p ++ drop 123 out)
p_printed nodes after out bytes r h k x =
    let e = drafts-held.p_held in
    let text : printed_text file_p ≡ listing_p = text-holds file_p P e ∙ P-text in
    let long : length (printed_text file_p) ≡ 123 = ap length text ∙ listing-length in
    let fits = room 10 nodes h in
    let d = x.done (room-both file_p nodes out (omega (arith, made_holds file_p P e, numbers.p_gives.1)) (omega arith)) in
    (d.0 ∙ ap (printing 0) long, d.1.1 ∙ ap₂ (λ (b : List ℕ) (n : ℕ). b ++ drop n out) text long)

-- ---- P for some steps

p_one_step : (before after : List ℕ) (r : Partly) → 48 ≤ length before → PartlyAnswered file_p 1 before after r
    → (r ≡ part 0 8 3 (place 6 1 0 ∷ place 7 1 1 ∷ place 2 16 1 ∷ replicate 77 (place 0 0 0))) × (after ≡ take 48 words_p ++ drop 48 before)
unfolding written_to
p_one_step before after r h x =
    let n = numbers.p_one_nodes in
    let d = x.done P drafts-held.p_held (omega arith) (rw n (room 8 before h)) in
    (d.0 ∙ P-one-done, d.1 ∙ ap₂ (λ (words : List ℕ) (k : ℕ). words ++ drop (node_width * k) before) P-one-words n)

p_three_steps : (before after : List ℕ) (r : Partly) → PartlyAnswered file_p 3 before after r → (r ≡ part 9 0 0 (replicate list_places (place 0 0 0))) × (after ≡ before)
unfolding refused_partly
p_three_steps before after r x = x.too_far P drafts-held.p_held (omega arith)

p_bound : (held : Held) → verdict file_p ≡ holds held → bound_of held ≡ 17
p_bound held e = let e' = drafts-held.p_held in let same : held ≡ P = cc in ap bound_of same ∙ numbers.p_bound

-- ---- the list

pub worked_drafts : WorkedDrafts
worked_drafts =
    record {
      p_whole = p_whole;
      p_in_60 = p_in_60;
      p_size = P-measured;
      p_listing = P-listed;
      p_printed = p_printed;
      p_bound = p_bound;
      p_one_step = p_one_step;
      p_in_59 = p_in_59;
      p_three_steps = p_three_steps;
      p_100 = p_100;
      p_11000 = p_11000;
      p_10100 = p_10100;
      p_0 = p_0;
      p_10 = p_10;
      p_00 = p_00;
      p_none = p_none;
      pairs_gives = gives file_pairs pairs drafts-held.pairs_held 7 8 numbers.pairs_gives;
      pairs_denotes = denotes-just file_pairs pairs drafts-held.pairs_held Pairs four;
      nested_gives = gives file_nested nested drafts-held.nested_held 5 6 numbers.nested_gives;
      nested_denotes = denotes-tree file_nested nested drafts-held.nested_held _ nested_denotes;
      endless_gives = gives file_endless endless drafts-held.endless_held 4 5 numbers.endless_gives;
      endless_denotes = denotes-just file_endless endless drafts-held.endless_held (λ t. ⊥) (λ t. (endless_denotes t, λ x. absurd x));
      rowless_gives = gives file_rowless rowless drafts-held.rowless_held 0 2 numbers.rowless_gives;
      rowless_denotes = denotes-just file_rowless rowless drafts-held.rowless_held (λ t. ⊥) (λ t. (rowless_denotes t, λ x. absurd x));
      finalless_gives = gives file_finalless finalless drafts-held.finalless_held 0 3 numbers.finalless_gives;
      finalless_denotes = denotes-just file_finalless finalless drafts-held.finalless_held (λ t. ⊥) (λ t. (finalless_denotes t, λ x. absurd x));
      unused_gives = gives file_unused unused drafts-held.unused_held 9 10 numbers.unused_gives;
      unused_denotes = denotes-just file_unused unused drafts-held.unused_held (λ t. t ≡ over 2 (leaf 0)) unused_denotes;
      order_whole = leaves file_order order drafts-held.order_held 9 10 numbers.order_gives words_order numbers.order_words;
      order_denotes = denotes-just file_order order drafts-held.order_held (Chain (0 ∷ 1 ∷ []) (2 ∷ 3 ∷ [])) order_denotes;
      grouping_whole = leaves file_grouping grouping drafts-held.grouping_held 13 14 numbers.grouping_gives words_grouping numbers.grouping_words;
      grouping_denotes = denotes-just file_grouping grouping drafts-held.grouping_held (Chain (0 ∷ 1 ∷ 2 ∷ []) (3 ∷ 4 ∷ 5 ∷ [])) grouping_denotes;
    }
