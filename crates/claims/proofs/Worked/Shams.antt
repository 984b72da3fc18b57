-- The shams keep no promise.
use Prim.Native.Nat.{ℕ, ◌+◌, ◌*◌, ◌≤◌, ◌<◌}
use native.Mathlib.Omega.{arith}
use mathlib.Core.Path.{◌≡◌, refl, sym, ◌∙◌, ap, subst}
use mathlib.Core.List.{List, [], ◌++◌}
use lib.ListN.{length, drop, replicate, get_or, length-replicate, get_or-replicate}
use lib.Seq.{get_or-drop}
use Rattle.automaton.specs.declared.Reading.{Reading}
use Rattle.automaton.specs.Checks.{Verdict, record_found, verdict_from, verdict}
use Rattle.automaton.specs.Answers.{reading_of, read_answer}
use Rattle.trees.specs.declared.ReachedStates.{ReachedStates}
use Rattle.expressions.specs.declared.Measured.{Measured}
use Rattle.expressions.specs.Words.{node_width, words_of}
use Rattle.expressions.specs.Soundness.{Sound}
use Rattle.expressions.specs.Answers.{Measures, measured}
use Rattle.elimination.specs.declared.Partly.{Partly}
use Rattle.elimination.specs.declared.Wholly.{Wholly}
use Rattle.theory.specs.Stages.{stage_after}
use Rattle.elimination.specs.Answers.{written_to, unused_place, partly_done, PartlyAnswered, WhollyAnswered}
use Rattle.claims.proofs.Worked.Drafts.{P, pairs, exchanged, numbers}
use Rattle.claims.specs.DraftFiles.{file_p, file_pairs, file_exchanged}
use Rattle.claims.specs.WorkedDrafts.{whole, words_p}
use Rattle.claims.specs.Shams.{ListsDiffer, TablesDiffer, NoSham}
use Rattle.claims.proofs.Worked.DraftsHeld.{drafts-held}
use Rattle.claims.proofs.Worked.DraftTables.{P-none-first, P-one-first, P-both-first}
use Rattle.claims.proofs.Worked.WorkedDrafts.{room, leaves, P-sound as P-is-sound, worked_drafts}
use Rattle.claims.proofs.Outcomes.KeptConversions.{wholly-kept}
use Rattle.claims.proofs.Computing.ComputedStages.{stage_cases}

count : {r s : Wholly} → r ≡ s → r.nodes ≡ s.nodes
count e = ap (λ (a : Wholly). a.nodes) e

-- ---- words at a place

word : (i : ℕ) {xs ys : List ℕ} → xs ≡ ys → get_or xs i 0 ≡ get_or ys i 0
word i e = ap (λ (l : List ℕ). get_or l i 0) e

P-label : (rest : List ℕ) → get_or (words_p ++ rest) 25 0 ≡ 513
unfolding words_p
P-label rest = refl

P-first-label : (rest : List ℕ) → get_or (words_p ++ rest) 19 0 ≡ 0
unfolding words_p
P-first-label rest = refl

-- in words that were 0
abbrev zeros : ℕ → List ℕ
zeros n = replicate n 0

rest-zero : (n k : ℕ) → k < n → get_or (drop k (zeros n)) 0 0 ≡ 0
rest-zero n k h = get_or-drop k (zeros n) 0 0 ∙ get_or-replicate n (k + 0) 0 0 (omega arith)

-- ---- one table for all files

fixed_table : (before after other : List ℕ) (r s : Wholly) → 60 ≤ length before → 60 ≤ length other
    → WhollyAnswered file_p before after r → WhollyAnswered file_pairs other after s → ⊥
fixed_table before after other r s h k x y =
    let p = (worked_drafts.p_whole before after r h x).1 in
    let q = (leaves file_pairs pairs drafts-held.pairs_held 7 8 numbers.pairs_gives _ refl other after s (omega arith) y).1 in
    let e = sym (P-label (drop 60 before)) ∙ word 25 (sym p ∙ q) ∙ numbers.pairs_label (drop 48 other) in
    omega arith

same_numbers : (before after other words : List ℕ) (r s : Wholly) → 60 ≤ length before → 60 ≤ length other
    → WhollyAnswered file_p before after r → WhollyAnswered file_exchanged other words s → (r ≡ s) × (after ≡ words → ⊥)
same_numbers before after other words r s h k x y =
    let p = worked_drafts.p_whole before after r h x in
    let q = leaves file_exchanged exchanged drafts-held.exchanged_held 9 10 numbers.exchanged_gives _ refl other words s k y in (
      p.0 ∙ sym q.0,
      λ same. let e = sym (P-first-label (drop 60 before)) ∙ word 19 (sym p.1 ∙ same ∙ q.1) ∙ numbers.exchanged_label (drop 60 other) in omega arith,
    )

-- ---- a list or a table left as it was

-- how many nodes P has after none, one and both of its states
after-0 : length (stage_after 0 P).table ≡ 6
after-0 = stage_cases.p_start.0

after-1 : length (stage_after 1 P).table ≡ 8
after-1 = numbers.p_one_nodes

after-2 : length (stage_after 2 P).table ≡ 10
after-2 = stage_cases.p_both.0

module _ (k n : ℕ) (near : k ≤ 2) (e : length (stage_after k P).table ≡ n) (few : n ≤ 10) where
  stopped : (before after : List ℕ) (r : Partly) → 60 ≤ length before → PartlyAnswered file_p k before after r
      → (r ≡ partly_done (stage_after k P)) × (after ≡ words_of (stage_after k P).table ++ drop (node_width * n) before)
  unfolding written_to
  stopped before after r h x =
      let d = x.done P drafts-held.p_held near (rw e (room n before (omega arith))) in
      (d.0, d.1 ∙ ap (λ (m : ℕ). words_of (stage_after k P).table ++ drop (node_width * m) before) e)

-- the node of the first row
abbrev first : Partly → ℕ
first r = (get_or r.list 0 unused_place).node

module _ (k j n m : ℕ) (near : k ≤ 2) (far : j ≤ 2) (e : length (stage_after k P).table ≡ n) (d : length (stage_after j P).table ≡ m) (few : n ≤ 10) (some : m ≤ 10) where
  lists-differ : (a b : ℕ) → first (partly_done (stage_after k P)) ≡ a → first (partly_done (stage_after j P)) ≡ b → (a ≡ b → ⊥) → ListsDiffer k j
  lists-differ a b p q apart before after other words r s h l x y same =
      let u = (stopped k n near e few before after r h x).0 in
      let v = (stopped j m far d some other words s l y).0 in
      apart (sym p ∙ sym (ap first u) ∙ ap (λ (list : _). (get_or list 0 unused_place).node) same ∙ ap first v ∙ q)

  -- the first word past the table of the one stop is a word of the other's
  tables-differ : (kind : ℕ) → ((rest : List ℕ) → get_or (words_of (stage_after k P).table ++ rest) (node_width * n) 0 ≡ get_or rest 0 0)
      → ((rest : List ℕ) → get_or (words_of (stage_after j P).table ++ rest) (node_width * n) 0 ≡ kind) → 1 ≤ kind → n < 10 → TablesDiffer k j
  tables-differ kind p q some-kind less c after words r s h x y same =
      let long : 60 ≤ length (zeros c) = rw (length-replicate {A = ℕ} c 0) h in
      let u = (stopped k n near e few (zeros c) after r long x).1 in
      let v = (stopped j m far d some (zeros c) words s long y).1 in
      let z = rest-zero c (node_width * n) (omega arith) in
      let w = sym (p (drop (node_width * n) (zeros c))) ∙ word (node_width * n) (sym u ∙ same ∙ v) ∙ q (drop (node_width * m) (zeros c)) in
      omega arith

-- ---- a full conversion of P in 60 words, all of them 0

P-made : (r : Wholly) × WhollyAnswered file_p (replicate 60 0) words_p r × (r ≡ whole 0 10 9)
P-made =
    let c = wholly-kept file_p (replicate 60 0) in
    let d = worked_drafts.p_in_60 (replicate 60 0) c.0 c.1 refl c.2 in
    (c.1, subst (λ (w : List ℕ). WhollyAnswered file_p (replicate 60 0) w c.1) d.1 c.2, d.0)

P-sound : Sound words_p 10 9
P-sound =
    let c = P-made in
    let s = P-is-sound (replicate 60 0) words_p c.0 (omega arith) c.1 in
    subst (λ (a : Wholly). Sound words_p a.nodes a.answer) c.2 s

size-12 : (before after : List ℕ) (n : ℕ) → 10 ≤ length before → Measures words_p 10 9 before after (measured 0 n) → n ≡ 12
size-12 before after n h m =
    let c = P-made in
    let m' : Measures words_p c.0.nodes c.0.answer before after (measured 0 n) = subst (λ (a : Wholly). Measures words_p a.nodes a.answer before after (measured 0 n)) (sym c.2) m in
    ap (λ (a : Measured). a.size) (worked_drafts.p_size (replicate 60 0) words_p before after c.0 (measured 0 n) (omega arith) c.1 h m').0

-- ---- a constant reader

P-reads : (read_answer file_p).refusal.number ≡ 0
unfolding read_answer reading_of
P-reads = ap (λ (v : Verdict). (reading_of v).refusal.number) drafts-held.p_held

nothing-reads : (read_answer []).refusal.number ≡ 1
unfolding read_answer reading_of verdict verdict_from record_found
nothing-reads = refl

pub no_sham : NoSham
no_sham =
    record {
      refuses_all = λ before after number h x. let e = count (worked_drafts.p_whole before after (whole number 0 0) h x).0 in omega arith;
      fixed_table = fixed_table;
      same_numbers = same_numbers;
      list_as_found = lists-differ 0 1 6 8 (omega arith) (omega arith) after-0 after-1 (omega arith) (omega arith) 3 6 P-none-first P-one-first (λ e. omega arith);
      table_as_found = tables-differ 0 1 6 8 (omega arith) (omega arith) after-0 after-1 (omega arith) (omega arith) 4 numbers.p_none_6 numbers.p_one_6 (omega arith) (omega arith);
      first_state_only = lists-differ 1 2 8 10 (omega arith) (omega arith) after-1 after-2 (omega arith) (omega arith) 6 9 P-one-first P-both-first (λ e. omega arith);
      first_table_only = tables-differ 1 2 8 10 (omega arith) (omega arith) after-1 after-2 (omega arith) (omega arith) 5 numbers.p_one_8 numbers.p_both_8 (omega arith) (omega arith);
      invented_count = λ before after n answer h x. count (worked_drafts.p_whole before after (whole 0 n answer) h x).0;
      invented_size = size-12;
      constant_run = λ r x y.
          let e = ap (λ (a : ReachedStates). a.states.0) (worked_drafts.p_100 r x) in
          let d = ap (λ (a : ReachedStates). a.states.0) (worked_drafts.p_0 r y) in
          omega arith;
      constant_reader = λ r x y. let e = ap (λ (a : Reading). a.refusal.number) (sym x ∙ y) in omega (arith, P-reads, nothing-reads);
      constant_check = λ r x y. let h = (y.only (x.always P-sound)).within in omega arith;
    }
