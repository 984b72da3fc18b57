-- What stands after a conversion, at every stop and at the end.
use Prim.Native.Nat.{ℕ, ◌*◌, ◌≤◌, ◌<◌}
use native.Mathlib.Omega.{arith}
use native.Mathlib.Decide.{dec_lt}
use mathlib.Core.Path.{◌≡◌, refl, sym, ◌∙◌, ap, subst}
use mathlib.Core.Bool.{Bool, true, false}
use mathlib.Core.Logic.{◌⊎◌, inl, inr, ◌↔◌}
use mathlib.Core.List.Memᴰ
use mathlib.Core.List.{List, [], ◌∷◌, ◌++◌, map, Memᴰ}
use lib.ListN.{length, drop, length-map}
use Rattle.sets.specs.Members.{has, size, state_width}
use Rattle.automaton.specs.Held.{Held, Valid}
use Rattle.automaton.specs.Checks.{verdict, holds}
use Rattle.automaton.proofs.Files.Pair.{verdict-valid}
use Rattle.ground.proofs.Places.{filled-take}
use Rattle.trees.specs.declared.ReachedStates.{ReachedStates}
use Rattle.meaning.specs.Trees.{Tree}
use Rattle.trees.specs.Words.{IsTree}
use Rattle.trees.specs.Runs.{Accepted}
use Rattle.trees.specs.Promises.{RunPromise}
use Rattle.expressions.specs.declared.Measured.{Measured}
use Rattle.automaton.specs.declared.Extent.{Extent}
use Rattle.meaning.specs.Expressions.{Denotes}
use Rattle.expressions.specs.Nodes.{Table, node_at}
use Rattle.expressions.specs.Words.{node_width, table_of, words_of}
use Rattle.expressions.specs.Unfolding.{expr_at}
use Rattle.expressions.specs.Soundness.{Sound}
use Rattle.expressions.specs.Answers.{SoundAnswer, Measures}
use Rattle.listing.specs.Answers.{Lists, listing_of}
use Rattle.expressions.proofs.Words.{table-words}
use Rattle.elimination.specs.declared.ListRow.{ListRow}
use Rattle.elimination.specs.declared.Partly.{Partly}
use Rattle.elimination.specs.declared.Wholly.{Wholly}
use Rattle.theory.specs.RowLists.{ExprRow, final_target, list_places}
use Rattle.theory.specs.Acceptance.{Accepts}
use Rattle.theory.specs.declared.NodeRow.{NodeRow}
use Rattle.theory.specs.Stages.{Stage, unfolded_row, unfolded_rows, stage_after, waits_for, bound_of}
use Rattle.elimination.specs.Answers.{whole_nodes, written_to, unused_place, list_row, list_of_rows, partly_done, PartlyAnswered, made_answered, WhollyAnswered}
use Rattle.theory.specs.Theorem.{PartlyConverted}
use Rattle.theory.proofs.Counting.Bound.{start-room, start_rows, finals-count, bound-file}
use Rattle.theory.proofs.Theorem.{partly-ascending}
use Rattle.elimination.proofs.OnWords.{stage-words-sound}
use Rattle.elimination.proofs.Outcomes.{partly-fits, wholly-fits, wholly-sound}
use Rattle.front.specs.Answers.{most_made}
use Rattle.claims.specs.Conversions.{reported, row_in, Stopped, Ended, ConvertsFaithfully}
use Rattle.claims.proofs.Meaning.Done.{whole_room, part-near, part_room}

-- ---- at every stop

module _ (held : Held) (v : Valid held) (k : ℕ) (near : k ≤ held.states) (stage : Stage) (p : PartlyConverted held (λ q. q < k) stage) (rest : List ℕ) where
  words : List ℕ
  words = words_of stage.table ++ rest

  -- the table that stands in the words
  is : table_of words (length stage.table) ≡ stage.table
  unfolding words
  is = table-words stage.table rest

  -- the rows that the answer reports
  rows : reported (partly_done stage) ≡ map (list_row stage.table) stage.rows
  unfolding partly_done list_of_rows
  rows = filled-take list_places unused_place (map (list_row stage.table) stage.rows) (length stage.rows) (sym (length-map stage.rows (list_row stage.table)))

  -- their meaning
  meant : (table : Table) (count : ℕ) (list : List NodeRow) → map (row_in words count) (map (list_row table) list) ≡ map (unfolded_row (table_of words count)) list
  unfolding list_row
  meant table count [] = refl
  meant table count (row ∷ list) = ap (unfolded_row (table_of words count) row ∷◌) (meant table count list)

  -- what holds of each row of the stage, as it is reported, holds of each reported row
  each_row : (P : ListRow → Type 0) → ((r : NodeRow) → Memᴰ r stage.rows → P (list_row stage.table r)) → (row : ListRow) → Memᴰ row (reported (partly_done stage)) → P row
  each_row P h row m = let c = Memᴰ.of_map (list_row stage.table) stage.rows (rw rows at m) in subst P c.2 (h c.0 c.1)

  left : (r : NodeRow) → Memᴰ r stage.rows → k ≤ r.target
  left r m = go (p.aimed r m)
    where
      go : ((r.target < held.states) × (r.target < k → ⊥)) ⊎ (r.target ≡ final_target) → k ≤ r.target
      go (inl x) = let n = x.1 in omega arith
      go (inr e) = let h = v.few_states in omega arith

  as-unfolded : map (row_in words (length stage.table)) (reported (partly_done stage)) ≡ unfolded_rows stage
  unfolding unfolded_rows
  as-unfolded =
      ap (map (row_in words (length stage.table))) rows ∙ meant stage.table (length stage.table) stage.rows
      ∙ ap (λ (t : Table). map (unfolded_row t) stage.rows) is

  sound-at : (r : NodeRow) → Memᴰ r stage.rows → Sound words (length stage.table) r.node
  unfolding words
  sound-at r m = stage-words-sound held v rest (λ q. q < k) stage p r m

  stop : Stopped held k words (partly_done stage)
  unfolding partly_done list_row waits_for
  stop =
      record {
        accepts = λ t. subst (λ (list : List ExprRow). Accepts list t ↔ Accepted held t) (sym as-unfolded) (p.accepts t);
        not_open = each_row (λ row. (q : ℕ) → q < k → has (node_at (table_of words (length stage.table)) row.node).opens q ≡ false) (λ r m q h. rw is (p.not_open r m q h));
        not_aimed = each_row (λ row. k ≤ row.target) left;
        waits = each_row (λ row. row.waits ≡ size state_width (node_at (table_of words (length stage.table)) row.node).opens) (λ r m. rw is);
        no_more_rows = omega (arith, p.no_more_rows, start_rows held);
        all_reported = ap length rows ∙ length-map stage.rows (list_row stage.table);
        sound = each_row (λ row. (s : Bool) → SoundAnswer words (length stage.table) row.node s → s ≡ true) (λ r m s d. d.always (sound-at r m));
      }

stopped : (file : List ℕ) (k : ℕ) (before after : List ℕ) (r : Partly) → PartlyAnswered file k before after r → r.refusal.number ≡ 0
    → (held : Held) → verdict file ≡ holds held → Stopped held k after r
unfolding written_to words
stopped file k before after r x z held e =
    let near = part-near file k before after r x held e z in
    let d = x.done held e near (part_room file k before after r x held e near z) in
    let v = verdict-valid file held e in
    let table = (stage_after k held).table in
    let s = stop held v k near (stage_after k held) (partly-ascending held v k near) (drop (node_width * length table) before) in
    subst (λ (w : List ℕ). Stopped held k w r) (sym d.1) (subst (λ (a : Partly). Stopped held k (written_to before table) a) (sym d.0) s)

-- ---- at the end

-- neither measuring nor listing refuses a sound table 8
measure-fine : (words : List ℕ) (count answer : ℕ) → Sound words count answer → (before after : List ℕ) (m : Measured) → Measures words count answer before after m → m.refusal.number ≡ 8 → ⊥
measure-fine words count answer sound before after m x n = go (dec_lt (length before) count)
  where
    go : Dec (length before < count) → ⊥
    go (yes l) = omega (arith, ap (λ (a : Measured). a.refusal.number) (x.short sound l).0)
    go (no l) = omega (arith, ap (λ (a : Measured). a.refusal.number) (x.done sound (omega arith)).0)

list-fine : (words : List ℕ) (count answer : ℕ) → Sound words count answer → (before after : List ℕ) (l : Extent) → Lists words count answer before after l → l.refusal.number ≡ 8 → ⊥
list-fine words count answer sound before after l x n = go (dec_lt (length before) (length (listing_of words count answer)))
  where
    go : Dec (length before < length (listing_of words count answer)) → ⊥
    go (yes h) = omega (arith, ap (λ (a : Extent). a.refusal.number) (x.short sound h).0)
    go (no h) = omega (arith, ap (λ (a : Extent). a.refusal.number) (x.done sound (omega arith)).0)

ended : (file before after : List ℕ) (r : Wholly) → WhollyAnswered file before after r → r.refusal.number ≡ 0
    → (held : Held) → verdict file ≡ holds held → Ended held after r
unfolding made_answered
ended file before after r x z held e =
    let l = whole_room file before after r x held e z in
    let sound = wholly-sound file before after r x held e l in
    record {
      denotes = (x.means held e l).denotes;
      sound = λ s d. d.always sound;
      measured = measure-fine after r.nodes r.answer sound;
      listed = list-fine after r.nodes r.answer sound;
    }

agree : (file before after : List ℕ) (r : Wholly) → WhollyAnswered file before after r → r.refusal.number ≡ 0
    → (held : Held) → verdict file ≡ holds held → (words : List ℕ) (tree : Tree) → IsTree held words tree → (s : ReachedStates) → RunPromise file words s
    → (s.yes ≡ true) ↔ Denotes (expr_at (table_of after r.nodes) r.answer) tree
agree file before after r x z held e words tree is s p =
    let yes-is = (p.one_tree held tree e is).accepted in
    let denoted = (ended file before after r x z held e).denotes tree in
    (λ y. denoted.1 (yes-is.0 y), λ d. yes-is.1 (denoted.0 d))

-- ---- room

module _ (file : List ℕ) (held : Held) (e : verdict file ≡ holds held) where
  most : bound_of held ≤ most_made
  most = bound-file held (verdict-valid file held e)

  room : (before after : List ℕ) (r : Wholly) → WhollyAnswered file before after r → bound_of held ≤ whole_nodes before → r.refusal.number ≡ 0
  room before after r x h = wholly-fits file before after r x held e h

  partly_room : (k : ℕ) (before after : List ℕ) (r : Partly) → PartlyAnswered file k before after r → k ≤ held.states → bound_of held ≤ whole_nodes before → r.refusal.number ≡ 0
  partly_room k before after r x near h = partly-fits file k before after r x held e near h

pub converts_faithfully : ConvertsFaithfully
converts_faithfully =
    record {
      stopped = stopped;
      ended = ended;
      agree = agree;
      start_rows = start_rows;
      start_nodes = λ file held e. start-room held (verdict-valid file held e);
      finals_counted = λ file held e. finals-count held (verdict-valid file held e);
      room = λ file before after r x held e h. room file held e before after r x h;
      partly_room = λ file k before after r x held e near h. partly_room file held e k before after r x near h;
      most = λ file held e. most file held e;
      most_room = λ file before after r x held e h. room file held e before after r x (omega (arith, most file held e));
      partly_most_room = λ file k before after r x held e near h. partly_room file held e k before after r x near (omega (arith, most file held e));
    }
