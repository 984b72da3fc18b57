-- The words cut into nodes: the same nodes as those that are read at their places.
use Prim.Native.Nat.{ℕ, zero, suc, ◌+◌, ◌*◌, ◌/◌, ◌<◌, ◌≤◌}
use native.Mathlib.Omega.{arith}
use native.Mathlib.Decide.{dec_lt}
use mathlib.Core.Path.{◌≡◌, refl, sym, ◌∙◌, ap}
use mathlib.Core.List.{List, [], ◌∷◌}
use lib.ListN.{length, take, drop, length-take, get_or-eq_default}
use lib.Seq.{drop-drop, ext_get_or, get_or-take, take_all}
use Rattle.std.proofs.lemmas.List.{take-map}
use Rattle.std.specs.Simd.{first_chunks}
use Rattle.expressions.specs.Nodes.{no_node, node_at}
use Rattle.expressions.specs.Words.{node_width, decode, read_node, node_in, table_of}
use Rattle.expressions.specs.Inside.{nodes_of}
use Rattle.expressions.proofs.Words.{node-whole, node-past, length-table, table_at, table_same}

-- only its own words count
decode-front : (words : List ℕ) → decode (take node_width words) ≡ decode words
unfolding decode
decode-front [] = refl
decode-front (a ∷ []) = refl
decode-front (a ∷ b ∷ []) = refl
decode-front (a ∷ b ∷ c ∷ []) = refl
decode-front (a ∷ b ∷ c ∷ d ∷ []) = refl
decode-front (a ∷ b ∷ c ∷ d ∷ e ∷ []) = refl
decode-front (a ∷ b ∷ c ∷ d ∷ e ∷ f ∷ words) = refl

many : (count : ℕ) (words : List ℕ) → length (nodes_of (first_chunks node_width count words)) ≡ count
many zero words = refl
many (suc count) words = ap suc (many count (drop node_width words))

chunk_at : (count i : ℕ) (words : List ℕ) → i < count → node_at (nodes_of (first_chunks node_width count words)) i ≡ read_node words i
unfolding read_node
chunk_at zero i words h = absurd (omega arith)
chunk_at (suc count) zero words h = decode-front words
chunk_at (suc count) (suc i) words h =
    let e : node_width + node_width * i ≡ node_width * suc i = omega arith in
    chunk_at count i (drop node_width words) (omega arith)
    ∙ ap decode (drop-drop (node_width * i) node_width words ∙ ap (λ (k : ℕ). drop k words) e)

module _ (words : List ℕ) where
  -- the nodes that the words hold whole
  abbrev pub whole : List (List ℕ)
  whole = first_chunks node_width (length words / node_width) words

  -- node i of them, or the empty node
  pub node-chunk : (i : ℕ) → node_at (nodes_of whole) i ≡ node_in words i
  node-chunk i = go (dec_lt i (length words / node_width))
    where
      go : Dec (i < length words / node_width) → node_at (nodes_of whole) i ≡ node_in words i
      go (yes h) = chunk_at (length words / node_width) i words h ∙ sym (node-whole words i (omega arith))
      go (no n) = get_or-eq_default (nodes_of whole) no_node (omega (arith, many (length words / node_width) words)) ∙ sym (node-past words i (omega arith))

  -- the first so many of them are the table
  pub table-chunks : (count : ℕ) → count ≤ length words / node_width → nodes_of (take count whole) ≡ table_of words count
  table-chunks count h =
      sym (take-map decode count whole)
      ∙ ext_get_or no_node (take count (nodes_of whole)) (table_of words count) size
      (λ i l.
      let k : i < count = omega (arith, size, length-table words count) in
      get_or-take count (nodes_of whole) i no_node k
      ∙ chunk_at (length words / node_width) i words (omega arith)
      ∙ sym (table_at words count i k))
    where
      size : length (take count (nodes_of whole)) ≡ length (table_of words count)
      size = simp length-take (omega (arith, length-table words count, many (length words / node_width) words))

-- the nodes in the words before a node's place are the table so far
pub table-front : (words : List ℕ) (count : ℕ) {front : List ℕ} → front ≡ take (node_width * count) words → length front ≡ node_width * count
    → nodes_of (whole front) ≡ table_of words count
table-front words count {front} e l =
    sym (take_all count (nodes_of (whole front)) (omega (arith, many (length front / node_width) front)))
    ∙ take-map decode count (whole front)
    ∙ table-chunks front count (omega arith)
    ∙ table_same front words count (λ j h. rw e (get_or-take (node_width * count) words j 0 h))
