-- The laws of nodes as words: a node is read where it was written, and a table from the words that hold it.
use Prim.Native.Nat.{ℕ, zero, suc, ◌+◌, ◌*◌, ◌<◌, ◌≤◌}
use native.Mathlib.Omega.{arith}
use native.Mathlib.Decide.{dec_lt}
use native.Mathlib.Nat.{add-zero}
use mathlib.Core.Path.{◌≡◌, refl, sym, ◌∙◌, ap, ap₂}
use mathlib.Core.List.{List, [], ◌∷◌, ◌++◌, append_assoc, append-nil}
use lib.ListN.{length, get_or, take, drop, length-append, length-drop, get_or-append}
use lib.Seq.{get_or-append_seam, get_or-drop, get_or-take, ext_get_or, take_at, drop_at, drop-drop, length-take-le, take-add}
use borrow.Author.Tests.{le-leb, lt-leb}
use Rattle.expressions.specs.declared.Node.{Node}
use Rattle.expressions.specs.Nodes.{Table, no_node, node_at}
use Rattle.expressions.specs.Words.{node_width, encode, decode, read_node, node_in, table_of, words_of, put_node}

-- ---- one node

pub decode-encode : (node : Node) (rest : List ℕ) → decode (encode node ++ rest) ≡ node
unfolding decode encode
decode-encode node rest = refl

pub length-encode : (node : Node) → length (encode node) ≡ node_width
unfolding encode
length-encode node = refl

-- the words that a node is read from
pub front-words : (words : List ℕ) → node_width ≤ length words → encode (decode words) ≡ take node_width words
unfolding decode encode
front-words [] h = absurd (omega arith)
front-words (a ∷ []) h = absurd (omega arith)
front-words (a ∷ b ∷ []) h = absurd (omega arith)
front-words (a ∷ b ∷ c ∷ []) h = absurd (omega arith)
front-words (a ∷ b ∷ c ∷ d ∷ []) h = absurd (omega arith)
front-words (a ∷ b ∷ c ∷ d ∷ e ∷ []) h = absurd (omega arith)
front-words (a ∷ b ∷ c ∷ d ∷ e ∷ f ∷ words) h = refl

-- ---- a node of the words

-- node i is the six words from 6 * i
pub read-words : (words : List ℕ) (i : ℕ)
    → read_node words i
    ≡ record {
      shape =
          record {
            kind = get_or words (node_width * i) 0;
            label = get_or words (node_width * i + 1) 0;
            first = get_or words (node_width * i + 2) 0;
            second = get_or words (node_width * i + 3) 0;
            third = get_or words (node_width * i + 4) 0;
          };
      opens = get_or words (node_width * i + 5) 0;
    }
unfolding read_node decode
read-words words i = simp (get_or-drop, add-zero)

-- of any words: the node where they hold it whole, and else the empty node
pub node-whole : (words : List ℕ) (i : ℕ) → node_width * suc i ≤ length words → node_in words i ≡ read_node words i
unfolding node_in
node-whole words i h = rw (le-leb (node_width * suc i) (length words) h)

pub node-past : (words : List ℕ) (i : ℕ) → length words < node_width * suc i → node_in words i ≡ no_node
unfolding node_in
node-past words i h = rw (lt-leb (node_width * suc i) (length words) h)

-- ---- a table of the words

pub length-table : (words : List ℕ) (count : ℕ) → length (table_of words count) ≡ count
unfolding table_of
length-table words zero = refl
length-table words (suc count) = omega (arith, length-append (table_of words count) (read_node words count ∷ []), length-table words count)

pub table_at : (words : List ℕ) (count i : ℕ) → i < count → node_at (table_of words count) i ≡ read_node words i
unfolding table_of
table_at words zero i h = absurd (omega arith)
table_at words (suc count) i h = go (dec_lt i count) (table_at words count i)
  where
    go : Dec (i < count) → (i < count → node_at (table_of words count) i ≡ read_node words i) → node_at (table_of words count ++ (read_node words count ∷ [])) i ≡ read_node words i
    go (yes l) f = get_or-append (table_of words count) (read_node words count ∷ []) no_node i (omega (arith, length-table words count)) ∙ f l
    go (no l) f =
        let e : i ≡ length (table_of words count) = omega (arith, length-table words count) in
        let e' : count ≡ i = omega arith in
        ap (λ (j : ℕ). node_at (table_of words count ++ (read_node words count ∷ [])) j) e ∙ get_or-append_seam (table_of words count) (read_node words count) [] no_node ∙ ap (read_node words) e'

pub table-suc : (words : List ℕ) (count : ℕ) → table_of words (suc count) ≡ table_of words count ++ (read_node words count ∷ [])
unfolding table_of
table-suc words count = refl

pub table_more : (words : List ℕ) (count : ℕ) → table_of words (count + 1) ≡ table_of words count ++ (read_node words count ∷ [])
table_more words count = rw native.Mathlib.Numerals.add-one (table-suc words count)

-- the first of the nodes
pub take-table : (words : List ℕ) (count i : ℕ) → i ≤ count → take i (table_of words count) ≡ table_of words i
take-table words count i h =
    let l : length (take i (table_of words count)) ≡ i = length-take-le i (table_of words count) (omega (arith, length-table words count)) in
    ext_get_or no_node (take i (table_of words count)) (table_of words i) (l ∙ sym (length-table words i))
    (λ j k.
    let below : j < i = omega arith in
    get_or-take i (table_of words count) j no_node below ∙ table_at words count j (omega arith) ∙ sym (table_at words i j below))

-- words that agree as far as a node have the same node
pub read_same : (words others : List ℕ) (i : ℕ) → ((j : ℕ) → j < node_width * suc i → get_or words j 0 ≡ get_or others j 0) → read_node words i ≡ read_node others i
read_same words others i h =
    read-words words i
    ∙ (λ x. record {
      shape =
          record {
            kind = h (node_width * i) (omega arith) x;
            label = h (node_width * i + 1) (omega arith) x;
            first = h (node_width * i + 2) (omega arith) x;
            second = h (node_width * i + 3) (omega arith) x;
            third = h (node_width * i + 4) (omega arith) x;
          };
      opens = h (node_width * i + 5) (omega arith) x;
    })
    ∙ sym (read-words others i)

pub table_same : (words others : List ℕ) (count : ℕ) → ((j : ℕ) → j < node_width * count → get_or words j 0 ≡ get_or others j 0) → table_of words count ≡ table_of others count
unfolding table_of
table_same words others zero h = refl
table_same words others (suc count) h =
    ap₂ (λ (x : Table) (y : Node). x ++ (y ∷ [])) (table_same words others count (λ j l. h j (omega arith))) (read_same words others count h)

-- ---- a node written

module _ (words : List ℕ) (i : ℕ) (node : Node) (room : node_width * suc i ≤ length words) where
  front : length (take (node_width * i) words) ≡ node_width * i
  front = length-take-le (node_width * i) words (omega arith)

  pub length-put : length (put_node words i node) ≡ length words
  unfolding put_node
  length-put =
      omega (
        arith,
        front,
        length-encode node,
        length-append (take (node_width * i) words) (encode node ++ drop (node_width * suc i) words),
        length-append (encode node) (drop (node_width * suc i) words),
        length-drop (node_width * suc i) words,
      )

  pub put-below : (j : ℕ) → j < node_width * i → get_or (put_node words i node) j 0 ≡ get_or words j 0
  unfolding put_node
  put-below j h =
      get_or-append (take (node_width * i) words) (encode node ++ drop (node_width * suc i) words) 0 j (omega (arith, front))
      ∙ get_or-take (node_width * i) words j 0 h

  pub read-put : read_node (put_node words i node) i ≡ node
  unfolding read_node put_node
  read-put =
      ap decode (drop_at (take (node_width * i) words) (encode node ++ drop (node_width * suc i) words) (node_width * i) front)
      ∙ decode-encode node (drop (node_width * suc i) words)

  -- one node more
  pub table-put : table_of (put_node words i node) (suc i) ≡ table_of words i ++ (node ∷ [])
  table-put =
      table-suc (put_node words i node) i
      ∙ ap₂ (λ (x : Table) (y : Node). x ++ (y ∷ [])) (table_same (put_node words i node) words i put-below) read-put

-- ---- a table's words

pub length-words : (table : Table) → length (words_of table) ≡ node_width * length table
unfolding words_of
length-words [] = refl
length-words (node ∷ nodes) = omega (arith, length-append (encode node) (words_of nodes), length-encode node, length-words nodes)

pub words_snoc : (table : Table) (node : Node) → words_of (table ++ (node ∷ [])) ≡ words_of table ++ encode node
unfolding words_of
words_snoc [] node = append-nil (encode node)
words_snoc (n ∷ table) node = ap (λ (l : List ℕ). encode n ++ l) (words_snoc table node) ∙ sym (append_assoc (encode n) (words_of table) (encode node))

-- the node after a table's words
pub put-words : (table : Table) (node : Node) (rest : List ℕ) → put_node (words_of table ++ rest) (length table) node ≡ words_of (table ++ (node ∷ [])) ++ drop node_width rest
unfolding put_node
put-words table node rest =
    let l = length-words table in
    let e : node_width * suc (length table) ≡ node_width * length table + node_width = omega arith in
    rw (
      e,
      words_snoc table node,
      take_at (words_of table) rest (node_width * length table) l,
      ← drop-drop node_width (node_width * length table) (words_of table ++ rest),
      drop_at (words_of table) rest (node_width * length table) l,
      append_assoc (words_of table) (encode node) (drop node_width rest),
    )

-- what is read back is what was written
read_back : (table : Table) (rest : List ℕ) (i : ℕ) → i < length table → read_node (words_of table ++ rest) i ≡ node_at table i
unfolding words_of read_node
read_back [] rest i h = absurd (omega arith)
read_back (n ∷ ns) rest zero h = ap decode (append_assoc (encode n) (words_of ns) rest) ∙ decode-encode n (words_of ns ++ rest)
read_back (n ∷ ns) rest (suc i) h =
    let e : node_width * suc i ≡ node_width + node_width * i = omega arith in
    ap (λ (k : ℕ). decode (drop k ((encode n ++ words_of ns) ++ rest))) e
    ∙ ap decode (sym (drop-drop (node_width * i) node_width ((encode n ++ words_of ns) ++ rest))
    ∙ ap (drop (node_width * i)) (ap (drop node_width) (append_assoc (encode n) (words_of ns) rest) ∙ drop_at (encode n) (words_of ns ++ rest) node_width (length-encode n)))
    ∙ read_back ns rest i (omega arith)

pub table-words : (table : Table) (rest : List ℕ) → table_of (words_of table ++ rest) (length table) ≡ table
table-words table rest =
    let l = length-table (words_of table ++ rest) (length table) in
    ext_get_or no_node (table_of (words_of table ++ rest) (length table)) table l
    (λ i h.
    let k : i < length table = omega arith in
    table_at (words_of table ++ rest) (length table) i k ∙ read_back table rest i k)

-- the words of the first nodes are the first words
pub words-table : (words : List ℕ) (count : ℕ) → node_width * count ≤ length words → words_of (table_of words count) ≡ take (node_width * count) words
unfolding table_of words_of read_node
words-table words zero h = refl
words-table words (suc count) h =
    let e : node_width * suc count ≡ node_width * count + node_width = omega arith in
    let rest = drop (node_width * count) words in
    let k : node_width ≤ length rest = omega (arith, length-drop (node_width * count) words) in
    words_snoc (table_of words count) (read_node words count)
    ∙ ap₂ ◌++◌ (words-table words count (omega arith)) (front-words rest k)
    ∙ sym (ap (λ (m : ℕ). take m words) e ∙ take-add (node_width * count) node_width words)

-- a node put over the words of one, in the place of those
pub put-part : (words : List ℕ) (i : ℕ) (node : Node) {k : ℕ} {last : List ℕ} → k ≡ node_width → last ≡ encode node
    → take (node_width * i) words ++ (last ++ drop k (drop (node_width * i) words)) ≡ put_node words i node
unfolding put_node
put-part words i node w e =
    let m : node_width * i + node_width ≡ node_width * suc i = omega arith in
    rw (w, e, drop-drop node_width (node_width * i) words, m)
