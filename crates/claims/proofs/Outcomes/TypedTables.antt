-- Numbers fit their types: in nodes and their words, in sizes and in the bytes of listings.
use Prim.Native.Nat.{ℕ, zero, suc, ◌*◌, ◌/◌, ◌^◌, ◌≤◌, ◌<◌}
use native.Mathlib.Omega.{arith}
use native.Mathlib.Decide.{dec_lt}
use mathlib.Core.Path.{ap, subst}
use mathlib.Core.Bool.{Bool, true, false, cond}
use mathlib.Core.List.{List, [], ◌∷◌, ◌++◌, map}
use lib.ListN.{length, get_or, take, drop, take-append-drop, length-append}
use lib.Dec.{leb, ltb}
use Rattle.sets.specs.Members.{has, one_set, union, without, state_width}
use Rattle.sets.proofs.Membership.{empty-lt, one-lt, union-lt}
use Rattle.ground.specs.Lists.{All}
use Rattle.buffers.specs.Decimal.{last_digit, decimal_in, decimal}
use Rattle.buffers.proofs.Decimal.{decimal-one, decimal-more}
use Rattle.ground.proofs.Lists.{all_map, all_append}
use Rattle.meaning.specs.Expressions.{Expr}
use Rattle.expressions.specs.declared.Shape.{Shape}
use Rattle.expressions.specs.declared.Node.{Node}
use Rattle.expressions.specs.Nodes.{Kind, emptyᴷ, holeᴷ, symbolᴷ, altᴷ, catᴷ, iterᴷ, otherᴷ, kind_of, Table, no_node, node_at, children_of, child_count, places, children, unused}
use Rattle.expressions.specs.Words.{node_width, encode, decode, read_node, node_in, table_of, words_of, put_node}
use Rattle.expressions.specs.Unfolding.{unfolded}
use Rattle.expressions.specs.Soundness.{LabelledAs, Fits, union_all, cat_opens, opens_by, opens_of, opens_in, completed, SoundNodes, most_nodes}
use Rattle.expressions.specs.Sizes.{held_size, sizes_of}
use Rattle.expressions.proofs.Soundness.{fits-at}
use Rattle.expressions.proofs.OpenSets.{open_of}
use Rattle.listing.specs.Listing.{kind_name, label_fields, spaced, line, plain_label, head_fields, node_line, node_lines, answer_line, listing}
use Rattle.claims.specs.Types.{Byte, Word, Long, Bytes, Words, ShapeFits, NodeFits}
use Rattle.claims.proofs.Outcomes.TypedValues.{all_take, all_drop, all_get_d, all-places}

-- ---- a shape that fits a table

pub kind-small : (n label : ℕ) → LabelledAs (kind_of n) label → n ≤ 5
kind-small zero label l = omega arith
kind-small (suc zero) label l = omega arith
kind-small (suc (suc zero)) label l = omega arith
kind-small (suc (suc (suc zero))) label l = omega arith
kind-small (suc (suc (suc (suc zero)))) label l = omega arith
kind-small (suc (suc (suc (suc (suc zero))))) label l = omega arith
kind-small (suc (suc (suc (suc (suc (suc n)))))) label l = absurd l

label_small : (kind : Kind) (label : ℕ) → LabelledAs kind label → label < 1024
label_small emptyᴷ label l = omega arith
label_small holeᴷ label l = omega arith
label_small symbolᴷ label l = omega arith
label_small altᴷ label l = omega arith
label_small catᴷ label l = omega arith
label_small iterᴷ label l = omega arith
label_small otherᴷ label l = absurd l

pub shape-fits : (number : ℕ) (shape : Shape) → number ≤ most_nodes → Fits number shape → ShapeFits shape
unfolding children unused
shape-fits number shape few f =
    let n = child_count shape.kind shape.label in
    let used : All Word (take n (places shape)) = all_map (take n (places shape)) (λ c h. omega arith) f.earlier in
    let rest : All Word (drop n (places shape)) = all_map (drop n (places shape)) (λ c h. omega arith) f.zeros in
    let each : All Word (places shape) = subst (All Word) (take-append-drop n (places shape)) (all_append Word (take n (places shape)) (drop n (places shape)) used rest) in
    let kind = kind-small shape.kind shape.label f.labelled in
    let label = label_small (kind_of shape.kind) shape.label f.labelled in
    (omega arith, omega arith, each.0, each.1.0, each.1.1.0)

-- ---- nodes and their words

pub encode-words : (node : Node) → NodeFits node → Words (encode node)
unfolding encode
encode-words node f = (f.0.0, (f.0.1, (f.0.2, (f.0.3, (f.0.4, (f.1, tt))))))

pub table-words : (table : Table) → All NodeFits table → Words (words_of table)
unfolding words_of
table-words [] a = tt
table-words (node ∷ nodes) a = all_append Word (encode node) (words_of nodes) (encode-words node a.0) (table-words nodes a.1)

-- a sound table of not too many nodes
pub sound-words : (table : Table) → SoundNodes table → length table ≤ most_nodes → Words (words_of table)
sound-words table s few = table-words table (all-places NodeFits table no_node each)
  where
    each : (i : ℕ) → i < length table → NodeFits (node_at table i)
    each i h =
        let o = (open_of table s i h).small in
        (shape-fits i (node_at table i).shape (omega arith) (fits-at table s i h), omega arith)

module _ (words : List ℕ) (w : Words words) where
  decode-fits : (n : ℕ) → NodeFits (decode (drop n words))
  unfolding decode
  decode-fits n =
      let at : (i : ℕ) → Word (get_or (drop n words) i 0) = λ i. all_get_d Word (drop n words) i 0 (omega arith) (all_drop Word n words w) in
      ((at 0, at 1, at 2, at 3, at 4), at 5)

  read_fits : (i : ℕ) → NodeFits (read_node words i)
  unfolding read_node
  read_fits i = decode-fits (node_width * i)

  pub node-in-fits : (i : ℕ) → NodeFits (node_in words i)
  unfolding node_in
  node-in-fits i = go (leb (node_width * suc i) (length words))
    where
      go : (b : Bool) → NodeFits (cond b (read_node words i) no_node)
      go true = read_fits i
      go false = omega arith

  table_fits : (count : ℕ) → All NodeFits (table_of words count)
  unfolding table_of
  table_fits zero = tt
  table_fits (suc count) = all_append NodeFits (table_of words count) (read_node words count ∷ []) (table_fits count) (read_fits count, tt)

  pub opens-word : (count c : ℕ) → Word (node_at (table_of words count) c).opens
  opens-word count c = (all_get_d NodeFits (table_of words count) c no_node (omega arith) (table_fits count)).1

  -- the words with one more node
  pub put_typed : (i : ℕ) (node : Node) → NodeFits node → Words (put_node words i node)
  unfolding put_node
  put_typed i node f =
      all_append Word (take (node_width * i) words) (encode node ++ drop (node_width * suc i) words) (all_take Word (node_width * i) words w)
      (all_append Word (encode node) (drop (node_width * suc i) words) (encode-words node f) (all_drop Word (node_width * suc i) words w))

-- ---- the open set of a node that is made

wide-set : {n : ℕ} → n < 2 ^ state_width → Word n
wide-set h = omega arith

union-word : (opens : List ℕ) → Word (union_all opens)
union-word [] = wide-set (empty-lt state_width)
union-word (s ∷ opens) = wide-set (union-lt state_width s (union_all opens))

cat-word : (q left right : ℕ) → Word left → Word (cat_opens q left right)
unfolding cat_opens
cat-word q left right w = go (has left q)
  where
    go : (b : Bool) → Word (cond b (union state_width (without state_width left q) right) left)
    go true = wide-set (union-lt state_width (without state_width left q) right)
    go false = w

opens_by_lem : (kind : Kind) (label : ℕ) (opens : List ℕ) → Words opens → Word (opens_by kind label opens)
opens_by_lem emptyᴷ label opens w = wide-set (empty-lt state_width)
opens_by_lem holeᴷ label opens w = wide-set (one-lt state_width label)
opens_by_lem symbolᴷ label opens w = union-word opens
opens_by_lem altᴷ label opens w = union-word opens
opens_by_lem catᴷ label opens w = cat-word label (get_or opens 0 0) (get_or opens 1 0) (all_get_d Word opens 0 0 (omega arith) w)
opens_by_lem iterᴷ label opens w = wide-set (union-lt state_width (get_or opens 0 0) (one_set state_width label))
opens_by_lem otherᴷ label opens w = wide-set (empty-lt state_width)

each_opens : (words : List ℕ) → Words words → (count : ℕ) (cs : List ℕ) → Words (map (λ c. (node_at (table_of words count) c).opens) cs)
each_opens words w count [] = tt
each_opens words w count (c ∷ cs) = (opens-word words w count c, each_opens words w count cs)

pub completed-fits : (words : List ℕ) → Words words → (count : ℕ) (shape : Shape) → ShapeFits shape → NodeFits (completed (table_of words count) shape)
unfolding completed opens_in opens_of
completed-fits words w count shape f =
    (f, opens_by_lem (kind_of shape.kind) shape.label (map (λ c. (node_at (table_of words count) c).opens) (children shape)) (each_opens words w count (children shape)))

-- ---- the number of children

pub count_word : (shape : Shape) → ShapeFits shape → Word (child_count shape.kind shape.label)
unfolding child_count
count_word shape f = go (kind_of shape.kind)
  where
    go : (kind : Kind) → Word (children_of kind shape.label)
    go emptyᴷ = omega arith
    go holeᴷ = omega arith
    go symbolᴷ = omega (arith, f.1)
    go altᴷ = omega arith
    go catᴷ = omega arith
    go iterᴷ = omega arith
    go otherᴷ = omega arith

-- ---- sizes

pub size_word : (e : Expr) → Word (held_size e)
unfolding held_size
size_word e = omega arith

pub sizes-words : (table : Table) → Words (sizes_of table)
unfolding sizes_of
sizes-words table = go (unfolded [] table)
  where
    go : (es : List Expr) → Words (map held_size es)
    go [] = tt
    go (e ∷ es) = (size_word e, go es)

-- ---- bytes of numbers and listings

pub decimal-bytes : (n : ℕ) → Bytes (decimal n)
unfolding decimal decimal_in
decimal-bytes n = turns (suc n) n
  where
    turns : (k m : ℕ) → Bytes (decimal_in k m)
    turns zero m = tt
    turns (suc k) m = go (ltb m 10) (turns k (m / 10))
      where
        go : (b : Bool) → Bytes (decimal_in k (m / 10)) → Bytes (cond b (last_digit m ∷ []) (decimal_in k (m / 10) ++ (last_digit m ∷ [])))
        go true a = (omega arith, tt)
        go false a = all_append Byte (decimal_in k (m / 10)) (last_digit m ∷ []) a (omega arith, tt)

spaced-bytes : (fields : List (List ℕ)) → All Bytes fields → Bytes (spaced fields)
unfolding spaced
spaced-bytes [] a = tt
spaced-bytes (field ∷ fields) a = (omega arith, all_append Byte field (spaced fields) a.0 (spaced-bytes fields a.1))

pub line-bytes : (field : List ℕ) (fields : List (List ℕ)) → Bytes field → All Bytes fields → Bytes (line field fields)
unfolding line
line-bytes field fields b a =
    all_append Byte field (spaced fields ++ (10 ∷ [])) b (all_append Byte (spaced fields) (10 ∷ []) (spaced-bytes fields a) (omega arith, tt))

name-bytes : (kind : ℕ) → Bytes (kind_name kind)
unfolding kind_name
name-bytes zero = omega arith
name-bytes (suc zero) = omega arith
name-bytes (suc (suc zero)) = omega arith
name-bytes (suc (suc (suc zero))) = omega arith
name-bytes (suc (suc (suc (suc zero)))) = omega arith
name-bytes (suc (suc (suc (suc (suc zero))))) = omega arith
name-bytes (suc (suc (suc (suc (suc (suc k)))))) = tt

label-bytes : (kind : ℕ) (label : List ℕ) → Bytes label → All Bytes (label_fields kind label)
unfolding label_fields
label-bytes zero label b = tt
label-bytes (suc zero) label b = (b, tt)
label-bytes (suc (suc zero)) label b = (b, tt)
label-bytes (suc (suc (suc zero))) label b = tt
label-bytes (suc (suc (suc (suc zero)))) label b = (b, tt)
label-bytes (suc (suc (suc (suc (suc zero))))) label b = (b, tt)
label-bytes (suc (suc (suc (suc (suc (suc k)))))) label b = tt

each_number : (cs : List ℕ) → All Bytes (map decimal cs)
each_number [] = tt
each_number (c ∷ cs) = (decimal-bytes c, each_number cs)

node-bytes : (number : ℕ) (shape : Shape) → Bytes (node_line plain_label number shape)
unfolding node_line head_fields plain_label
node-bytes number shape =
    line-bytes (decimal number) _ (decimal-bytes number)
    (name-bytes shape.kind, all_append Bytes (label_fields shape.kind (plain_label shape)) (map decimal (children shape)) (label-bytes shape.kind (plain_label shape) (decimal-bytes _)) (each_number (children shape)))

lines-bytes : (number : ℕ) (table : Table) → Bytes (node_lines plain_label number table)
unfolding node_lines
lines-bytes number [] = tt
lines-bytes number (node ∷ nodes) = all_append Byte (node_line plain_label number node.shape) (node_lines plain_label (suc number) nodes) (node-bytes number node.shape) (lines-bytes (suc number) nodes)

pub listing-bytes : (table : Table) (answer : ℕ) → Bytes (listing plain_label table answer)
unfolding listing answer_line
listing-bytes table answer =
    all_append Byte (node_lines plain_label 0 table) (answer_line answer) (lines-bytes 0 table) (line-bytes _ (decimal answer ∷ []) (omega arith) (decimal-bytes answer, tt))

-- ---- how many digits

digits-few : (n : ℕ) → length (decimal n) ≤ suc n
unfolding decimal decimal_in
digits-few n = turns (suc n) n
  where
    turns : (k m : ℕ) → length (decimal_in k m) ≤ k
    turns zero m = omega arith
    turns (suc k) m = go (ltb m 10) (turns k (m / 10))
      where
        go : (b : Bool) → length (decimal_in k (m / 10)) ≤ k → length (cond b (last_digit m ∷ []) (decimal_in k (m / 10) ++ (last_digit m ∷ []))) ≤ suc k
        go true h = omega arith
        go false h = omega (arith, length-append (decimal_in k (m / 10)) (last_digit m ∷ []))

pub digits_long : (n : ℕ) → Long n → Long (length (decimal n))
digits_long n h = go (dec_lt n 10)
  where
    go : Dec (n < 10) → Long (length (decimal n))
    go (yes l) = rw (decimal-one n l) (omega arith)
    go (no l) = omega (arith, ap length (decimal-more n (omega arith)), length-append (decimal (n / 10)) (last_digit n ∷ []), digits-few (n / 10))
