-- The pile in memory: its top stands highest. What taking sets off it, and putting one on it, does to the pile that is meant.
use Prim.Native.Nat.{ℕ, zero, suc, ◌+◌, ◌-◌, ◌/◌, ◌^◌, ◌<◌, ◌≤◌}
use native.Mathlib.Numerals.{add-one}
use native.Mathlib.Omega.{arith}
use mathlib.Core.Bool.{Bool, true, false, false≢true, not, ◌&&◌}
use mathlib.Core.Path.{◌≡◌, refl, sym, ◌∙◌, ap, ap₂}
use mathlib.Core.List.{List, [], ◌∷◌, reverse}
use Rattle.std.specs.Prelude.{Option, None, Some, Result, Ok, Err}
use Rattle.std.specs.Option.{ok_or}
use Rattle.automaton.specs.declared.Refused.{Refused}
use Rattle.automaton.specs.declared.Refused.TheVariants.{NoTree}
use Rattle.std.proofs.lemmas.List.{get_or-reverse, length-reverse}
use lib.Bits.{bit_and, and_lt}
use lib.Dec.{eqb}
use lib.ListN.{length, get_or, set, take, drop, length-drop, take-append-drop}
use lib.Seq.{drop-cons, get_or-set_same, get_or-set_other}
use borrow.Author.Tests.{eqb-true, eq-eqb, le-leb}
use Rattle.sets.specs.Members.{has, state_width}
use Rattle.sets.proofs.Bits.{has-and, has-zero, same-members}
use Rattle.automaton.specs.Held.{Held, most_arity}
use Rattle.trees.specs.Words.{KnownIn, arity_in, most_words}
use Rattle.trees.specs.Stacks.{down, alone, TakenOff}
use Rattle.trees.specs.Piles.{meets, reached_from, Pile, broken, pile, put, pile_of, pile_answer, one_left, tree_answer, words_answer}
use Rattle.trees.specs.declared.columns.Columns.{Columns}
use Rattle.trees.specs.Columns.{Ready, Scanned}
use Rattle.ground.proofs.Lists.{below-pick, below-some}
use Rattle.trees.proofs.Piling.{put-done, few-sets, stay-broken}
use Rattle.trees.proofs.Firing.{scan-reached, leaf-reached}

pub length-down : (places : List ℕ) (depth : ℕ) → length (down places depth) ≡ depth
unfolding down
length-down places zero = refl
length-down places (suc depth) = ap suc (length-down places depth)

-- a store at or above the depth changes nothing below it
down-set : (places : List ℕ) (i x depth : ℕ) → depth ≤ i → down (set places i x) depth ≡ down places depth
unfolding down
down-set places i x zero h = refl
down-set places i x (suc depth) h = ap₂ ◌∷◌ (get_or-set_other places i depth x 0 (λ e. omega arith)) (down-set places i x depth (omega arith))

pub down-push : (places : List ℕ) (base x : ℕ) → base < length places → down (set places base x) (base + 1) ≡ x ∷ down places base
unfolding down
down-push places base x h = ap (down (set places base x)) (add-one base) ∙ ap₂ ◌∷◌ (get_or-set_same places base x 0 h) (down-set places base x base (omega arith))

pub drop-down : (places : List ℕ) (k base depth : ℕ) → depth ≡ k + base → drop k (down places depth) ≡ down places base
unfolding down
drop-down places zero base depth e = let same : depth ≡ base = omega arith in ap (down places) same
drop-down places (suc k) base zero e = absurd (omega arith)
drop-down places (suc k) base (suc depth) e = drop-down places k base depth (omega arith)

-- one set, or another number of them
pub one_alone : (places : List ℕ) (depth : ℕ) (sets : List ℕ) → down places depth ≡ sets → depth ≡ 1 → Some (get_or places 0 0) ≡ alone sets
unfolding down
one_alone places zero sets e h = absurd (omega arith)
one_alone places (suc zero) sets e h = ap alone e
one_alone places (suc (suc depth)) sets e h = absurd (omega arith)

pub others_none : (places : List ℕ) (depth : ℕ) (sets : List ℕ) → down places depth ≡ sets → (depth ≡ 1 → ⊥) → None ≡ alone sets
unfolding down
others_none places zero sets e n = ap alone e
others_none places (suc zero) sets e n = absurd (n refl)
others_none places (suc (suc depth)) sets e n = ap alone e

-- the top one, two or three
pub tops : (places : List ℕ) (arity base depth : ℕ) → depth ≡ arity + base → 1 ≤ arity → arity ≤ most_arity
    → take arity (down places depth) ≡ take arity (get_or places (base + (arity - 1)) 0 ∷ (get_or places (base + (arity - 1) / 2) 0 ∷ (get_or places base 0 ∷ [])))
unfolding down
tops places zero base depth e some few = absurd (omega arith)
tops places (suc zero) base depth e some few =
    ap (λ (n : ℕ). take 1 (down places n)) (e ∙ one) ∙ ap (λ (n : ℕ). get_or places n 0 ∷ []) zero_more
  where
    one : 1 + base ≡ suc base
    one = omega arith

    zero_more : base ≡ base + (1 - 1)
    zero_more = omega arith
tops places (suc (suc zero)) base depth e some few =
    ap (λ (n : ℕ). take 2 (down places n)) (e ∙ two) ∙ ap₂ (λ (m n : ℕ). get_or places m 0 ∷ (get_or places n 0 ∷ [])) one_more zero_more
  where
    two : 2 + base ≡ suc (suc base)
    two = omega arith

    one_more : suc base ≡ base + (2 - 1)
    one_more = omega arith

    zero_more : base ≡ base + (2 - 1) / 2
    zero_more = omega arith
tops places (suc (suc (suc zero))) base depth e some few =
    ap (λ (n : ℕ). take 3 (down places n)) (e ∙ three)
    ∙ ap₂ (λ (m n : ℕ). get_or places m 0 ∷ (get_or places n 0 ∷ (get_or places base 0 ∷ []))) two-more one_more
  where
    three : 3 + base ≡ suc (suc (suc base))
    three = omega arith

    two-more : suc (suc base) ≡ base + (3 - 1)
    two-more = omega arith

    one_more : suc base ≡ base + (3 - 1) / 2
    one_more = omega arith
tops places (suc (suc (suc (suc n)))) base depth e some few = absurd (omega arith)

-- ---- one word

module _ (held : Held) (columns : Columns) (ready : Ready held columns) (f : ℕ) (known : KnownIn held f) (sets : List ℕ) where
  put-read : (x : ℕ) (rest : List ℕ) → arity_in held f ≤ length sets → x ≡ reached_from held.rules f (take (arity_in held f) sets) → rest ≡ drop (arity_in held f) sets
      → put held f (pile sets) ≡ pile (x ∷ rest)
  put-read x rest enough over off = rw (over, off) (put-done held f sets known enough)

  -- a leaf's set
  pub put-leaf : (x : ℕ) → arity_in held f ≡ 0 → x ≡ get_or columns.leaves f 0 → put held f (pile sets) ≡ pile (x ∷ sets)
  put-leaf x leaf is =
      put-read x sets (omega (arith, leaf))
      (is ∙ leaf-reached held ready.valid columns f ready.tabled (omega (arith, ready.valid.few_symbols)) leaf ∙ ap (λ (n : ℕ). reached_from held.rules f (take n sets)) (sym leaf))
      (ap (λ (n : ℕ). drop n sets) (sym leaf))

  -- a set over those of the subtrees
  pub put-over : (x : ℕ) (given rest : List ℕ) → most_arity ≤ length given → TakenOff (arity_in held f) sets rest given → Scanned columns (Some f) given x
      → put held f (pile sets) ≡ pile (x ∷ rest)
  put-over x given rest long off scan =
      put-read x rest off.enough (scan-reached held ready.valid columns ready.tabled f given x long scan ∙ ap (reached_from held.rules f) off.taken) off.left

-- ---- the words

module _ (held : Held) (words : List ℕ) where
  -- so many words, from the right end, leave these sets
  abbrev pub Left : ℕ → List ℕ → Type 0
  Left k sets = pile_of held (drop (length words - k) words) ≡ pile sets

  pub left-none : Left 0 []
  unfolding pile_of
  left-none = ap (λ (n : ℕ). pile_of held (drop n words)) (sub_none (length words)) ∙ rw lib.Seq.drop-length
    where
      sub_none : (n : ℕ) → n - 0 ≡ n
      sub_none n = omega arith

  module _ (k f : ℕ) (sets : List ℕ) (turn : (k < length (reverse words)) × (f ≡ get_or (reverse words) k f)) (left : Left k sets) where
    inside : k < length words
    inside = omega (arith, turn.0, length-reverse words)

    -- there is room for one set more
    pub room-left : length sets < length words
    room-left = omega (arith, inside, few-sets held (drop (length words - k) words) sets left, length-drop (length words - k) words)

    word_first : pile_of held (drop (length words - (k + 1)) words) ≡ put held f (pile sets)
    unfolding pile_of
    word_first =
        let at : length words - 1 - k ≡ length words - (k + 1) = omega arith in
        let is : f ≡ get_or words (length words - (k + 1)) f = turn.1 ∙ get_or-reverse words k f inside ∙ ap (λ (n : ℕ). get_or words n f) at in
        let next : suc (length words - (k + 1)) ≡ length words - k = omega (arith, inside) in
        ap (pile_of held) (drop-cons words (length words - (k + 1)) f (omega (arith, inside)))
        ∙ ap₂ (λ (g n : ℕ). put held g (pile_of held (drop n words))) (sym is) next
        ∙ ap (put held f) left

    -- what cannot be completed
    pub left-broken : put held f (pile sets) ≡ broken → None ≡ one_left (pile_of held words)
    left-broken e =
        let at = length words - (k + 1) in
        sym (ap one_left (ap (pile_of held) (sym (take-append-drop at words)) ∙ stay-broken held (take at words) (drop at words) (word_first ∙ e)))

    pub left-more : (more : List ℕ) → put held f (pile sets) ≡ pile more → Left (k + 1) more
    left-more more e = word_first ∙ e

-- ---- the answer

pub pile-answered : (held : Held) (p : Pile) → tree_answer held.finals (one_left p) ≡ pile_answer held p
unfolding pile_answer tree_answer
pile-answered held broken = refl
pile-answered held (pile []) = refl
pile-answered held (pile (x ∷ [])) = refl
pile-answered held (pile (x ∷ (y ∷ sets))) = refl

pub answered : (held : Held) (words : List ℕ) (left : Option ℕ) → length words ≤ most_words → left ≡ one_left (pile_of held words) → tree_answer held.finals left ≡ words_answer held words
unfolding words_answer
answered held words left few e = rw (le-leb (length words) most_words few) (ap (tree_answer held.finals) e ∙ pile-answered held (pile_of held words))

-- ---- a set or none, as a result

pub err-left : (left : Option ℕ) (e : Refused) → ◌≡◌ {A = Result ℕ Refused} (Err e) (ok_or left NoTree) → (left ≡ None) × (e ≡ NoTree)
err-left None e h = (refl, cc)
err-left (Some x) e h = absurd (cc)

pub ok-left : (left : Option ℕ) (x : ℕ) → ◌≡◌ {A = Result ℕ Refused} (Ok x) (ok_or left NoTree) → left ≡ Some x
ok-left None x h = absurd (cc)
ok-left (Some y) x h = cc

-- ---- the yes

-- two sets meet where what they share is not empty
pub meets-and : (a b : ℕ) → a < 2 ^ state_width → b < 2 ^ state_width → not (eqb (bit_and a b) 0) ≡ meets a b
unfolding meets
meets-and a b ha hb = go (meets a b) refl
  where
    go : (m : Bool) → meets a b ≡ m → not (eqb (bit_and a b) 0) ≡ m
    go true e =
        let r = below-pick state_width (λ q. has a q && has b q) e in
        ap not (other (eqb (bit_and a b) 0) refl r.0 r.2)
      where
        other : (z : Bool) → eqb (bit_and a b) 0 ≡ z → (q : ℕ) → (has a q && has b q) ≡ true → z ≡ false
        other false d q h = refl
        other true d q h =
            absurd (false≢true (sym (has-zero q) ∙ ap (λ (n : ℕ). has n q) (sym (eqb-true (bit_and a b) 0 d)) ∙ has-and a b q ∙ h))
    go false e =
        ap not (eq-eqb (bit_and a b) 0 (same-members state_width (bit_and a b) 0 (and_lt state_width a b ha hb) (omega arith) (λ q h. has-and a b q ∙ none q h (has a q && has b q) refl ∙ sym (has-zero q))))
      where
        none : (q : ℕ) → q < state_width → (z : Bool) → (has a q && has b q) ≡ z → (has a q && has b q) ≡ false
        none q h false d = d
        none q h true d = absurd (false≢true (sym e ∙ below-some state_width (λ p. has a p && has b p) q h d))
