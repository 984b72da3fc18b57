-- The productive states are the least set that is closed under the rows: every closed set holds them, and they are closed themselves.
use Prim.Native.Nat.{ℕ, suc, ◌<◌, ◌≤◌}
use native.Mathlib.Omega.{arith}
use mathlib.Core.Bool.{Bool, true, false, ◌&&◌, ◌||◌}
use mathlib.Core.Logic.{◌↔◌}
use mathlib.Core.Path.{◌≡◌, refl, sym, ◌∙◌, ap, subst}
use mathlib.Core.List.{List, [], ◌∷◌, Memᴰ}
use Rattle.std.specs.Prelude.{None}
use lib.Bits.{bit_or, or_add_and, and_le_r}
use lib.Dec.{eqb}
use lib.ListN.{length, take}
use borrow.Author.Tests.{eqb-true, eq-eqb}
use Rattle.sets.specs.Members.{has}
use Rattle.sets.proofs.Bits.{has-or}
use Rattle.automaton.specs.Held.{Rule, Held, Valid, most_arity}
use Rattle.ground.specs.Lists.{All, any_of}
use Rattle.meaning.specs.Trees.{Tree, Forest, hole, node, []ᶠ, ◌∷ᶠ◌}
use Rattle.trees.specs.Words.{count, OfKnown, AllOfKnown, KnownIn, arity_in}
use Rattle.trees.specs.Runs.{Reaches, ReachesEach, Productive}
use Rattle.trees.specs.Piles.{each_in}
use Rattle.trees.specs.declared.columns.Columns.{Columns}
use Rattle.trees.specs.Columns.{Ready, Scanned}
use Rattle.ground.proofs.Truth.{and_parts, and_both, or_right}
use Rattle.ground.proofs.Lists.{any-pick, any-mem, all_map}
use Rattle.trees.proofs.Firing.{met, met-each, scanned, small-arity, valid-member}

-- a set of states that is closed under the rows
abbrev pub Closed : List Rule → (ℕ → Type 0) → Type 0
Closed rules In = (rule : Rule) → Memᴰ rule rules → All In rule.sources → In rule.target

module _ (rules : List Rule) where
  -- it holds every productive state
  module _ (In : ℕ → Type 0) (closed : Closed rules In) where
    mutual
      reached-in : (t : Tree) (q : ℕ) → Reaches rules t q → In q
      reached-in (hole p) q r = absurd r
      reached-in (node f ts) q r = subst In r.3 (closed r.0 r.1 (each_in_lem ts r.0.sources r.4))

      each_in_lem : (ts : Forest) (qs : List ℕ) → ReachesEach rules ts qs → All In qs
      each_in_lem []ᶠ [] r = tt
      each_in_lem []ᶠ (q ∷ qs) r = absurd r
      each_in_lem (t ∷ᶠ ts) [] r = absurd r
      each_in_lem (t ∷ᶠ ts) (q ∷ qs) r = (reached-in t q r.0, each_in_lem ts qs r.1)

    pub productive-in : (q : ℕ) → Productive rules q → In q
    productive-in q p = reached-in p.0 q p.1

  -- the productive states are closed: a tree for each source makes a tree for the target
  forest-for : (qs : List ℕ) → All (Productive rules) qs → (ts : Forest) × ReachesEach rules ts qs
  forest-for [] a = ([]ᶠ, tt)
  forest-for (q ∷ qs) a = let r = forest-for qs a.1 in (a.0.0 ∷ᶠ r.0, (a.0.1, r.1))

  pub productive-closed : Closed rules (Productive rules)
  productive-closed rule m a = let r = forest-for rule.sources a in (node rule.symbol r.0, (rule, m, refl, refl, r.1))

-- ---- one round over the rows

-- the one set, at each child place
abbrev pub three : ℕ → List ℕ
three have = have ∷ (have ∷ (have ∷ []))

-- each source is in the one set
pub met_all : (rule : Rule) (have : ℕ) → length rule.sources ≤ most_arity → (met rule (three have) ≡ true) ↔ All (λ q. has have q ≡ true) rule.sources
unfolding each_in
met_all rule have few =
    (λ e. there rule.sources few (sym (met-each rule (three have) few (omega arith)) ∙ e), λ a. met-each rule (three have) few (omega arith) ∙ back rule.sources few a)
  where
    there : (qs : List ℕ) → length qs ≤ most_arity → each_in qs (take (length qs) (three have)) ≡ true → All (λ q. has have q ≡ true) qs
    there [] l e = tt
    there (x ∷ []) l e = ((and_parts (has have x) true e).0, tt)
    there (x ∷ (y ∷ [])) l e =
        let r = and_parts (has have x) (has have y && true) e in
        (r.0, ((and_parts (has have y) true r.1).0, tt))
    there (x ∷ (y ∷ (z ∷ []))) l e =
        let r = and_parts (has have x) (has have y && (has have z && true)) e in
        let s = and_parts (has have y) (has have z && true) r.1 in
        (r.0, (s.0, ((and_parts (has have z) true s.1).0, tt)))
    there (x ∷ (y ∷ (z ∷ (w ∷ ws)))) l e = absurd (omega arith)

    back : (qs : List ℕ) → length qs ≤ most_arity → All (λ q. has have q ≡ true) qs → each_in qs (take (length qs) (three have)) ≡ true
    back [] l a = refl
    back (x ∷ []) l a = and_both (has have x) true a.0 refl
    back (x ∷ (y ∷ [])) l a = and_both (has have x) (has have y && true) a.0 (and_both (has have y) true a.1.0 refl)
    back (x ∷ (y ∷ (z ∷ []))) l a =
        and_both (has have x) (has have y && (has have z && true)) a.0
        (and_both (has have y) (has have z && true) a.1.0 (and_both (has have z) true a.1.1.0 refl))
    back (x ∷ (y ∷ (z ∷ (w ∷ ws)))) l a = absurd (omega arith)

module _ (held : Held) (columns : Columns) (ready : Ready held columns) (have found : ℕ) (scan : Scanned columns None (three have) found) where
  row : ℕ → Rule → Bool
  row q rule = true && (eqb rule.target q && met rule (three have))

  few-sources : (rule : Rule) → Memᴰ rule held.rules → length rule.sources ≤ most_arity
  few-sources rule m = omega (arith, (valid-member held ready.valid rule m).suited, small-arity held rule.symbol ready.valid)

  found-has : (q : ℕ) → has found q ≡ any_of (row q) held.rules
  unfolding row
  found-has q =
      scanned held.rules ready.valid.few_rules columns ready.tabled None (λ rule. true) (record { symbol = 0; target = 0; sources = [] }) (λ i h. refl) (three have) found scan q

  -- what a round adds is productive
  pub round-productive : ((q : ℕ) → has have q ≡ true → Productive held.rules q) → (q : ℕ) → has (bit_or have found) q ≡ true → Productive held.rules q
  unfolding row
  round-productive before q e = go (has have q) refl
    where
      go : (b : Bool) → has have q ≡ b → Productive held.rules q
      go true d = before q d
      go false d =
          let new : has found q ≡ true = sym (ap (λ (b : Bool). b || has found q) d) ∙ sym (has-or have found q) ∙ e in
          let p = any-pick (row q) held.rules (sym (found-has q) ∙ new) in
          let rule = p.0 in
          let r = and_parts (eqb rule.target q) (met rule (three have)) p.2 in
          let sources = (met_all rule have (few-sources rule p.1)).0 r.1 in
          subst (Productive held.rules) (eqb-true rule.target q r.0)
          (productive-closed held.rules rule p.1 (all_map rule.sources before sources))

  -- a round that adds nothing leaves a closed set
  pub round-closed : bit_or have found ≡ have → Closed held.rules (λ q. has have q ≡ true)
  unfolding row
  round-closed same rule m a =
      let q = rule.target in
      let fires : row q rule ≡ true = and_both (eqb q q) (met rule (three have)) (eq-eqb q q refl) ((met_all rule have (few-sources rule m)).1 a) in
      let new : has found q ≡ true = found-has q ∙ any-mem (row q) rule held.rules m fires in
      ap (λ (n : ℕ). has n q) (sym same) ∙ has-or have found q ∙ or_right (has have q) (has found q) new

  pub round-all : ((q : ℕ) → has have q ≡ true → Productive held.rules q) → bit_or have found ≡ have → (q : ℕ) → (has have q ≡ true) ↔ Productive held.rules q
  round-all before same q = (before q, productive-in held.rules (λ p. has have p ≡ true) (round-closed same) q)

-- a set grows, where it changes
pub grows : (have found : ℕ) → (bit_or have found ≡ have → ⊥) → have < bit_or have found
grows have found n = omega (arith, or_add_and have found, and_le_r have found)

-- ---- a tree that reaches a state is a tree of known symbols

module _ (held : Held) (v : Valid held) where
  count-each : (ts : Forest) (qs : List ℕ) → ReachesEach held.rules ts qs → count ts ≡ length qs
  unfolding count
  count-each []ᶠ [] r = refl
  count-each []ᶠ (q ∷ qs) r = absurd r
  count-each (t ∷ᶠ ts) [] r = absurd r
  count-each (t ∷ᶠ ts) (q ∷ qs) r = ap suc (count-each ts qs r.1)

  mutual
    pub reaches_known : (t : Tree) (q : ℕ) → Reaches held.rules t q → OfKnown (KnownIn held) (arity_in held) t
    reaches_known (hole p) q r = absurd r
    reaches_known (node f ts) q r =
        let rule = r.0 in
        let valid = valid-member held v rule r.1 in (
          subst (KnownIn held) r.2 valid.known,
          count-each ts rule.sources r.4 ∙ valid.suited ∙ ap (arity_in held) r.2,
          each-known ts rule.sources r.4,
        )

    each-known : (ts : Forest) (qs : List ℕ) → ReachesEach held.rules ts qs → AllOfKnown (KnownIn held) (arity_in held) ts
    each-known []ᶠ qs r = tt
    each-known (t ∷ᶠ ts) [] r = absurd r
    each-known (t ∷ᶠ ts) (q ∷ qs) r = (reaches_known t q r.0, each-known ts qs r.1)
