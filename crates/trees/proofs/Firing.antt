-- A scan of the columns finds what the rows give: its set is the set that a symbol reaches over the sets at its child places.
use Prim.Native.Nat.{ℕ, ◌^◌, ◌<◌, ◌≤◌}
use native.Mathlib.Decide.{dec_lt}
use native.Mathlib.Omega.{arith}
use mathlib.Core.Bool.{Bool, true, false, false≢true, cond, ◌&&◌, and-true}
use mathlib.Core.Path.{◌≡◌, refl, sym, ◌∙◌, ap, ap₂}
use mathlib.Core.List.{List, [], ◌∷◌, Memᴰ}
use Rattle.std.specs.Prelude.{Option, Some}
use lib.Dec.{ltb, eqb}
use lib.ListN.{length, get_or, take}
use borrow.Author.Tests.{eqb-true, lt-ltb}
use Rattle.sets.specs.Members.{has, set_of, state_width}
use Rattle.sets.proofs.Bits.{has-pow, has-zero, has-set_of}
use Rattle.automaton.specs.Held.{Rule, Held, ValidRule, Valid, most_symbols, most_arity, most_rows}
use Rattle.trees.specs.Words.{arity_in}
use Rattle.ground.specs.Lists.{any_of, any_below}
use Rattle.trees.specs.Piles.{each_in, gives, reached_from}
use Rattle.trees.specs.declared.columns.Columns.{Columns}
use Rattle.trees.specs.Columns.{Column, need_at, need, Tabled, within, asked, fires, Scanned}
use Rattle.automaton.proofs.Files.FileOf.{all-get}
use Rattle.ground.proofs.Truth.{and_parts, and_both, same_test, eqb-turned}
use Rattle.ground.proofs.Lists.{any-pick, any-mem, any_same, below-pick, below-some, of-all, member-at, place_of}
use Rattle.trees.proofs.Reaching.{Aimed, valid-aimed}
use Rattle.trees.proofs.Answers.{one_set_lem}
use Rattle.trees.proofs.Scanning.{within_none, within-one}
use Rattle.trees.proofs.Tabling.{cell-inside, cell-past}

-- ---- what a scan finds

-- does the row find what it needs in these sets?
abbrev pub met : Rule → List ℕ → Bool
met rule sets = within (need 0 rule) (get_or sets 0 0) && (within (need 1 rule) (get_or sets 1 0) && within (need 2 rule) (get_or sets 2 0))

module _ (rules : List Rule) (few : length rules ≤ most_rows) (columns : Columns) (tabled : Tabled rules columns) (symbol : Option ℕ) (on : Rule → Bool) (d : Rule)
    (tested : (i : ℕ) → i < length rules → asked symbol (get_or columns.symbols i 0) ≡ on (get_or rules i d)) where
  pub scanned : (sets : List ℕ) (r : ℕ) → Scanned columns symbol sets r → (q : ℕ) → has r q ≡ any_of (λ rule. on rule && (eqb rule.target q && met rule sets)) rules
  unfolding fires
  scanned sets r scan q = scan q ∙ same_test (any_below most_rows here) (any_of row rules) there back
    where
      here : ℕ → Bool
      here i = fires columns symbol sets i && has (get_or columns.targets i 0) q

      row : Rule → Bool
      row rule = on rule && (eqb rule.target q && met rule sets)

      -- the numbers of the row at a place
      target : Rule → ℕ
      target rule = 2 ^ rule.target

      at : (number : Rule → ℕ) (column : List ℕ) → Column column number rules → (i : ℕ) → i < length rules → get_or column i 0 ≡ number (get_or rules i d)
      at number column is i h = is i (omega arith) ∙ cell-inside number rules i d h

      aims : (i : ℕ) → i < length rules → has (get_or columns.targets i 0) q ≡ eqb (get_or rules i d).target q
      aims i h =
          ap (λ (n : ℕ). has n q) (at target columns.targets tabled.targets i h)
          ∙ has-pow (get_or rules i d).target q ∙ eqb-turned q (get_or rules i d).target

      regroup : (x y z : Bool) → (x && y && z) ≡ (x && (z && y))
      regroup true true true = refl
      regroup true true false = refl
      regroup true false true = refl
      regroup true false false = refl
      regroup false y z = refl

      same : (i : ℕ) → i < length rules → here i ≡ row (get_or rules i d)
      same i h =
          ap₂ ◌&&◌ (ap₂ ◌&&◌ (tested i h) (ap₂ ◌&&◌ (ap (λ (n : ℕ). within n (get_or sets 0 0)) (at (need 0) columns.firsts tabled.firsts i h))
          (ap₂ ◌&&◌ (ap (λ (n : ℕ). within n (get_or sets 1 0)) (at (need 1) columns.seconds tabled.seconds i h))
          (ap (λ (n : ℕ). within n (get_or sets 2 0)) (at (need 2) columns.thirds tabled.thirds i h))))) (aims i h)
          ∙ regroup (on (get_or rules i d)) (met (get_or rules i d) sets) (eqb (get_or rules i d).target q)

      there : any_below most_rows here ≡ true → any_of row rules ≡ true
      there e = let p = below-pick most_rows here e in go p.0 p.1 p.2 (dec_lt p.0 (length rules))
        where
          go : (i : ℕ) → i < most_rows → here i ≡ true → Dec (i < length rules) → any_of row rules ≡ true
          go i small passes (yes h) = any-mem row (get_or rules i d) rules (member-at rules i d h) (sym (same i h) ∙ passes)
          go i small passes (no h) =
              let none : get_or columns.targets i 0 ≡ 0 = tabled.targets i small ∙ cell-past target rules i (omega arith) in
              absurd (false≢true (sym (ap (λ (n : ℕ). has n q) none ∙ has-zero q) ∙ (and_parts (fires columns symbol sets i) (has (get_or columns.targets i 0) q) passes).1))

      back : any_of row rules ≡ true → any_below most_rows here ≡ true
      back e =
          let p = any-pick row rules e in
          let at = place_of p.0 rules d p.1 in
          below-some most_rows here at.0 (omega (arith, at.1, few)) (same at.0 at.1 ∙ ap row at.2 ∙ p.2)

-- ---- what the rows need, as states

-- at most three sources, each in the set at its place
pub met-each : (rule : Rule) (sets : List ℕ) → length rule.sources ≤ most_arity → most_arity ≤ length sets → met rule sets ≡ each_in rule.sources (take (length rule.sources) sets)
unfolding need_at each_in
met-each rule sets few long = go rule.sources sets few long
  where
    at : List ℕ → ℕ → ℕ
    at sources place = cond (ltb place (length sources)) (2 ^ get_or sources place 0) 0

    go : (sources sets : List ℕ) → length sources ≤ most_arity → most_arity ≤ length sets
        → (within (at sources 0) (get_or sets 0 0) && (within (at sources 1) (get_or sets 1 0) && within (at sources 2) (get_or sets 2 0))) ≡ each_in sources (take (length sources) sets)
    go sources [] l m = absurd (omega arith)
    go sources (a ∷ []) l m = absurd (omega arith)
    go sources (a ∷ (b ∷ [])) l m = absurd (omega arith)
    go [] (a ∷ (b ∷ (c ∷ more))) l m = rw (within_none a, within_none b, within_none c)
    go (x ∷ []) (a ∷ (b ∷ (c ∷ more))) l m = rw (within-one x a, within_none b, within_none c)
    go (x ∷ (y ∷ [])) (a ∷ (b ∷ (c ∷ more))) l m = rw (within-one x a, within-one y b, within_none c)
    go (x ∷ (y ∷ (z ∷ []))) (a ∷ (b ∷ (c ∷ more))) l m =
        rw (within-one x a, within-one y b, within-one z c) (ap (λ (m : Bool). has a x && (has b y && m)) (sym (and-true (has c z))))
    go (x ∷ (y ∷ (z ∷ (w ∷ ws)))) (a ∷ (b ∷ (c ∷ more))) l m = absurd (omega arith)

-- a number that has the members of a reached set is that set
pub reached-number : (rules : List Rule) (f r : ℕ) (sets : List ℕ) → Aimed rules → ((q : ℕ) → has r q ≡ any_of (gives f sets q) rules) → r ≡ reached_from rules f sets
unfolding reached_from gives
reached-number rules f r sets aimed e = one_set_lem r (set_of state_width test) (λ q. (there q, back q))
  where
    test : ℕ → Bool
    test q = any_of (gives f sets q) rules

    there : (q : ℕ) → has r q ≡ true → has (set_of state_width test) q ≡ true
    there q h =
        let p = any-pick (gives f sets q) rules (sym (e q) ∙ h) in
        let rule = p.0 in
        let aims = and_parts (eqb rule.target q) (each_in rule.sources sets) (and_parts (eqb rule.symbol f) (eqb rule.target q && each_in rule.sources sets) p.2).1 in
        let same : rule.target ≡ q = eqb-true rule.target q aims.0 in
        let small : rule.target < state_width = of-all (λ y. y.target < state_width) rules aimed p.1 in
        has-set_of state_width test q ∙ and_both (ltb q state_width) (test q) (lt-ltb q state_width (omega arith)) (sym (e q) ∙ h)

    back : (q : ℕ) → has (set_of state_width test) q ≡ true → has r q ≡ true
    back q h = e q ∙ (and_parts (ltb q state_width) (test q) (sym (has-set_of state_width test q) ∙ h)).1

pub small-arity : (held : Held) (f : ℕ) → Valid held → arity_in held f ≤ most_arity
small-arity held f v = all-get (λ a. a ≤ most_arity) held.arities f (omega arith) v.small_arities

module _ (held : Held) (v : Valid held) where
  pub valid-member : (rule : Rule) → Memᴰ rule held.rules → ValidRule held.states held.arities rule
  valid-member rule m = of-all (ValidRule held.states held.arities) held.rules v.valid_rules m

  -- the scan of a symbol's rows, over the sets of its subtrees
  pub scan-reached : (columns : Columns) → Tabled held.rules columns → (f : ℕ) (sets : List ℕ) (r : ℕ) → most_arity ≤ length sets → Scanned columns (Some f) sets r
      → r ≡ reached_from held.rules f (take (arity_in held f) sets)
  unfolding gives
  scan-reached columns tabled f sets r long scan = reached-number held.rules f r (take (arity_in held f) sets) (valid-aimed held v) members
    where
      none : Rule
      none = record { symbol = 0; target = 0; sources = [] }

      tested : (i : ℕ) → i < length held.rules → eqb (get_or columns.symbols i 0) f ≡ eqb (get_or held.rules i none).symbol f
      tested i h = ap (λ (n : ℕ). eqb n f) (tabled.symbols i (omega (arith, v.few_rules)) ∙ cell-inside (λ rule. rule.symbol) held.rules i none h)

      agree : (q : ℕ) (rule : Rule) → Memᴰ rule held.rules → (eqb rule.symbol f && (eqb rule.target q && met rule sets)) ≡ gives f (take (arity_in held f) sets) q rule
      agree q rule m = go (eqb rule.symbol f) refl
        where
          go : (x : Bool) → eqb rule.symbol f ≡ x → (x && (eqb rule.target q && met rule sets)) ≡ (x && (eqb rule.target q && each_in rule.sources (take (arity_in held f) sets)))
          go false e = refl
          go true e =
              let same : length rule.sources ≡ arity_in held f = (valid-member rule m).suited ∙ ap (arity_in held) (eqb-true rule.symbol f e) in
              ap (λ (x : Bool). eqb rule.target q && x)
              (met-each rule sets (omega (arith, same, small-arity held f v)) long ∙ ap (λ (n : ℕ). each_in rule.sources (take n sets)) same)

      members : (q : ℕ) → has r q ≡ any_of (gives f (take (arity_in held f) sets) q) held.rules
      members q =
          scanned held.rules v.few_rules columns tabled (Some f) (λ rule. eqb rule.symbol f) none tested sets r scan q
          ∙ any_same (λ rule. eqb rule.symbol f && (eqb rule.target q && met rule sets)) (gives f (take (arity_in held f) sets) q) held.rules (agree q)

  -- a leaf's set
  pub leaf-reached : (columns : Columns) (f : ℕ) → Tabled held.rules columns → f < most_symbols → arity_in held f ≡ 0 → get_or columns.leaves f 0 ≡ reached_from held.rules f []
  unfolding gives each_in
  leaf-reached columns f tabled h leaf = reached-number held.rules f (get_or columns.leaves f 0) [] (valid-aimed held v) members
    where
      none_in : (sources : List ℕ) → length sources ≡ 0 → each_in sources [] ≡ true
      none_in [] e = refl
      none_in (x ∷ xs) e = absurd (omega arith)

      agree : (q : ℕ) (rule : Rule) → Memᴰ rule held.rules → (eqb rule.symbol f && eqb rule.target q) ≡ gives f [] q rule
      agree q rule m = go (eqb rule.symbol f) refl
        where
          go : (x : Bool) → eqb rule.symbol f ≡ x → (x && eqb rule.target q) ≡ (x && (eqb rule.target q && each_in rule.sources []))
          go false e = refl
          go true e =
              sym (and-true (eqb rule.target q))
              ∙ ap (λ (x : Bool). eqb rule.target q && x) (sym (none_in rule.sources ((valid-member rule m).suited ∙ ap (arity_in held) (eqb-true rule.symbol f e) ∙ leaf)))

      members : (q : ℕ) → has (get_or columns.leaves f 0) q ≡ any_of (gives f [] q) held.rules
      members q = tabled.leaves f q h ∙ any_same (λ rule. eqb rule.symbol f && eqb rule.target q) (gives f [] q) held.rules (agree q)
