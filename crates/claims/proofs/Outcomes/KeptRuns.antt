-- There is a set of the productive states: a row whose sources are all in a set adds its target, until no row adds anything. So the promises of `run` and `productive` are kept.
use Prim.Native.Nat.{ℕ, zero, suc, ◌+◌, ◌^◌, ◌≤◌, ◌<◌}
use native.Mathlib.Omega.{arith}
use mathlib.Core.Path.{◌≡◌, refl, sym, ◌∙◌, ap, subst}
use mathlib.Core.Bool.{Bool, true, false, ◌||◌, false≢true}
use mathlib.Core.Logic.{◌⊎◌, inl, inr}
use mathlib.Core.List.Memᴰ
use mathlib.Core.List.{List, [], ◌∷◌, Memᴰ}
use lib.Bits.{bit_or, or_lt}
use lib.Pow.{pow-lt}
use lib.Dec.{eqb}
use borrow.Author.Tests.{eqb-true, eq-eqb}
use Rattle.sets.specs.Members.{has}
use Rattle.sets.proofs.Bits.{has-or, has-pow, has-zero}
use Rattle.automaton.specs.Held.{Rule, Held, ValidRule, Valid}
use Rattle.ground.specs.Lists.{All}
use Rattle.automaton.specs.Checks.{Verdict, verdict, holds, fault}
use Rattle.automaton.specs.declared.Refusal.{Refusal}
use Rattle.automaton.specs.Refusals.{no_refusal, fault_refusal}
use Rattle.automaton.proofs.Files.Pair.{verdict-valid}
use Rattle.automaton.proofs.Files.Faults.{fault-number}
use Rattle.meaning.specs.Trees.{Tree}
use Rattle.trees.specs.declared.ReachedStates.{ReachedStates}
use Rattle.trees.specs.Words.{IsTree, NoTree}
use Rattle.trees.proofs.Answers.{decide-tree}
use Rattle.trees.specs.declared.ProductiveStates.{ProductiveStates}
use Rattle.trees.specs.Runs.{Productive, ProductiveSet}
use Rattle.trees.specs.Promises.{no_run, RunPromise, no_states, ProductivePromise}
use Rattle.trees.proofs.Producing.{Closed, productive-in, productive-closed, grows}
use Rattle.trees.proofs.Promised.{run_answer, answer-promised, productive-fault, productive-held}
use Rattle.ground.proofs.Lists.{all_map, of-all}
use Rattle.claims.specs.Types.{RefusalFits, ReachedFits, ProductiveFits}
use Rattle.claims.specs.Kept.{Kept}
use Rattle.claims.proofs.Outcomes.TypedValues.{small-set, reaches-small}

-- a row that adds something to a set, or none does
abbrev Adds : ℕ → Rule → Type 0
Adds have rule = All (λ q. has have q ≡ true) rule.sources × (has have rule.target ≡ false)

dec-in : (have : ℕ) (qs : List ℕ) → Dec (All (λ q. has have q ≡ true) qs)
dec-in have [] = yes tt
dec-in have (q ∷ qs) = go (has have q) refl (dec-in have qs)
  where
    go : (b : Bool) → has have q ≡ b → Dec (All (λ q. has have q ≡ true) qs) → Dec (All (λ q. has have q ≡ true) (q ∷ qs))
    go true e (yes a) = yes (e, a)
    go true e (no n) = no (λ a. n a.1)
    go false e d = no (λ a. false≢true (sym e ∙ a.0))

some-adds : (have : ℕ) (rules : List Rule) → ((rule : Rule) × Memᴰ rule rules × Adds have rule) ⊎ Closed rules (λ q. has have q ≡ true)
some-adds have [] = inr (λ rule m a. absurd (Memᴰ.not-nil m))
some-adds have (rule ∷ rules) = go (dec-in have rule.sources) (has have rule.target) refl (some-adds have rules)
  where
    later : Closed rules (λ q. has have q ≡ true) → (All (λ q. has have q ≡ true) rule.sources → has have rule.target ≡ true)
        → (other : Rule) → Memᴰ other (rule ∷ rules) → All (λ q. has have q ≡ true) other.sources → has have other.target ≡ true
    later c h other (Memᴰ.head e) a =
        subst (λ (r : Rule). has have r.target ≡ true) (sym e) (h (subst (λ (r : Rule). All (λ q. has have q ≡ true) r.sources) e a))
    later c h other (Memᴰ.tail m) a = c other m a

    go : Dec (All (λ q. has have q ≡ true) rule.sources) → (b : Bool) → has have rule.target ≡ b
        → ((r : Rule) × Memᴰ r rules × Adds have r) ⊎ Closed rules (λ q. has have q ≡ true)
        → ((r : Rule) × Memᴰ r (rule ∷ rules) × Adds have r) ⊎ Closed (rule ∷ rules) (λ q. has have q ≡ true)
    go (yes a) false e rest = inl (rule, Memᴰ.head refl, (a, e))
    go (yes a) true e (inl x) = inl (x.0, Memᴰ.tail x.1, x.2)
    go (yes a) true e (inr c) = inr (later c (λ _. e))
    go (no n) b e (inl x) = inl (x.0, Memᴰ.tail x.1, x.2)
    go (no n) b e (inr c) = inr (later c (λ a. absurd (n a)))

module _ (held : Held) (v : Valid held) where
  -- the set with the target of such a row
  module _ (have : ℕ) (small : have < 2 ^ 16) (sound : (q : ℕ) → has have q ≡ true → Productive held.rules q)
      (rule : Rule) (m : Memᴰ rule held.rules) (adds : Adds have rule) where
    next : ℕ
    next = bit_or have (2 ^ rule.target)

    next-has : (q : ℕ) → has next q ≡ (has have q || eqb q rule.target)
    unfolding next
    next-has q = has-or have (2 ^ rule.target) q ∙ ap (has have q ||◌) (has-pow rule.target q)

    next_small : next < 2 ^ 16
    unfolding next
    next_small =
        let valid = of-all (ValidRule held.states held.arities) held.rules v.valid_rules m in
        or_lt 16 have (2 ^ rule.target) small (pow-lt {i = rule.target} {j = 16} (omega (arith, valid.aimed, v.few_states)))

    next_more : have < next
    unfolding next
    next_more = grows have (2 ^ rule.target) (λ same. false≢true (sym adds.1 ∙ ap (λ (n : ℕ). has n rule.target) (sym same) ∙ next-has rule.target ∙ rw (adds.1, eq-eqb rule.target rule.target refl)))

    next-sound : (q : ℕ) → has next q ≡ true → Productive held.rules q
    next-sound q e = go (has have q) refl
      where
        go : (b : Bool) → has have q ≡ b → Productive held.rules q
        go true d = sound q d
        go false d =
            let new : eqb q rule.target ≡ true = sym (ap (λ (b : Bool). b || eqb q rule.target) d) ∙ sym (next-has q) ∙ e in
            subst (Productive held.rules) (sym (eqb-true q rule.target new)) (productive-closed held.rules rule m (all_map rule.sources sound adds.0))

  -- what is found so far is productive; each turn makes the set a larger number
  climbed : (turns have : ℕ) → have < 2 ^ 16 → 2 ^ 16 ≤ have + turns → ((q : ℕ) → has have q ≡ true → Productive held.rules q) → (found : ℕ) × ProductiveSet held.rules found
  climbed zero have small turns sound = absurd (omega arith)
  climbed (suc turns) have small h sound = go (some-adds have held.rules) (climbed turns)
    where
      go : ((rule : Rule) × Memᴰ rule held.rules × Adds have rule) ⊎ Closed held.rules (λ q. has have q ≡ true)
          → ((n : ℕ) → n < 2 ^ 16 → 2 ^ 16 ≤ n + turns → ((q : ℕ) → has n q ≡ true → Productive held.rules q) → (found : ℕ) × ProductiveSet held.rules found)
          → (found : ℕ) × ProductiveSet held.rules found
      go (inr closed) again = (have, λ q. (sound q, productive-in held.rules (λ p. has have p ≡ true) closed q))
      go (inl x) again =
          let more = next_more have small sound x.0 x.1 x.2 in
          again (next have small sound x.0 x.1 x.2) (next_small have small sound x.0 x.1 x.2) (omega arith) (next-sound have small sound x.0 x.1 x.2)

  productive-set : (found : ℕ) × ProductiveSet held.rules found
  productive-set = climbed (2 ^ 16) 0 (omega arith) (omega arith) (λ q e. absurd (false≢true (sym (has-zero q) ∙ e)))

pub productive-kept : (file : List ℕ) → Kept ProductiveFits (ProductivePromise file)
unfolding no_states
productive-kept file = go (verdict file) refl
  where
    go : (w : Verdict) → verdict file ≡ w → Kept ProductiveFits (ProductivePromise file)
    go (fault number offset) e = (no_states (fault_refusal number offset), productive-fault file number offset e, omega (arith, fault-number file number offset e))
    go (holds held) e =
        let v = verdict-valid file held e in
        let c = productive-set held v in
        let r : ProductiveStates = record { refusal = no_refusal; states = record { 0 = c.0 } } in
        (r, productive-held file held r e (record { done = refl; productive = c.1 }), (omega arith, small-set c.0 (λ q h. let t = (c.1 q).0 h in reaches-small held v t.0 q t.1)))

-- ---- the run of a tree

pub run-kept : (file words : List ℕ) → Kept ReachedFits (RunPromise file words)
unfolding no_run
run-kept file words = (r, answer-promised file words, go (verdict file) refl)
  where
    r : ReachedStates
    r = run_answer file words

    p : RunPromise file words r
    p = answer-promised file words

    none : {given : Refusal} → RefusalFits given → r ≡ no_run given → ReachedFits r
    none f e = subst ReachedFits (sym e) (f, omega arith)

    tree : (held : Held) → verdict file ≡ holds held → ((t : Tree) × IsTree held words t) ⊎ NoTree held words → ReachedFits r
    tree held e (inr n) = none (omega arith) (p.no_tree held e n)
    tree held e (inl x) =
        let run = p.one_tree held x.0 e x.1 in
        (omega (arith, ap (λ (a : Refusal). a.number) run.done), small-set r.states.0 (λ q h. reaches-small held (verdict-valid file held e) x.0 q ((run.reached q).0 h)))

    go : (v : Verdict) → verdict file ≡ v → ReachedFits r
    go (fault number offset) e = none (omega (arith, fault-number file number offset e)) (p.faulty number offset e)
    go (holds held) e = tree held e (decide-tree held words)
