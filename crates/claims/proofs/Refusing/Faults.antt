-- A file's fault has one of the numbers 1 to 5: as a list of them.
use Prim.Native.Nat.{ℕ, zero, suc, ◌≤◌}
use native.Mathlib.Omega.{arith}
use mathlib.Core.Path.{◌≡◌, refl}
use mathlib.Core.List.{List, Memᴰ}
use Rattle.automaton.specs.Checks.{verdict, fault}
use Rattle.automaton.proofs.Files.Faults.{fault-number}
use Rattle.claims.specs.Refusals.{file_numbers}

listed : (n : ℕ) → 1 ≤ n → n ≤ 5 → Memᴰ n file_numbers
listed zero h k = absurd (omega arith)
listed (suc zero) h k = Memᴰ.head refl
listed (suc (suc zero)) h k = Memᴰ.tail (Memᴰ.head refl)
listed (suc (suc (suc zero))) h k = Memᴰ.tail (Memᴰ.tail (Memᴰ.head refl))
listed (suc (suc (suc (suc zero)))) h k = Memᴰ.tail (Memᴰ.tail (Memᴰ.tail (Memᴰ.head refl)))
listed (suc (suc (suc (suc (suc zero))))) h k = Memᴰ.tail (Memᴰ.tail (Memᴰ.tail (Memᴰ.tail (Memᴰ.head refl))))
listed (suc (suc (suc (suc (suc (suc n)))))) h k = absurd (omega arith)

pub fault-listed : (file : List ℕ) (number offset : ℕ) → verdict file ≡ fault number offset → Memᴰ number file_numbers
fault-listed file number offset e = let n = fault-number file number offset e in listed number n.0 n.1
