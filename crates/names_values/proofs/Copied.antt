-- The law of a name that is copied over zeros.
use Prim.Native.Nat.{ℕ, zero, suc, ◌-◌}
use mathlib.Core.Path.{◌≡◌, ap, ◌∙◌}
use native.Mathlib.Omega.{arith}
use mathlib.Core.List.{List, ◌++◌}
use lib.ListN.{length, take, drop, replicate}
use lib.Seq.{take-length}
use Rattle.names_values.specs.declared.Name.{Name}
use Rattle.names_values.specs.Names.{name_of}

drop_same : {A : Type 0} (x : A) (k n : ℕ) → drop k (replicate n x) ≡ replicate (n - k) x
drop_same x zero n = let z : n ≡ n - 0 = omega arith in ap (λ k. replicate k x) z
drop_same x (suc k) zero = let z : 0 ≡ zero - suc k = omega arith in ap (λ i. replicate i x) z
drop_same x (suc k) (suc n) = let z : n - k ≡ suc n - suc k = omega arith in drop_same x k n ∙ ap (λ i. replicate i x) z

pub copied_name : (b : List ℕ) {out : List ℕ} {k : ℕ} → out ≡ take (length b) b ++ drop (length b) (replicate 32 0) → k ≡ length b
    → ◌≡◌ {A = Name} (record { bytes = out; length = k }) (name_of b)
copied_name b p q = rw (p, q, take-length b, drop_same {A = ℕ} 0 (length b) 32)
