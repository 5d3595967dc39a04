-- What stands in the work at first decides nothing about the end of a build: two works as long as each other give one outcome.
use Prim.Native.Nat.{ℕ}
use mathlib.Core.Path.{◌≡◌, refl, sym, ap, ◌∙◌}
use mathlib.Core.List.{List}
use native.Mathlib.Omega.{arith}
use lib.ListN.{length, replicate}
use Rattle.egg.specs.Answers.{Counted}
use Rattle.std.specs.Prelude.{Ok, Err}
use Rattle.build_checks.specs.Checks.{Checked, checked, check_group}
use Rattle.build_lending.specs.Finish.{built, zeroed, settled_by, finished}
use Rattle.build_lending.proofs.Finishing.{built_with, settled_like}
use Rattle.build_checks_laws.proofs.AnyWork as checks
use Rattle.build_checks_laws.proofs.Lengths.{checks_work}

pub any_work : (c : Counted) (n : ℕ) (t w w' : List ℕ) → length w ≡ length w' → finished c n t w ≡ finished c n t w'
unfolding finished
any_work (Ok N) n t w w' long =
    by (check_group t w n N) (check_group t w' n N) refl refl (checks.any_work t n N w w' (λ i h l. omega (arith, long)) (λ i h l. omega (arith, long))) where
      by : (c c' : Checked) → check_group t w n N ≡ c → check_group t w' n N ≡ c' → checks.Like c c' → settled_by n N c ≡ settled_by n N c'
      by (checked v t₁ w₁) (checked v' t₂ w₂) p q L =
          settled_like n N w₁ w₂ L.0 L.1
          ∙ ap (λ (k : ℕ). built_with (replicate k 0) (settled_by n N (checked v' t₂ w₂))) (checks_work t w n N p ∙ long ∙ sym (checks_work t w' n N q))
          ∙ sym (settled_like n N {v = v'} {t = t₂} w₂ w₂ refl refl)
any_work (Err r) n t w w' long = ap (λ (k : ℕ). built (Err r) (zeroed t) (replicate k 0)) long
