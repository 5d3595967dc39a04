-- What 13 says.
use Rattle.egg.specs.Refusals.{numbered}
use Rattle.std.specs.Prelude.{ℕ, ◌≡◌}
use Rattle.egg.specs.declared.Refusal.{Refusal}
use Rattle.theory.specs.Words.{walk}
use Rattle.theory.specs.Presentation.{alternate, Relator}

-- The refusal r is 13, "a relation fails", with its places, "element, generator, generator"; and a relator of these two generators does not lead from
-- e back to e.
pub record Fails (n : ℕ) (m step : ℕ → ℕ → ℕ) (e : ℕ) (r : Refusal) : Type 0 where
  pub first : ℕ
  pub second : ℕ
  pub times : ℕ
  pub places : r ≡ numbered 13 e first second
  pub relator : Relator n m (alternate first second times)
  pub broken : walk step e (alternate first second times) ≡ e → ⊥
