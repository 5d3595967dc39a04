-- What the two maps of a numbering hold, during it and after it. `inn` leads from the set outside, 0 .. M-1, to the numbers, `outw` from the numbers
-- to the set outside; they have M and K numbers.
use Rattle.std.specs.Prelude.{ℕ, ◌≤◌, ◌<◌, ◌≡◌, List, length, get_or}
use Rattle.theory.specs.Orbit.{Orbit, Renumbered}
use Rattle.build_reading.specs.Reading.{Placed}
use Rattle.build_numbering.specs.Renumber.{no_number, Mapped, mapped}

-- What a numbering has placed in the table, and nothing of the maps.
abbrev pub placed_of : Mapped → Placed
placed_of (mapped p inn outw) = p

-- When c elements are known, of which e is `elt e` outside: `inn` has the number of each of these and `no_number` for the others; `outw` has the outside
-- element of each number, and zero beyond the last.
pub record MapsFilled (M room K : ℕ) (elt : ℕ → ℕ) (c : ℕ) (inn outw : List ℕ) : Type 0 where
  pub within : c ≤ room
  pub inn_size : length inn ≡ M
  pub outw_size : length outw ≡ K
  pub numbers : {e : ℕ} → e < c → get_or inn (elt e) 0 ≡ e
  pub others : {x : ℕ} → x < M → ((e : ℕ) → e < c → elt e ≡ x → ⊥) → get_or inn x 0 ≡ no_number
  pub elements : {e : ℕ} → e < c → get_or outw e 0 ≡ elt e
  pub beyond : {e : ℕ} → c ≤ e → get_or outw e 0 ≡ 0

-- `Renumbered` of two lists, which say besides what is not reached: `inn` has `no_number` for it. Beyond the last element `outw` is zero.
pub record RenumberedLists (n M room K : ℕ) (out : ℕ → ℕ → ℕ) (x₀ c : ℕ) (step : ℕ → ℕ → ℕ) (inn outw : List ℕ) : Type 0 where
  pub renumbered : Renumbered n M out x₀ c step (λ x. get_or inn x 0) (λ e. get_or outw e 0)
  pub reached : {x : ℕ} → x < M → ¬ (get_or inn x 0 ≡ no_number) → Orbit n out x₀ x
  pub unreached : {x : ℕ} → x < M → ¬ Orbit n out x₀ x → get_or inn x 0 ≡ no_number
  pub beyond : {e : ℕ} → c ≤ e → get_or outw e 0 ≡ 0
  pub within : c ≤ room
  pub inn_size : length inn ≡ M
  pub outw_size : length outw ≡ K
