-- This file states demand 2 for composed rows: when a call's build starts, what an accepted call gives, and what 12 refuses.
use Rattle.std.specs.Prelude.{ℕ, ◌+◌, ◌*◌, ◌≤◌, ◌<◌, ◌≡◌, true, List, length, get_or, replicate}
use Rattle.egg.specs.declared.Factor.{Factor}
use Rattle.egg.specs.Factor.{stretch}
use Rattle.build_lending.specs.Lending.{table_need, work_need, lent_right, within}
use Rattle.build_reading.specs.Reading.{composed_at}
use Rattle.theory.specs.Appearance.{recorded}
use Rattle.theory.specs.Parting.{Parting}
use Rattle.build_checks_laws.specs.Until12.{Until12}
use Rattle.build_reading_laws.specs.Read.{Readable}
use Rattle.factor_laws.specs.Accepted.{Accepted, factor_step}
use Rattle.build_laws.specs.Taken.{Taken}

-- The arguments of a call on composed rows are right, so that its build starts: 1, "more than 8 generators", and 4, "room 0 or above 65,535, or a lent buffer
-- short", have passed ("a composed list needs Rn entries").
pub record RowsRight (table : List ℕ) (start : ℕ) (work rows : List ℕ) (n room : ℕ) : Type 0 where
  pub generators : n ≤ 8
  pub lent : lent_right (length table) start (length work) room n ≡ true
  pub listed : room * n ≤ length rows

-- When 12 refuses, by what a host would see: the numbers are read, 8 to 11 pass, and there are an element and some turns after which a live viewer,
-- and one who composes once with the product of the turns along its recorded word, would stand on different elements.
pub record ViewersPart (src : ℕ → ℕ → ℕ) (n room N : ℕ) : Type 0 where
  pub readable : Readable src n room N
  pub back : ℕ → ℕ → ℕ
  pub until_12 : Until12 n N src back (recorded n src)
  pub parting : Parting n N src (recorded n src)

-- What an accepted call gives: the handle of the given stretch with as many elements as were taken; a factor that is accepted, whose steps are the
-- rows'; zeros in its rows beyond the last element and in the needed work; and everything else in both buffers as it was.
pub record Given (table : List ℕ) (start : ℕ) (work rows : List ℕ) (n room : ℕ) (f : Factor) (t w : List ℕ) : Type 1 where
  pub handle : f ≡ record { start = start; room = room; generators = n; elements = f.elements }
  pub taken : Taken (composed_at rows n) n room f.elements
  pub accepted : Accepted t f
  pub steps : {e g : ℕ} → e < f.elements → g < n → factor_step t f e g ≡ composed_at rows n e g
  pub beyond : {i : ℕ} → f.elements * (2 * n + 4) ≤ i → get_or (stretch t f) i 0 ≡ 0
  pub table_kept : t ≡ within table start (start + table_need n room) (stretch t f)
  pub work_zero : w ≡ within work 0 (work_need n room) (replicate (work_need n room) 0)
