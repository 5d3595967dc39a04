-- Where both runs are at their end, their tables are one list.
use Prim.Native.Nat.{ℕ, ◌+◌, ◌*◌, ◌-◌, ◌/◌, ◌%◌, ◌<◌}
use mathlib.Core.Path.{◌≡◌, sym, ◌∙◌}
use mathlib.Core.List.{List}
use native.Mathlib.Decide.{ℕ_discrete, dec_lt}
use native.Mathlib.Omega.{arith}
use native.Mathlib.Nat.{mod-lt, div-add-mod}
use lib.ListN.{get_or}
use lib.Seq.{ext_get_or}
use Rattle.egg.specs.Table.{start_of}
use Rattle.enumeration_run_laws.specs.Invariant.{StepKnown}
use Rattle.enumeration_quick_laws.proofs.Beside.{Beside}

module _ {n : ℕ} {o : List ℕ} {lt lw : ℕ} {F : List ℕ} {N : ℕ} {t w : List ℕ} (B : Beside n o lt lw F N F t w)
    (all : (e g : ℕ) → e < N → g < n → StepKnown n F e g) where
  steps_match : (e g : ℕ) → g < n → get_or t (start_of n e + g) 0 ≡ get_or F (start_of n e + g) 0
  steps_match e g hg = by (dec_lt e N) (ℕ_discrete (get_or t (start_of n e + g) 0) 0) where
    by : Dec (e < N) → Dec (get_or t (start_of n e + g) 0 ≡ 0) → get_or t (start_of n e + g) 0 ≡ get_or F (start_of n e + g) 0
    by (yes h) d =
        let f : get_or F (start_of n e + g) 0 ≡ 0 → ⊥ = all e g h hg in
        let s = B.closed.machine.told.succ e g hg (B.known e g hg f) in
        omega arith
    by (no h) (yes z) = z ∙ sym (B.two_way.blank e g (omega arith) (omega arith))
    by (no h) (no d) = absurd (h (B.closed.machine.told.from_below e g hg d))

  cells_match : (e k : ℕ) → k < 2 * n + 4 → get_or t (start_of n e + k) 0 ≡ get_or F (start_of n e + k) 0
  cells_match e k hk = by (dec_lt k n) (dec_lt k (2 * n)) where
    by : Dec (k < n) → Dec (k < 2 * n) → get_or t (start_of n e + k) 0 ≡ get_or F (start_of n e + k) 0
    by (yes h) d = steps_match e k h
    by (no l) (yes h) =
        let g = k - n in
        let hg : g < n = omega arith in
        let i : n + g ≡ k = omega arith in
        rw (← i) (B.closed.machine.told.back e g hg ∙ steps_match e g hg ∙ sym (B.two_way.back e g hg))
    by (no l) (no h) = B.rest e k (omega arith) hk

  pub tables_match : t ≡ F
  unfolding start_of
  tables_match = ext_get_or 0 t F (B.closed.machine.table_length ∙ sym B.two_way.size) (λ i h.
      let d = 2 * n + 4 in
      let low : i % d < d = mod-lt i (omega arith) in
      let place : i / d * d + i % d ≡ i = omega (arith, div-add-mod i d) in
      rw place at (cells_match (i / d) (i % d) low))
