-- Which checks always pass: after any reading and any finished run every stored number is in range, and after a finished run no step is missing.
use Prim.Native.Nat.{ℕ, zero, suc, ◌+◌, ◌*◌, ◌-◌, ◌<◌, ◌≤◌}
use mathlib.Core.Path.{◌≡◌, refl}
use mathlib.Core.List.{List}
use native.Mathlib.Decide.{dec_lt}
use native.Mathlib.Omega.{arith}
use lib.ListN.{get_or}
use Rattle.egg.specs.Answers.{fine}
use Rattle.egg.specs.Table.{start_of}
use Rattle.build_checks.specs.Checks.{check8, ranges}
use Rattle.theory.proofs.Counting.{numbered_table}
use Rattle.build_checks_laws.proofs.Tests.{check8_fine, ranges_fine}
use Rattle.build_reading_laws.specs.Read.{Read}
use Rattle.enumeration_run_laws.specs.Going.{Finished}

-- A number of a row's steps is none or one more than an element.
steps_small : (t : List ℕ) (n N e : ℕ) → ((g r : ℕ) → g < n → get_or t (start_of n e + g) 0 ≡ suc r → r < N)
    → ((g r : ℕ) → g < n → get_or t (start_of n e + n + g) 0 ≡ suc r → r < N) → (k : ℕ) → k < 2 * n → get_or t (start_of n e + k) 0 ≤ N
steps_small t n N e succ back k hk = by (get_or t (start_of n e + k) 0) refl (dec_lt k n) where
  by : (v : ℕ) → get_or t (start_of n e + k) 0 ≡ v → Dec (k < n) → v ≤ N
  by zero q d = omega arith
  by (suc r) q (yes h) = succ k r h q
  by (suc r) q (no h) =
      let i : start_of n e + k ≡ start_of n e + n + (k - n) = omega arith in
      back (k - n) r (omega arith) (rw i at q)

module _ {n : ℕ} {o : List ℕ} {room lt lw N : ℕ} {t w : List ℕ} (F : Finished n o room lt lw N t w) where
  -- 8 is never given after a finished run.
  pub finished_8 : check8 t n N ≡ fine
  finished_8 = (check8_fine t n N).1 (
    λ e he g hg. F.seen e g he hg,
    λ e he g hg. let i : start_of n e + n + g ≡ start_of n e + (n + g) = omega arith in rw i (F.backs e g he hg),
  )

  -- Nor 17 in what is read.
  pub finished_ranges : ranges t n N ≡ fine
  finished_ranges = (ranges_fine t n N).1 (λ e he. (
    steps_small t n N e (λ g r hg q. ((F.run.table.marks (start_of n e + g)).succ e g r hg refl q).to_below)
        (λ g r hg q. ((F.run.table.marks (start_of n e + n + g)).back e g r hg refl q).from_below),
    (F.short e he, λ pos. (F.run.table.words.earlier e pos he, F.run.table.words.generator e pos he)),
  ))

pub read_ranges : {src : ℕ → ℕ → ℕ} {n room size N : ℕ} {t : List ℕ} → Read src n room size N t → ranges t n N ≡ fine
read_ranges {src} {n} {room} {size} {N} {t} R = (ranges_fine t n N).1 (λ e he. (
  steps_small t n N e
      (λ g r hg q. omega (arith, (numbered_table R.by_rule).closed he hg, R.successor he hg))
      (λ g r hg q. (R.predecessor he hg q).0),
  (R.short he, λ pos. ((R.appearance.first pos he).earlier, (R.appearance.first pos he).generator)),
))
