-- What each test of 8 to 11 decides after a reading, place by place, in the words of the theory.
use Prim.Native.Nat.{ℕ, zero, suc, ◌+◌, ◌*◌, ◌≤◌, ◌<◌}
use mathlib.Core.Path.{◌≡◌, refl}
use mathlib.Core.Logic.{inl, inr}
use mathlib.Core.Bool.{Bool, true, false}
use mathlib.Core.List.{List}
use borrow.Author.Tests.{ne_eqb, eqb-true, eqb-false}
use native.Mathlib.Omega.{arith}
use native.Mathlib.Numerals.{add-one}
use lib.Dec.{eqb}
use lib.ListN.{length, get_or}
use Rattle.egg.specs.declared.Refusal.{Refusal}
use Rattle.egg.specs.Answers.{fine, numbered}
use Rattle.std.specs.Prelude.{Err}
use Rattle.egg.specs.Table.{pick, start_of, inverse_of, step_of}
use Rattle.egg.specs.Scan.{refused_of}
use Rattle.build_checks.specs.Checks.{missing_at, wrong_at}
use Rattle.build_checks_inverses.specs.Inverses.{fill_inverses, inverse_at}
use Rattle.theory.specs.Table.{Table, Columns, generator}
use Rattle.theory.specs.Words.{Parents, Recorded}
use Rattle.theory.specs.Regular.{inverse}
use Rattle.build_checks_laws.specs.Stored.{StoredTable}
use Rattle.build_checks_laws.proofs.Inverses.{fill_kept, stored_kept, step_is, inverse_small, fill_inverse}
use Rattle.build_reading_laws.specs.Read.{Read}
use Rattle.build_reading_laws.proofs.Readings.{read_steps}
use Rattle.promises_refusals.specs.Faults.{Unreached, WrongStep, stays, generator_row}
use Rattle.promises_refusals.proofs.Firsts.{Decides}

-- One test of two numbers that must be equal.
pub refused_different : {r : Refusal} (a b : ℕ) → Decides (¬ (a ≡ b)) r (pick (eqb a b) fine (Err r))
refused_different {r} a b = by (eqb a b) refl where
  by : (t : Bool) → eqb a b ≡ t → Decides (¬ (a ≡ b)) r (pick t fine (Err r))
  by true e = inr (λ n. n (eqb-true a b e), refl)
  by false e = inl (eqb-false a b e, refl)

-- 9's test of the numbers themselves.
wrong_decided : (src : ℕ → ℕ → ℕ) (e g : ℕ)
    → Decides (WrongStep src e g) (numbered 9 e g 0)
    (pick (eqb (src e g) e) (refused_of 9 e g 0) (pick (eqb e 0) fine (pick (eqb (src e g) (src 0 g)) (refused_of 9 e g 0) fine)))
wrong_decided src e g = by (eqb (src e g) e) (eqb e 0) (eqb (src e g) (src 0 g)) refl refl refl where
  by : (p q s : Bool) → eqb (src e g) e ≡ p → eqb e 0 ≡ q → eqb (src e g) (src 0 g) ≡ s
      → Decides (WrongStep src e g) (numbered 9 e g 0) (pick p (refused_of 9 e g 0) (pick q fine (pick s (refused_of 9 e g 0) fine)))
  by true q s a b c = inl (stays (eqb-true (src e g) e a), refl)
  by false true s a b c = inr (none, refl) where
    none : WrongStep src e g → ⊥
    none (stays z) = eqb-false (src e g) e a z
    none (generator_row pos z) = omega (arith, eqb-true e 0 b)
  by false false true a b c = inl (generator_row (omega (arith, eqb-false e 0 b)) (eqb-true (src e g) (src 0 g) c), refl)
  by false false false a b c = inr (none, refl) where
    none : WrongStep src e g → ⊥
    none (stays z) = eqb-false (src e g) e a z
    none (generator_row pos z) = eqb-false (src e g) (src 0 g) c z

module _ {src : ℕ → ℕ → ℕ} {n room size N : ℕ} {t : List ℕ} (R : Read src n room size N t) where
  -- 8, of predecessors.
  pub reached_decided : (e g : ℕ) → e < N → g < n → Decides (Unreached N src e g) (numbered 8 e g 0) (missing_at t n n e g)
  reached_decided e g he hg = by (get_or t (start_of n e + n + g) 0) refl where
    by : (x : ℕ) → get_or t (start_of n e + n + g) 0 ≡ x → Decides (Unreached N src e g) (numbered 8 e g 0) (pick (eqb x 0) (refused_of 8 e g 0) fine)
    by zero q = inl (λ x hx z. R.arrived hx hg z q, refl)
    by (suc x) q = inr (λ u. let p = R.predecessor he hg q in u x p.0 p.1, simp (ne_eqb (suc x) 0 (λ z. omega arith)))

  -- 9.
  pub steps_decided : (e g : ℕ) → e < N → g < n → Decides (WrongStep src e g) (numbered 9 e g 0) (wrong_at t n e g)
  steps_decided e g he hg = rw (read_steps R e g he hg, read_steps R 0 g R.origin hg) (wrong_decided src e g)

module _ {n N : ℕ} {step back : ℕ → ℕ → ℕ} {parent last : ℕ → ℕ} {word : ℕ → List ℕ} {t : List ℕ}
    (small : N ≤ 65535) (room : N * (2 * n + 4) ≤ length t) (S : StoredTable t n N step back parent last word)
    (T : Table n N step) (P : Parents n N step parent last) (R : Recorded N parent last word) (C : Columns n N step back) where
  filled : (e : ℕ) → e < N → inverse_of (fill_inverses N t n 0) n e ≡ inverse back word e
  filled e he = fill_inverse T P R C small N t room S 0 (omega arith) e (omega arith) (omega arith)

  -- 10.
  pub inverses_decided : (e : ℕ) → e < N
      → Decides (¬ (inverse back word (inverse back word e) ≡ e)) (numbered 10 e (inverse back word e) (inverse back word (inverse back word e)))
      (inverse_at (fill_inverses N t n 0) n e)
  inverses_decided e he = rw (filled e he, filled (inverse back word e) (inverse_small T P R C he)) (refused_different (inverse back word (inverse back word e)) e)

  -- 11.
  pub identity_decided : (g : ℕ) → g < n
      → Decides (¬ (generator step g ≡ suc g)) (numbered 11 g 0 0) (pick (eqb (step_of (fill_inverses N t n 0) n 0 g) (g + 1)) fine (refused_of 11 g 0 0))
  identity_decided g hg = rw (step_is (stored_kept (fill_kept t n N) S) T.origin hg, add-one g) (refused_different (step 0 g) (suc g))
