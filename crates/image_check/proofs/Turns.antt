-- The turns of check 12 over generators, and what the whole judgement comes to for each answer.
use Prim.Native.Nat.{ℕ, ◌+◌, ◌-◌, ◌≤◌, ◌<◌}
use mathlib.Core.Path.{◌≡◌, refl, ap}
use mathlib.Core.List.{List}
use native.Mathlib.Nat.{sub-eq-zero_of_le}
use borrow.Author.Tests.{lt-ltb, le-ltb}
use lib.ListN.{length, replicate}
use Rattle.egg.specs.declared.Refusal.{Refusal}
use Rattle.egg.specs.Answers.{Counted, Verdict, fine}
use Rattle.std.specs.Prelude.{Ok, Err}
use Rattle.egg.specs.Scan.{refused_of}
use Rattle.egg.proofs.Scans.{left_suc}
use Rattle.build_checks_group.specs.Lefts.{fill_left, all_go, left, left_verdict, lefts}
use Rattle.build_reading.specs.Reading.{placed, read_all, composed_at}
use Rattle.image_check.specs.Short.{short_table, short, SomeWork, judged}

module _ (t w w₁ : List ℕ) (n count s : ℕ) {v : Verdict} (h : s < n) (filled : w₁ ≡ fill_left count t n s w 0) (told : v ≡ all_go t w₁ n count) where
  pub lefts_next : v ≡ fine → lefts (n - (s + 1)) t n count w₁ (s + 1) ≡ lefts (n - s) t n count w s
  unfolding lefts
  lefts_next e = rw (left_suc h, ← filled, ← told, e)

  pub lefts_stop : {r : Refusal} → v ≡ Err r → left v w₁ ≡ lefts (n - s) t n count w s
  unfolding lefts
  lefts_stop e = rw (left_suc h, ← filled, ← told, e)

pub lefts_end : (t w : List ℕ) (n count s : ℕ) → n ≤ s → left fine w ≡ lefts (n - s) t n count w s
unfolding lefts
lefts_end t w n count s h = rw (sub-eq-zero_of_le h)

-- All checks: the table's verdict stands where it is a refusal, and else 12 is tested with what the work holds then.
module _ (t w t₁ : List ℕ) (n count : ℕ) {v : Verdict} (told : left v t₁ ≡ short_table t n count) where
  pub short_refused : {r : Refusal} → v ≡ Err r → SomeWork (length w) (λ z. v ≡ short t z n count)
  unfolding short
  short_refused e = record { work = w; as_long = refl; holds = rw (← told, e) }

  pub short_rest_lem : (w₁ w₂ : List ℕ) {u : Verdict} → v ≡ fine → length w₁ ≡ length w → left u w₂ ≡ lefts n t₁ n count w₁ 0
      → SomeWork (length w) (λ z. u ≡ short t z n count)
  unfolding short
  short_rest_lem w₁ w₂ e k q = record { work = w₁; as_long = k; holds = rw (← told, e) (ap left_verdict q) }

-- The judgement, by what the reading gave.
module _ (size : ℕ) (w rows : List ℕ) (n room : ℕ) {c : Counted} (t : List ℕ)
    (read : placed c t ≡ read_all (composed_at rows n) n room (replicate size 0)) where
  pub judged_refused : {r : Refusal} → c ≡ Err r → SomeWork (length w) (λ z. Err r ≡ judged size z rows n room)
  unfolding judged
  judged_refused e = record { work = w; as_long = refl; holds = rw (← read, e) }

  pub judged_fewer : {k : ℕ} {v : Verdict} → c ≡ Ok k → k < room → v ≡ refused_of 16 0 0 0 → SomeWork (length w) (λ z. v ≡ judged size z rows n room)
  unfolding judged
  judged_fewer e h q = record { work = w; as_long = refl; holds = rw (← read, e) (simp (lt-ltb _ _ h) q) }

  pub judged_whole : {k : ℕ} {v : Verdict} → c ≡ Ok k → room ≤ k → SomeWork (length w) (λ z. v ≡ short t z n room)
      → SomeWork (length w) (λ z. v ≡ judged size z rows n room)
  unfolding judged
  judged_whole e h q = record { work = q.work; as_long = q.as_long; holds = rw (← read, e) (simp (le-ltb _ _ h) q.holds) }
