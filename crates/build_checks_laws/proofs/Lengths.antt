-- The checks keep the length of the work.
use Prim.Native.Nat.{ℕ, zero, suc, ◌+◌}
use mathlib.Core.Path.{◌≡◌, refl, ap, ◌∙◌, subst}
use mathlib.Core.List.{List}
use lib.ListN.{length}
use Rattle.egg.specs.Answers.{Verdict}
use Rattle.std.specs.Prelude.{Ok, Err}
use Rattle.build_checks_group.specs.Lefts.{fill_left, all_go, Lefts, left, then_left, lefts, check_steps}
use Rattle.build_checks.specs.Checks.{Checked, checked, then_checked, with_table, counted, check_rest, check_group, check_table, counts_right}
use Rattle.build_checks_inverses.specs.Inverses.{fill_inverses, inverses_right}
use Rattle.build_checks_laws.proofs.Lefts.{left_length}
use Rattle.build_checks_laws.proofs.Arrivals.{counted_length}

abbrev left_work : Lefts → List ℕ
left_work (left v w) = w

abbrev work_of : Checked → List ℕ
work_of (checked v t w) = w

either_left : (k : ℕ) (v : Verdict) (w : List ℕ) (l : Lefts) → length w ≡ k → length (left_work l) ≡ k → length (left_work (then_left v w l)) ≡ k
either_left k (Ok _) w l here later = later
either_left k (Err r) w l here later = here

lefts_length : (k : ℕ) (t : List ℕ) (n N : ℕ) (w : List ℕ) (s : ℕ) → length (left_work (lefts k t n N w s)) ≡ length w
unfolding lefts
lefts_length zero t n N w s = refl
lefts_length (suc k) t n N w s =
    let f = fill_left N t n s w 0 in
    let h : length f ≡ length w = left_length N t n s w 0 in
    either_left (length w) (all_go t f n N) f _ h (lefts_length k t n N f (s + 1) ∙ h)

either_work : (k : ℕ) (v : Verdict) (t w : List ℕ) (c : Checked) → length w ≡ k → length (work_of c) ≡ k → length (work_of (then_checked v t w c)) ≡ k
either_work k (Ok _) t w c here later = later
either_work k (Err r) t w c here later = here

with_work_lem : (t : List ℕ) (l : Lefts) → work_of (with_table t l) ≡ left_work l
with_work_lem t (left v w) = refl

pub checks_work : (t w : List ℕ) (n N : ℕ) {v : Verdict} {t₁ w₁ : List ℕ} → check_group t w n N ≡ checked v t₁ w₁ → length w₁ ≡ length w
unfolding check_group check_rest
checks_work t w n N h =
    let f = fill_inverses N t n 0 in
    let c = counted t w n N in
    let q : length c ≡ length w = counted_length t w n N in
    subst (λ x. length (work_of x) ≡ length w) h
    (either_work (length w) (check_table t n N) t w _ refl
    (either_work (length w) (counts_right c n N) t c _ q
    (either_work (length w) (inverses_right f n N) f c _ q
    (either_work (length w) (check_steps f n N) f c _ q (ap length (with_work_lem f (lefts n f n N c 0)) ∙ lefts_length n f n N c 0 ∙ q)))))
