-- An accepted end of a build, whatever was built: what it keeps of the table before it, and what it gives.
use Prim.Native.Nat.{ℕ, ◌+◌, ◌*◌, ◌≤◌, ◌<◌}
use mathlib.Core.Path.{◌≡◌, refl, ap, ◌∙◌, subst}
use mathlib.Core.List.{List}
use lib.ListN.{length, replicate}
use Rattle.egg.specs.Answers.{Counted, fine}
use Rattle.std.specs.Prelude.{Ok, Err}
use Rattle.build_word_cells.specs.Hops.{with_hops, Hops}
use Rattle.build_word_cells.proofs.Hops.{hops_there}
use Rattle.build_checks.specs.Checks.{Checked, checked, check_group}
use Rattle.build_lending.specs.Finish.{built, zeroed, settled_by, finished}
use Rattle.build_lending.proofs.Finishing.{refused_counted}
use Rattle.build_checks_laws.specs.Stored.{Kept}
use Rattle.build_checks_laws.specs.Sound.{Sound}
use Rattle.build_checks_laws.proofs.Accepted.{checks_sound, checks_kept}
use Rattle.build_checks_laws.proofs.Inverses.{kept_then}
use Rattle.build_checks_laws.proofs.Hopping.{hops_kept, hopping_sound}
use Rattle.build_checks_laws.proofs.Lengths.{checks_work}

-- The checks passed, the letters before the last were put in, and the work was wiped.
pub record Settled (n N : ℕ) (k : Checked) (t w : List ℕ) : Type 0 where
  pub table : List ℕ
  pub work : List ℕ
  pub checks : k ≡ checked fine table work
  pub lettered : t ≡ with_hops N table n
  pub wiped : w ≡ zeroed work

pub settle : {n N : ℕ} {k : Checked} {t w : List ℕ} → k ≡ checked fine t w → Settled n N k (with_hops N t n) (zeroed w)
settle {t = t} {w} h = record { table = t; work = w; checks = h; lettered = refl; wiped = refl }

pub by_check : {n c N : ℕ} {t w : List ℕ} (k : Checked) → settled_by n c k ≡ built (Ok N) t w → (c ≡ N) × Settled n N k t w
by_check {n} {c} {N} {t} {w} (checked (Ok _) t₁ w₁) q = (cc, record { table = t₁; work = w₁; checks = refl; lettered = cc; wiped = cc })
by_check (checked (Err r) t₁ w₁) q = absurd (refused_counted q)

pub by_count : (c : Counted) (n : ℕ) (s v : List ℕ) {N : ℕ} {t w : List ℕ} → finished c n s v ≡ built (Ok N) t w
    → (c ≡ Ok N) × Settled n N (check_group s v n N) t w
unfolding finished
by_count (Ok c) n s v {N} {t} {w} q =
    let b = by_check (check_group s v n c) q in
    (ap Ok b.0, subst (λ (k : ℕ). Settled n N (check_group s v n k) t w) b.0 b.1)
by_count (Err r) n s v q = absurd (refused_counted q)

module _ (t₀ w₀ : List ℕ) {n N : ℕ} {t w : List ℕ} (E : Settled n N (check_group t₀ w₀ n N) t w) where
  pub settled_kept : Kept t₀ t n N
  settled_kept = rw E.lettered (kept_then (checks_kept t₀ w₀ n N E.checks) (hops_kept E.table n N))

  pub settled_work : w ≡ replicate (length w₀) 0
  settled_work = E.wiped ∙ ap (λ (k : ℕ). replicate k 0) (checks_work t₀ w₀ n N E.checks)

  module _ (fits : N * (2 * n + 4) ≤ length t₀) where
    pub settled_sound : 0 < N → N ≤ 65535 → Sound t n N
    settled_sound some small = rw E.lettered (hopping_sound (checks_sound t₀ w₀ n N E.checks some small fits))

    pub settled_hops : Hops t n N
    settled_hops = rw E.lettered (hops_there E.table n N (rw (checks_kept t₀ w₀ n N E.checks).size fits))
