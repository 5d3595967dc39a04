-- Laws of the stores of an image's rows.
use Prim.Native.Nat.{ℕ, ◌+◌, ◌*◌, ◌-◌, ◌≤◌, ◌<◌}
use mathlib.Core.Path.{◌≡◌}
use mathlib.Core.List.{List}
use native.Mathlib.Nat.{mul-le-mul}
use native.Mathlib.Omega.{arith}
use Rattle.egg.specs.declared.Refusal.{Refusal}
use Rattle.egg.specs.declared.GroupElementId.{GroupElementId}
use Rattle.egg.specs.Answers.{Reached, fine}
use Rattle.std.specs.Prelude.{Ok, Err}
use Rattle.egg.proofs.Scans.{left_suc}
use Rattle.image_writing.specs.Written.{step_read, put_half, put_row, put_rows}

module _ {v w : Reached} (q : v ≡ w) where
  pub step_refused : {r : Refusal} → v ≡ Err r → Err r ≡ step_read w
  step_refused e = rw (← q, e)

  pub step_read_lem : {x : GroupElementId} → v ≡ Ok x → fine ≡ step_read w
  step_read_lem e = rw (← q, e)

pub place_small : {n e : ℕ} → n ≤ 255 → e ≤ 65535 → e * n ≤ 16711425
place_small h k = omega (arith, mul-le-mul k h)

module _ (src : ℕ → ℕ → ℕ) (n e : ℕ) (out : List ℕ) where
  module _ (g : ℕ) where
    pub row_next : g < n → {v : ℕ} → v ≡ src e g
        → put_row (n - (g + 1)) src n e (g + 1) (put_half out (8 + 2 * (e * n + g)) v) ≡ put_row (n - g) src n e g out
    unfolding put_row
    row_next h q = rw (left_suc h, q)

    pub row_end : n ≤ g → out ≡ put_row (n - g) src n e g out
    unfolding put_row
    row_end h = let z : n - g ≡ 0 = omega arith in rw z

  module _ (count : ℕ) where
    pub rows_next : e < count → {l : List ℕ} → l ≡ put_row n src n e 0 out → put_rows (count - (e + 1)) src n (e + 1) l ≡ put_rows (count - e) src n e out
    unfolding put_rows
    rows_next h q = rw (left_suc h, q)

    pub rows_end : count ≤ e → out ≡ put_rows (count - e) src n e out
    unfolding put_rows
    rows_end h = let z : count - e ≡ 0 = omega arith in rw z
