-- One turn of the pass that stores the letters, and its end.
use Prim.Native.Nat.{ℕ, zero, suc, ◌+◌, ◌*◌, ◌-◌, ◌<◌, ◌≤◌}
use mathlib.Core.Path.{◌≡◌}
use mathlib.Core.List.{List}
use native.Mathlib.Omega.{arith}
use Rattle.egg.specs.Table.{put_at, start_of}
use Rattle.build_word_cells.specs.Hops.{hop_from, with_hops}

pub hop_stored : (t : List ℕ) (n e : ℕ) {x i h : ℕ} {t₁ : List ℕ} → 0 < e → x ≡ e - 1 → h ≡ hop_from 5 t n x → i ≡ start_of n x + 2 * n + 1 → t₁ ≡ put_at t i h
    → with_hops x t₁ n ≡ with_hops e t n
unfolding with_hops
hop_stored t n zero pos q u w s = absurd (omega arith)
hop_stored t n (suc e) {x} pos q u w s =
    let p : x ≡ e = omega arith in
    rw (s, u, w, p)

pub none_left : (t : List ℕ) (n e : ℕ) {l : List ℕ} → e ≤ 0 → with_hops e t n ≡ l → t ≡ l
unfolding with_hops
none_left t n zero h q = q
none_left t n (suc e) h q = absurd (omega arith)
