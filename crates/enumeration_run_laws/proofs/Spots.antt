-- Each cell of the work is of one kind, and belongs to one place or one copy.
use Prim.Native.Nat.{ℕ, zero, suc, ◌+◌, ◌*◌, ◌-◌, ◌<◌, ◌≤◌}
use mathlib.Core.Path.{◌≡◌, refl, sym, ◌∙◌}
use native.Mathlib.Nat.{mul-le-mul, mod-eq_of_lt, le_of_lt}
use native.Mathlib.Omega.{arith}
use Rattle.egg.specs.declared.GroupElementId.{GroupElementId}
use Rattle.egg.specs.declared.GeneratorId.{GeneratorId}
use Rattle.enumeration_rows.specs.Rows.{work_width, place_at}
use Rattle.enumeration_wake.specs.Waking.{link}
use Rattle.enumeration_run_laws.specs.Invariant.{CellOfKind, in_place, in_copy, Copy}
use Rattle.egg.proofs.Cells.{same_cell}

pub width_parts : (n : ℕ) → 10 * n + 6 * (n * (n - 1)) ≡ work_width n
unfolding work_width
width_parts zero = refl
width_parts (suc k) = let q : suc k - 1 ≡ k = omega arith in rw q (omega arith)

-- The cells of a place and of a copy stand inside the element's block.
pub place_inside : {n g k : ℕ} → g < n → k < 10 → 10 * g + k < work_width n
place_inside {n} hg hk = omega (arith, width_parts n)

pub copy_inside : (n : ℕ) {j d : ℕ} → j < n * (n - 1) → d < 6 → 10 * n + (6 * j + d) < work_width n
copy_inside n hj hd = omega (arith, width_parts n)

-- All places are far below 2^32, so that the link of a place is the place + 1.
place_small : {n e g : ℕ} → n ≤ 8 → e < 65535 → g < n → e * work_width n + 10 * g + 1 < 4294967296
unfolding work_width
place_small {n} {e} {g} few he hg =
    let square : n * n ≤ 64 = mul-le-mul few few in
    let width : work_width n ≤ 416 = omega arith in
    let bound : e * work_width n ≤ 65535 * 416 = mul-le-mul (le_of_lt he) width in
    omega arith

pub place_link : {n : ℕ} → n ≤ 8 → (e : GroupElementId) (g : GeneratorId) → e.0 < 65535 → g.0 < n → link n e g ≡ suc (e.0 * work_width n + 10 * g.0)
unfolding place_at
place_link few e g he hg = mod-eq_of_lt (place_small few he hg) ∙ omega arith

pub link_small : {n e g : ℕ} → n ≤ 8 → e < 65535 → g < n → suc (e * work_width n + 10 * g) < 4294967296
link_small few he hg = omega (arith, place_small few he hg)

pub spot_once : {n i k k' : ℕ} → CellOfKind n i k → CellOfKind n i k' → k ≡ k'
spot_once {n} {k = k} {k'} (in_place e g hg hk q) (in_place e' g' hg' hk' q') =
    let s : 10 * g + k ≡ 10 * g' + k' = same_cell e e' (place_inside hg (omega arith)) (place_inside hg' (omega arith)) (sym q ∙ q') in
    omega arith
spot_once {n} {k = k} (in_place e g hg hk q) (in_copy e' j' d' hj' hd' q' s') =
    let s = same_cell e e' (place_inside hg (omega arith)) (copy_inside n hj' hd') (sym q ∙ q') in
    absurd (omega arith)
spot_once {n} {k' = k'} (in_copy e j d hj hd q s) (in_place e' g' hg' hk' q') =
    let r = same_cell e e' (copy_inside n hj hd) (place_inside hg' (omega arith)) (sym q ∙ q') in
    absurd (omega arith)
spot_once {n} (in_copy e j d hj hd q s) (in_copy e' j' d' hj' hd' q' s') =
    let r = same_cell e e' (copy_inside n hj hd) (copy_inside n hj' hd') (sym q ∙ q') in
    omega arith

-- The cells of a copy: its five numbers and its link.
module _ {n len p : ℕ} (c : Copy n len p) where
  pub row_spot : (k d : ℕ) → d < 6 → k + d ≡ 12 → CellOfKind n (p + d) k
  row_spot k d hd s = in_copy c.element c.number d c.number_below hd (rw c.stands (omega arith)) s

-- Two copies that share a cell are one.
pub copy_once : {n len p p' d d' : ℕ} → Copy n len p → Copy n len p' → d < 6 → d' < 6 → p + d ≡ p' + d' → p ≡ p'
copy_once {n} {p = p} {p'} {d} {d'} c c' hd hd' q =
    let a : c.element * work_width n + (10 * n + (6 * c.number + d)) ≡ p + d = rw c.stands (omega arith) in
    let b : c'.element * work_width n + (10 * n + (6 * c'.number + d')) ≡ p' + d' = rw c'.stands (omega arith) in
    let r = same_cell c.element c'.element (copy_inside n c.number_below hd) (copy_inside n c'.number_below hd') (a ∙ q ∙ sym b) in
    omega arith
