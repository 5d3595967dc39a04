-- Where places, lists and copies are in the work: each has cells of its own, so that an address names one of them.
use Prim.Native.Nat.{ℕ, ◌+◌, ◌*◌, ◌-◌, ◌<◌, ◌≤◌}
use mathlib.Core.Path.{◌≡◌, refl, sym, ap, ◌∙◌}
use mathlib.Core.List.{List}
use native.Mathlib.Nat.{mul-le-mul}
use native.Mathlib.Omega.{arith}
use lib.ListN.{length}
use Rattle.enumeration_rows.specs.declared.inner.SideOfGap.{SideOfGap}
use Rattle.enumeration_rows.specs.declared.inner.SideOfGap.TheVariants.{Left, Right}
use Rattle.enumeration_rows.specs.Rows.{work_width, place_at, rows_at}
use Rattle.enumeration_run_laws.specs.Invariant.{CellOfKind, in_place, Copy}
use Rattle.egg.proofs.Cells.{inside, same_row, same_cell}
use Rattle.enumeration_run_laws.proofs.Spots.{place_inside, copy_inside}
use Rattle.enumeration_run_laws.proofs.Waiting.{copy_at_lem}
use Rattle.enumeration_closure_laws.specs.Queues.{place_of, list_of, copy_at, Sized}

-- The sides as numbers.
abbrev pub bit : SideOfGap → ℕ
bit Left = 0
bit Right = 1

pub bit_below : (s : SideOfGap) → bit s < 2
bit_below Left = omega arith
bit_below Right = omega arith

pub bit_once : (s s' : SideOfGap) → bit s ≡ bit s' → s ≡ s'
bit_once Left Left e = refl
bit_once Left Right e = absurd (omega arith)
bit_once Right Left e = absurd (omega arith)
bit_once Right Right e = refl

-- Where the cells of a list stand, and those of a copy.
pub list_stands : (n : ℕ) (s : SideOfGap) (e g d : ℕ) → list_of n s e g + d ≡ e * work_width n + (10 * g + (3 * bit s + d))
unfolding place_at
list_stands n Left e g d = omega arith
list_stands n Right e g d = omega arith

copy_stands : (n u k : ℕ) (s : SideOfGap) → copy_at n u k s ≡ u * work_width n + (10 * n + 6 * (2 * k + bit s))
unfolding rows_at
copy_stands n u k Left = omega arith
copy_stands n u k Right = omega arith

pub list_spot : {n : ℕ} (s : SideOfGap) (e g : ℕ) → g < n → (d : ℕ) → d < 3 → CellOfKind n (list_of n s e g + d) (3 * bit s + d)
list_spot {n} s e g hg d hd = in_place e g hg (omega (arith, bit_below s)) (list_stands n s e g d)

pub list_below : {n count : ℕ} (s : SideOfGap) {e g : ℕ} → e < count → g < n → (d : ℕ) → d < 3 → list_of n s e g + d < count * work_width n
list_below {n} s {e} {g} he hg d hd = rw (list_stands n s e g d) (inside he (place_inside hg (omega (arith, bit_below s))))

-- A cell of a place is one of one place only, and a cell of a list one of one list.
pub place_cell : {n g h c c' : ℕ} (e x : ℕ) → g < n → h < n → c < 10 → c' < 10 → e * work_width n + (10 * g + c) ≡ x * work_width n + (10 * h + c') → (e ≡ x) × (g ≡ h) × (c ≡ c')
place_cell {n} {g} {h} {c} {c'} e x hg hh hc hc' q =
    let row = same_row e x (place_inside hg hc) (place_inside hh hc') q in
    let cell = same_cell e x (place_inside hg hc) (place_inside hh hc') q in
    let rest : g * 10 + c ≡ h * 10 + c' = omega arith in
    (row, same_row g h hc hc' rest, same_cell g h hc hc' rest)

pub cell_once : {n g h : ℕ} (s s' : SideOfGap) (e x : ℕ) → g < n → h < n → (d d' : ℕ) → d < 3 → d' < 3 → list_of n s e g + d ≡ list_of n s' x h + d'
    → (s ≡ s') × (e ≡ x) × (g ≡ h) × (d ≡ d')
cell_once {n} {g} {h} s s' e x hg hh d d' hd hd' q =
    let b = bit_below s in
    let b' = bit_below s' in
    let r = place_cell e x hg hh (omega arith) (omega arith) (sym (list_stands n s e g d) ∙ q ∙ list_stands n s' x h d') in
    let rest : bit s * 3 + d ≡ bit s' * 3 + d' = omega (arith, r.2) in
    (bit_once s s' (same_row (bit s) (bit s') hd hd' rest), r.0, r.1, same_cell (bit s) (bit s') hd hd' rest)

pub list_once : {n g h : ℕ} (s s' : SideOfGap) (e x : ℕ) → g < n → h < n → list_of n s e g ≡ list_of n s' x h → (s ≡ s') × (e ≡ x) × (g ≡ h)
list_once s s' e x hg hh q =
    let r = cell_once s s' e x hg hh 0 0 (omega arith) (omega arith) (ap (λ (i : ℕ). i + 0) q) in
    (r.0, r.1, r.2)

pub place_once : {n g h : ℕ} (e x : ℕ) → g < n → h < n → place_of n e g ≡ place_of n x h → (e ≡ x) × (g ≡ h)
place_once e x hg hh q = let r = list_once Left Left e x hg hh q in (r.1, r.2)

-- The number of a copy among those of its element.
number_below : (n : ℕ) {pairs k : ℕ} → 2 * pairs ≡ n * (n - 1) → k < pairs → (s : SideOfGap) → 2 * k + bit s < n * (n - 1)
number_below n paired hk s = rw (← paired) (omega (arith, bit_below s))

pub copy_apart : (n : ℕ) {pairs : ℕ} (k k' : ℕ) → 2 * pairs ≡ n * (n - 1) → k < pairs → k' < pairs → (u u' : ℕ) (s s' : SideOfGap) → copy_at n u k s ≡ copy_at n u' k' s'
    → (u ≡ u') × (k ≡ k') × (s ≡ s')
copy_apart n k k' paired hk hk' u u' s s' q =
    let b = bit_below s in
    let b' = bit_below s' in
    let a : u * work_width n + (10 * n + (6 * (2 * k + bit s) + 0)) ≡ copy_at n u k s = rw (copy_stands n u k s) (omega arith) in
    let a' : u' * work_width n + (10 * n + (6 * (2 * k' + bit s') + 0)) ≡ copy_at n u' k' s' = rw (copy_stands n u' k' s') (omega arith) in
    let in1 = copy_inside n {d = 0} (number_below n paired hk s) (omega arith) in
    let in2 = copy_inside n {d = 0} (number_below n paired hk' s') (omega arith) in
    let row = same_row u u' in1 in2 (a ∙ q ∙ sym a') in
    let cell = same_cell u u' in1 in2 (a ∙ q ∙ sym a') in
    let rest : k * 2 + bit s ≡ k' * 2 + bit s' = omega arith in
    (row, same_row k k' b b' rest, bit_once s s' (same_cell k k' b b' rest))

-- A copy of a row that has begun, as derived's `Copy`; and how large its place is.
module _ {n count pairs : ℕ} {w : List ℕ} (S : Sized n count pairs w) {u k : ℕ} (hu : u < count) (hk : k < pairs) (s : SideOfGap) where
  pub copy_is : Copy n (length w) (copy_at n u k s)
  unfolding rows_at
  copy_is =
      let q : rows_at n (record { 0 = u }) + 6 * (2 * k + bit s) ≡ copy_at n u k s = rw (copy_stands n u k s) (omega arith) in
      rw q at (copy_at_lem n count {len = length w} (record { 0 = u }) hu S.room (2 * k + bit s) (number_below n S.paired hk s))

  pub copy_below : (d : ℕ) → d < 6 → copy_at n u k s + d < count * work_width n
  copy_below d hd =
      let q : copy_at n u k s + d ≡ u * work_width n + (10 * n + (6 * (2 * k + bit s) + d)) = rw (copy_stands n u k s) (omega arith) in
      rw q (inside hu (copy_inside n (number_below n S.paired hk s) hd))

-- The whole work is far below 2^32.
pub work_small : {n count pairs : ℕ} {w : List ℕ} → Sized n count pairs w → count * work_width n ≤ 27262560
unfolding work_width
work_small {n} {count} S =
    let square : n * n ≤ 64 = mul-le-mul S.few S.few in
    let few : n ≤ 8 = S.few in
    let width : work_width n ≤ 416 = omega arith in
    mul-le-mul S.limit width
