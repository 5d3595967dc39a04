-- One law for each answer of the call on composed rows.
use Prim.Native.Nat.{ℕ, ◌*◌, ◌-◌, ◌≤◌, ◌<◌}
use mathlib.Core.Path.{◌≡◌, ◌∙◌}
use mathlib.Core.Bool.{true, false}
use mathlib.Core.List.{List, ◌++◌}
use native.Mathlib.Nat.{mul-le-mul}
use native.Mathlib.Omega.{arith}
use borrow.Author.Tests.{lt-ltb, le-ltb, le-leb, lt-leb}
use borrow.Rule.Slice.PartMut.{mid_of, put_mid}
use lib.ListN.{length, take, drop}
use Rattle.egg.specs.Answers.{Counted, Made}
use Rattle.build_lending.specs.Finish.{built}
use Rattle.build_lending.specs.Lending.{table_need, work_need, lent_right, StretchEnd, refused_made, made_of, making}
use Rattle.build_lending.proofs.Lending.{part_length, build_back}
use Rattle.factor_composed_rows.specs.Rows.{composed_in}
use Rattle.factor.specs.Composed.{composed}

-- A product of 32 and 8 bits fits.
pub listed_small : {room n : ℕ} → room < 4294967296 → n < 256 → room * n < 18446744073709551616
listed_small {room} {n} h k = let p : room ≤ 4294967295 = omega arith in let q : n ≤ 255 = omega arith in omega (arith, mul-le-mul p q)

module _ (table : List ℕ) (start : ℕ) (work rows : List ℕ) (n room : ℕ) {m : Made} where
  pub composed_generators : 8 < n → m ≡ refused_made 1 n → making m table work ≡ composed table start work rows n room
  unfolding composed
  composed_generators h e = simp (lt-ltb _ _ h) (rw e)

  pub composed_short : n ≤ 8 → lent_right (length table) start (length work) room n ≡ false → m ≡ refused_made 4 0
      → making m table work ≡ composed table start work rows n room
  unfolding composed
  composed_short h l e = simp (le-ltb _ _ h, l) (rw e)

  pub composed_unlisted : n ≤ 8 → lent_right (length table) start (length work) room n ≡ true → length rows < room * n → m ≡ refused_made 4 0
      → making m table work ≡ composed table start work rows n room
  unfolding composed
  composed_unlisted h l k e = simp (le-ltb _ _ h, l, lt-leb _ _ k) (rw e)

  pub composed_built : n ≤ 8 → lent_right (length table) start (length work) room n ≡ true → room * n ≤ length rows
      → {e d : ℕ} {c : Counted} {t w : List ℕ} → StretchEnd e start (table_need n room) (length table) → d ≡ work_need n room → m ≡ made_of start room n c
      → built c t w ≡ composed_in (length (mid_of start (e - start) table)) (take d work) rows n room
      → making m (put_mid start (e - start) table t) (w ++ drop d work) ≡ composed table start work rows n room
  unfolding composed
  composed_built h l k {e} {d} {c} {t} {w} q need made b =
      let b' : built c t w ≡ composed_in (table_need n room) (take (work_need n room) work) rows n room
      = b ∙ rw (part_length table start (table_need n room) q, need) in
      build_back table start work n room q need made b' ∙ simp (le-ltb _ _ h, l, le-leb _ _ k)
