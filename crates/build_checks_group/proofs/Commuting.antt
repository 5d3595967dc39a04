-- That the work goes along with every step of a row, by the numbers that are read for it.
use Prim.Native.Nat.{ℕ, ◌+◌, ◌-◌}
use mathlib.Core.Path.{◌≡◌, sym}
use mathlib.Core.List.{List}
use lib.ListN.{get_or}
use lib.Dec.{eqb}
use borrow.Author.Tests.{eq-eqb}
use native.Mathlib.Omega.{arith}
use Rattle.egg.specs.Answers.{Verdict, fine}
use Rattle.egg.specs.Table.{pick, start_of}
use Rattle.egg.specs.Scan.{scan, refused_of}
use Rattle.build_checks_group.specs.Lefts.{goes_row}

-- One place of `goes_row`, by where the two rows start.
abbrev pub goes_at : List ℕ → List ℕ → ℕ → ℕ → ℕ → Verdict
goes_at t w from to k = pick (eqb (get_or w (get_or t (from + k) 0 - 1) 0) (get_or t (to + k) 0 - 1)) fine (refused_of 12 0 0 0)

pub goes_here : (t w : List ℕ) (from to k : ℕ) {y after z : ℕ} → y ≡ get_or t (from + k) 0 → after ≡ get_or w (y - 1) 0 → z ≡ get_or t (to + k) 0
    → after + 1 ≡ z → goes_at t w from to k ≡ fine
goes_here t w from to k {y} {after} {z} p q r h = let same : after ≡ z - 1 = omega (arith, h) in rw (← p, ← q, ← r) (simp (eq-eqb _ _ same))

pub goes_whole : (t w : List ℕ) (n x from to : ℕ) {left : ℕ} → from ≡ start_of n x → to ≡ start_of n left → left ≡ get_or w x 0
    → fine ≡ scan n (goes_at t w from to) 0 → goes_row t w n x ≡ fine
unfolding goes_row
goes_whole t w n x from to p q l h = rw (← p, ← l, ← q) (sym h)
