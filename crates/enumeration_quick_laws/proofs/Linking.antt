-- A step that the quick run sets both ways is known at once, and leads in the table that the run will leave where it was set to lead.
use Prim.Native.Nat.{ℕ, ◌+◌, ◌*◌, ◌<◌, ◌≤◌}
use mathlib.Core.Path.{◌≡◌}
use mathlib.Core.List.{List}
use native.Mathlib.Omega.{arith}
use lib.ListN.{length}
use Rattle.egg.specs.Table.{start_of, step_of}
use Rattle.egg.proofs.Cells.{cell_inside}
use Rattle.build_reading.specs.Build.{set_step}
use Rattle.enumeration_run_laws.specs.Invariant.{StepKnown}
use Rattle.enumeration_quick_laws.specs.Sweeping.{TwoWay, Grows}
use Rattle.enumeration_loop_laws.proofs.Joining.{set_succ}

-- The step from x by g is known in q, and in F it leads to r.
pub record Linked (n : ℕ) (q F : List ℕ) (x g r : ℕ) : Type 0 where
  pub here : StepKnown n q x g
  pub leads : step_of F n x g ≡ r

pub linked : {n room lt c N x g r : ℕ} (p F : List ℕ) → room ≤ 65535 → room * (2 * n + 4) ≤ lt → length p ≡ lt → x < room → g < n → r < room
    → let q : List ℕ = set_step p n (record { 0 = r }) (record { 0 = g }) (record { 0 = x }) in TwoWay n c lt q → Grows n c N q F → Linked n q F x g r
linked {n} {room} {lt} {c} {N} {x} {g} {r} p F limit fits long hx hg hr two_way grows =
    let q : List ℕ = set_step p n (record { 0 = r }) (record { 0 = g }) (record { 0 = x }) in
    let low : g < 2 * n + 4 = omega arith in
    let inside : start_of n r + g < length p = omega (arith, cell_inside n low hr) in
    let back = set_succ n p (record { 0 = r }) (record { 0 = g }) (record { 0 = x }) hg inside (omega arith) in
    let there = (two_way.turned r g x hg back).1 in
    let here : StepKnown n q x g = λ z. omega arith in
    let same = grows.known x g hg here in
    record { here = here; leads = omega arith }
