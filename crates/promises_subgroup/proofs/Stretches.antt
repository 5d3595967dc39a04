-- A factor with n generators in a stretch as long as k of them need, n ≤ k: its own stretch is the first part, and its handle fits.
use Prim.Native.Nat.{ℕ, ◌+◌, ◌*◌, ◌-◌, ◌≤◌, ◌<◌}
use mathlib.Core.Path.{◌≡◌, ap, ◌∙◌}
use mathlib.Core.Bool.{true}
use mathlib.Core.List.{List, ◌++◌}
use native.Mathlib.Nat.{le_refl, mul-le-mul}
use native.Mathlib.Omega.{arith}
use borrow.Author.Tests.{le-leb}
use lib.ListN.{length, get_or, take, drop}
use lib.Seq.{length-take-le, drop_at, take-append-le, get_or-take}
use Rattle.egg.specs.Table.{start_of, step_of}
use Rattle.egg.specs.Factor.{has_room, fits_in, stretch}
use Rattle.egg.proofs.Rooms.{positive, limited, within_length}
use Rattle.build_lending.specs.Lending.{table_need, work_need, within}
use Rattle.theory.proofs.RuleLaws.{numbered_agree}
use Rattle.build_laws.proofs.Lent.{handle, within_long}
use Rattle.build_numbering_laws.specs.Maps.{RenumberedLists}

pub fewer_rows : (n k room : ℕ) → n ≤ k → table_need n room ≤ table_need k room
fewer_rows n k room h = let l : 2 * n + 4 ≤ 2 * k + 4 = omega arith in mul-le-mul (le_refl room) l

pub fewer_work : (n k room : ℕ) → n ≤ k → work_need n room ≤ work_need k room
fewer_work n k room h =
    let m : 6 * n ≤ 6 * k = omega arith in
    let i : 6 * n * n ≤ 6 * k * k = mul-le-mul m h in
    let l : 6 * n * n + 4 * n ≤ 6 * k * k + 4 * k = omega arith in
    mul-le-mul (le_refl room) l

-- The steps in the first part; and maps that hold one numbering hold another that agrees with it.
pub step_cut : (t : List ℕ) (n room e g : ℕ) → e < room → g < n → step_of (take (table_need n room) t) n e g ≡ step_of t n e g
unfolding start_of
step_cut t n room e g h hg =
    let l : e + 1 ≤ room = omega arith in
    let a : (e + 1) * (2 * n + 4) ≤ room * (2 * n + 4) = mul-le-mul l (le_refl (2 * n + 4)) in
    let i : e * (2 * n + 4) + g < room * (2 * n + 4) = omega arith in
    ap (λ (x : ℕ). x - 1) (get_or-take (table_need n room) t (e * (2 * n + 4) + g) 0 i)

pub held_steps : {n M room K x₀ c : ℕ} {out step step' : ℕ → ℕ → ℕ} {inn outw : List ℕ} → RenumberedLists n M room K out x₀ c step inn outw
    → ((e g : ℕ) → e < c → g < n → step' e g ≡ step e g) → RenumberedLists n M room K out x₀ c step' inn outw
held_steps {outw = outw} H agree =
    let R = H.renumbered in
    record {
      renumbered = record {
        by_rule = numbered_agree R.by_rule agree;
        origin = R.origin;
        outward = λ h. R.outward h;
        outward_below = λ h. R.outward_below h;
        inward = λ o. R.inward o;
        there_and_back = λ h. R.there_and_back h;
        back_and_there = λ o. R.back_and_there o;
        once = λ h k q. R.once h k q;
        steps = λ {e} {g} h hg. ap (λ (x : ℕ). get_or outw x 0) (agree e g h hg) ∙ R.steps h hg;
      };
      reached = λ h k. H.reached h k;
      unreached = λ h k. H.unreached h k;
      beyond = λ h. H.beyond h;
      within = H.within;
      inn_size = H.inn_size;
      outw_size = H.outw_size;
    }

module _ (table : List ℕ) (start k room : ℕ) (has : has_room (length table) start room k ≡ true) (most : k ≤ 8) (n c : ℕ) (t : List ℕ) (few : n ≤ k)
    (size_kept : length t ≡ table_need k room) where
  end_fits : start + table_need k room ≤ length table
  end_fits = within_length (length table) start room k has

  pub first_part : stretch (within table start (start + table_need k room) t) (handle start n room c) ≡ take (table_need n room) t
  unfolding stretch within
  first_part =
      let h : start ≤ length table = omega (arith, end_fits) in
      let l : table_need n room ≤ length t = rw size_kept (fewer_rows n k room few) in
      ap (λ (x : List ℕ). take (table_need n room) x)
      (drop_at (take start table) (t ++ drop (start + table_need k room) table) start (length-take-le start table h))
      ∙ take-append-le (table_need n room) t (drop (start + table_need k room) table) l

  pub handle_fits : 1 ≤ c → c ≤ room → fits_in (length (within table start (start + table_need k room) t)) (handle start n room c) ≡ true
  unfolding fits_in has_room
  handle_fits one all =
      let e : start + room * (2 * n + 4) ≤ length table = omega (arith, end_fits, fewer_rows n k room few) in
      let eight : n ≤ 8 = omega (arith, few, most) in
      rw (within_long table start (table_need k room) end_fits t size_kept) (simp (
        le-leb _ _ one,
        le-leb _ _ all,
        le-leb _ _ eight,
        le-leb _ _ (positive (length table) start room k has),
        le-leb _ _ (limited (length table) start room k has),
        le-leb _ _ e,
      ))
