-- Every visit of the quick run that is not refused has the other run's beside it.
use Prim.Native.Nat.{ℕ, zero, suc, ◌+◌, ◌-◌, ◌<◌, ◌≤◌}
use mathlib.Core.Path.{◌≡◌, refl}
use mathlib.Core.Bool.{Bool, true, false}
use mathlib.Core.List.{List}
use native.Mathlib.Omega.{arith}
use borrow.Author.Tests.{eqb-false, leb-false, ne_eqb}
use lib.Dec.{leb}
use Rattle.theory.specs.Presentation.{order_of}
use Rattle.theory.specs.Words.{Parents}
use Rattle.egg.specs.declared.GroupElementId.{GroupElementId}
use Rattle.egg.specs.declared.GeneratorId.{GeneratorId}
use Rattle.egg.specs.Answers.{Counted, numbered}
use Rattle.std.specs.Prelude.{Ok, Err}
use Rattle.egg.specs.Table.{pick, step_of, parent_of, last_of, length_of}
use Rattle.build_reading.specs.Build.{is_new, set_step, set_word, adds}
use Rattle.enumeration_run.specs.Run.{after_adding}
use Rattle.enumeration_run_laws.specs.Invariant.{RunOk}
use Rattle.enumeration_run.specs.Limits.{Limits}
use Rattle.enumeration_loop_laws.specs.Rings.{Looped}
use Rattle.enumeration_quick_loops.specs.Loops.{loop_from}
use Rattle.enumeration_quick_run.specs.Sweeps.{Swept, swept, settles, sweeps}
use Rattle.enumeration_quick_laws.specs.Sweeping.{TwoWay, Grows}
use Rattle.enumeration_quick_laws.proofs.Beside.{Beside}
use Rattle.enumeration_quick_laws.proofs.Placing.{Came, came_known, came_loop}
use Rattle.enumeration_quick_laws.proofs.Adding.{came_new}

module _ {n N : ℕ} {o : List ℕ} (F : List ℕ) (looped : Looped n N o (step_of F n)) (parents : Parents n N (step_of F n) (parent_of F n) (last_of F n))
    {room lt lw : ℕ} (L : Limits n o room lt lw) (within : N ≤ room) {c : ℕ} {q t w : List ℕ} (B : Beside n o lt lw F c q t w) (G : Grows n c N q F)
    (I : RunOk n (order_of o) room lt lw c t w) {x g : ℕ} (hx : x < c) (hg : g < n) where
  abbrev e : GroupElementId
  e = record { 0 = x }

  abbrev γ : GeneratorId
  γ = record { 0 = g }

  abbrev new : GroupElementId
  new = record { 0 = c }

  abbrev pub Comes : Counted → List ℕ → Type 0
  Comes (Ok c') q' = TwoWay n c' lt q' → Grows n c' N q' F → Came n o room lt lw F x g c t w c' q'
  Comes (Err r) q' = Unit {0}

  abbrev ComesBy : Swept → Type 0
  ComesBy v = Comes v.answer v.table

  adding : (full long : Bool) → leb room c ≡ full → leb 4096 (length_of q n x) ≡ long
      → ComesBy (after_adding
      (pick full (record { answer = Err (numbered 5 x g 0); table = q })
      (pick long (record { answer = Err (numbered 6 x g 0); table = q })
      (record { answer = Ok new; table = set_step (set_word q n new e γ (length_of q n x + 1)) n e γ new })))
      (λ new q₁. swept (Ok (c + 1)) (set_step q₁ n new γ e)) (λ why q₁. swept (Err why) q₁))
  adding true long p k = tt
  adding false true p k = tt
  adding false false p k = λ two_way grows. came_new F looped L B I hx hg (leb-false room c p) (leb-false 4096 (length_of q n x) k) two_way grows

  settling : (v : ℕ) → loop_from n q o n x g 0 ≡ v → ComesBy (settles n room c e γ v q)
  unfolding settles adds
  settling zero p = adding (leb room c) (leb 4096 (length_of q n x)) refl refl
  settling (suc r) p =
      let i : suc r - 1 ≡ r = omega arith in
      let d : suc r ≡ 0 → ⊥ = omega arith in
      simp (ne_eqb _ _ d, i) (λ two_way grows. came_loop F looped parents L within B G hx hg p two_way grows)

  pub comes : let v = sweeps n o room c e γ q in Comes v.answer v.table
  unfolding sweeps
  comes = by (is_new q n e γ) refl where
    by : (b : Bool) → is_new q n e γ ≡ b → ComesBy (pick b (settles n room c e γ (loop_from n q o n x g 0) q) (swept (Ok c) q))
    by true p = settling (loop_from n q o n x g 0) refl
    by false p = λ two_way grows. came_known room x g hg B (eqb-false _ _ p)
