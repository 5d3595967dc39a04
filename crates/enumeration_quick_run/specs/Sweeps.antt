-- The quick enumeration, by closed loops, which is quicker than 000's and gives the same table wherever it gives one that passes the checks
-- (`enumeration_quick_laws`). The places of the table are visited in the same order. At one whose step is not known, a pair relation through it of
-- which all other steps are known, a closed loop, says where the step leads; where there is none, it leads to a new element. No row waits for
-- anything, and but for steps back no step is found before its place is visited.
use Rattle.std.specs.Prelude.{ℕ, zero, suc, ◌+◌, ◌-◌, List, replicate, ltb, eqb, Ok, Err}
use Rattle.egg.specs.declared.GroupElementId.{GroupElementId}
use Rattle.egg.specs.declared.GeneratorId.{GeneratorId}
use Rattle.egg.specs.declared.Refusal.{Refusal}
use Rattle.egg.specs.Answers.{Counted}
use Rattle.egg.specs.Table.{pick}
use Rattle.build_reading.specs.Build.{is_new, set_step, adds}
use Rattle.enumeration_run.specs.declared.inner.Run.{Run}
use Rattle.enumeration_run.specs.declared.inner.Ran.{Ran}
use Rattle.enumeration_run.specs.declared.inner.Ran.TheVariants as ran
use Rattle.enumeration_run.specs.Run.{after_adding, advanced, start_of_run}
use Rattle.enumeration_quick_loops.specs.Loops.{loop_from}

-- What a visit leaves: the element count or a refusal, and the table.
pub record Swept : Type 0 where
  pub answer : Counted
  pub table : List ℕ

-- The visit with this answer and table.
abbrev pub swept : Counted → List ℕ → Swept
swept a t = record { answer = a; table = t }

-- The table with the step e·g = r and the step r·g = e, and the steps back of both.
abbrev pub set_both : (t : List ℕ) (n : ℕ) (e : GroupElementId) (g : GeneratorId) (r : GroupElementId) → List ℕ
set_both t n e g r = set_step (set_step t n e g r) n r g e

-- What becomes of a step that is not known, by what the loops say of it: it leads to the element whose number + 1 they give, or, where they give 0,
-- to a new element.
unfoldable pub settles : (n room count : ℕ) (e : GroupElementId) (g : GeneratorId) (loop : ℕ) (t : List ℕ) → Swept
settles n room count e g loop t =
    pick (eqb loop 0)
    (after_adding (adds t n room count e g)
    (λ new t₁. swept (Ok (count + 1)) (set_step t₁ n new g e))
    (λ why t₁. swept (Err why) t₁))
    (swept (Ok count) (set_both t n e g (record { 0 = loop - 1 })))

-- The visit of one place: a known step is skipped, else it is settled.
unfoldable pub sweeps : (n : ℕ) (o : List ℕ) (room count : ℕ) (e : GroupElementId) (g : GeneratorId) (t : List ℕ) → Swept
sweeps n o room count e g t =
    pick (is_new t n e g) (settles n room count e g (loop_from n t o n e.0 g.0 0) t) (swept (Ok count) t)

-- What a run leaves: how it ended, and the table.
pub record Sweep : Type 0 where
  pub answer : Ran
  pub table : List ℕ

-- The run with this answer and table.
abbrev pub sweep : Ran → List ℕ → Sweep
sweep a t = record { answer = a; table = t }

-- What comes after a visit, by its answer: f goes on from a count, h from a refusal; the table goes with either.
abbrev pub on_swept : {A : Type 0} → Counted → List ℕ → (ℕ → List ℕ → A) → (Refusal → List ℕ → A) → A
on_swept (Ok c) t f h = f c t
on_swept (Err r) t f h = h r t

-- The same from what the visit left.
abbrev pub after_swept : {A : Type 0} → Swept → (ℕ → List ℕ → A) → (Refusal → List ℕ → A) → A
after_swept v f h = on_swept v.answer v.table f h

-- The places in order, at most k of them: done, paused or refused as `runs` of `enumeration_run` is.
unfoldable pub sweep_from : (k n : ℕ) (o : List ℕ) (room : ℕ) (at : Run) (t : List ℕ) → Sweep
sweep_from zero n o room at t = pick (ltb at.element at.count) (sweep (ran.Paused at) t) (sweep (ran.Done at.count) t)
sweep_from (suc k) n o room at t =
    pick (ltb at.element at.count)
    (after_swept (sweeps n o room at.count (record { 0 = at.element }) (record { 0 = at.generator }) t)
    (λ c t₁. sweep_from k n o room (advanced n at c) t₁)
    (λ why t₁. sweep (ran.Refused why) t₁))
    (sweep (ran.Done at.count) t)

-- A whole run, in a stretch of lt numbers that is cleared. With no generators there is no place.
unfoldable pub swiftly : (n : ℕ) (o : List ℕ) (room lt : ℕ) → Sweep
swiftly n o room lt =
    pick (eqb n 0) (sweep (ran.Done 1) (replicate lt 0)) (sweep_from 18446744073709551615 n o room start_of_run (replicate lt 0))
