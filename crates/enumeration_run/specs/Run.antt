-- The enumeration's run, place by place, to be read beside `construct_group` of todd_coxeter.rs (000).
use Rattle.std.specs.Prelude.{ℕ, zero, suc, ◌+◌, List, replicate, ltb, eqb, Ok, Err}
use Rattle.egg.specs.declared.GroupElementId.{GroupElementId}
use Rattle.egg.specs.declared.GeneratorId.{GeneratorId}
use Rattle.egg.specs.declared.Refusal.{Refusal}
use Rattle.egg.specs.Answers.{Counted, Reached}
use Rattle.egg.specs.Table.{pick, put_at}
use Rattle.build_reading.specs.Build.{is_new, set_step, Adds, adds}
use Rattle.enumeration_rows.specs.Rows.{place_at, added_rows}
use Rattle.enumeration_wake.specs.Waking.{State, state, link, below_at}
use Rattle.enumeration_facts.specs.Facts.{settled}
use Rattle.enumeration_run.specs.declared.inner.Run.{Run}
use Rattle.enumeration_run.specs.declared.inner.Ran.{Ran}
use Rattle.enumeration_run.specs.declared.inner.Ran.TheVariants as ran

-- What follows from a new element, e·g = new: "A new element also gets its step back, which is no fact"; its rows begin; and the step itself is the
-- first fact, alone on the stack.
unfoldable pub discovered : (n : ℕ) (o : List ℕ) (e : GroupElementId) (g : GeneratorId) (new : GroupElementId) (t w : List ℕ) → State
discovered n o e g new t w =
    settled n
    (state (set_step t n new g e) (put_at (added_rows w o n new) (below_at (place_at n e g)) 0) (link n e g))

-- What a visit leaves: the element count or a refusal, and both stretches.
pub record Visit : Type 0 where
  pub answer : Counted
  pub table : List ℕ
  pub work : List ℕ

-- The visit with this answer, table and work.
abbrev pub visit : Counted → List ℕ → List ℕ → Visit
visit a t w = record { answer = a; table = t; work = w }

-- What comes after an element was to be added, by the answer: f goes on from the element, h from a refusal; the table goes with either.
abbrev pub after_reaching : {A : Type 0} → Reached → List ℕ → (GroupElementId → List ℕ → A) → (Refusal → List ℕ → A) → A
after_reaching (Ok e) t f h = f e t
after_reaching (Err r) t f h = h r t

-- The same from what adding it left.
abbrev pub after_adding : {A : Type 0} → Adds → (GroupElementId → List ℕ → A) → (Refusal → List ℕ → A) → A
after_adding a f h = after_reaching a.answer a.table f h

-- The visit of one place (element, generator) of 000's inner loop: a known step is skipped; else there is a new element, or 5 or 6.
unfoldable pub visits : (n : ℕ) (o : List ℕ) (room count : ℕ) (e : GroupElementId) (g : GeneratorId) (t w : List ℕ) → Visit
visits n o room count e g t w =
    pick (is_new t n e g)
    (after_adding (adds t n room count e g)
    (λ new t₁. visit (Ok (count + 1)) (discovered n o e g new t₁ w).table (discovered n o e g new t₁ w).work)
    (λ why t₁. visit (Err why) t₁ w))
    (visit (Ok count) t w)

-- The place after this one: the next generator, or the next element's first.
unfoldable pub advanced : ℕ → Run → ℕ → Run
advanced n at count =
    pick (ltb (at.generator + 1) n) (record { element = at.element; generator = at.generator + 1; count = count })
    (record { element = at.element + 1; generator = 0; count = count })

-- What a run leaves: how it ended, and both stretches.
pub record RunResult : Type 0 where
  pub answer : Ran
  pub table : List ℕ
  pub work : List ℕ

-- The outcome with this answer, table and work.
abbrev pub outcome : Ran → List ℕ → List ℕ → RunResult
outcome a t w = record { answer = a; table = t; work = w }

-- What comes after a visit, by its answer: f goes on from a count, h from a refusal; both stretches go with either.
abbrev pub on_visit : {A : Type 0} → Counted → List ℕ → List ℕ → (ℕ → List ℕ → List ℕ → A) → (Refusal → List ℕ → List ℕ → A) → A
on_visit (Ok c) t w f h = f c t w
on_visit (Err r) t w f h = h r t w

-- The same from what the visit left.
abbrev pub after : {A : Type 0} → Visit → (ℕ → List ℕ → List ℕ → A) → (Refusal → List ℕ → List ℕ → A) → A
after v f h = on_visit v.answer v.table v.work f h

-- The places in order, at most k of them: the run is done when no element is left (000, `while element_id < g.element_count()`), paused where the
-- allowance k is spent before that, refused at the first place that refuses.
unfoldable pub runs : (k n : ℕ) (o : List ℕ) (room : ℕ) (at : Run) (t w : List ℕ) → RunResult
runs zero n o room at t w =
    pick (ltb at.element at.count) (outcome (ran.Paused at) t w) (outcome (ran.Done at.count) t w)
runs (suc k) n o room at t w =
    pick (ltb at.element at.count)
    (after (visits n o room at.count (record { 0 = at.element }) (record { 0 = at.generator }) t w)
    (λ c t₁ w₁. runs k n o room (advanced n at c) t₁ w₁)
    (λ why t₁ w₁. outcome (ran.Refused why) t₁ w₁))
    (outcome (ran.Done at.count) t w)

-- Where a run starts: the identity is the one element, and its place of generator 0 is next.
abbrev pub start_of_run : Run
start_of_run = record { element = 0; generator = 0; count = 1 }

-- A whole run, in stretches of lt and lw numbers: both are cleared, the identity's rows are begun, and the places are visited in order. With no
-- generators there is no place.
unfoldable pub enumerated : (n : ℕ) (o : List ℕ) (room lt lw : ℕ) → RunResult
enumerated n o room lt lw =
    pick (eqb n 0) (outcome (ran.Done 1) (replicate lt 0) (added_rows (replicate lw 0) o n (record { 0 = 0 })))
    (runs 18446744073709551615 n o room start_of_run (replicate lt 0) (added_rows (replicate lw 0) o n (record { 0 = 0 })))
