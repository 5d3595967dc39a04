-- One place, visited by both runs: they come to the same count, and are side by side again.
use Prim.Native.Nat.{ℕ, suc, ◌<◌, ◌≤◌}
use mathlib.Core.Path.{◌≡◌, sym, ◌∙◌}
use mathlib.Core.Logic.{⊎_elim}
use mathlib.Core.List.{List}
use native.Mathlib.Omega.{arith}
use borrow.Author.Tests.{ne_eqb}
use Rattle.theory.specs.Words.{Parents}
use Rattle.egg.specs.declared.GroupElementId.{GroupElementId}
use Rattle.egg.specs.declared.GeneratorId.{GeneratorId}
use Rattle.std.specs.Prelude.{Ok}
use Rattle.egg.specs.Table.{step_of, parent_of, last_of}
use Rattle.build_reading.specs.Build.{set_step}
use Rattle.enumeration_run.specs.Run.{visit, visits}
use Rattle.enumeration_run_laws.specs.Invariant.{StepKnown}
use Rattle.enumeration_run.specs.Limits.{Limits}
use Rattle.enumeration_run_laws.proofs.Marking.{set_length}
use Rattle.enumeration_run_laws.proofs.Running.{pairs_full}
use Rattle.enumeration_loop_laws.specs.Rings.{Looped}
use Rattle.enumeration_quick_loops.specs.Loops.{loop_from}
use Rattle.enumeration_quick_run.specs.Sweeps.{set_both}
use Rattle.enumeration_quick_laws.specs.Sweeping.{TwoWay, Grows}
use Rattle.enumeration_quick_laws.proofs.Alike.{set_rest, set_splits}
use Rattle.enumeration_quick_laws.proofs.Beside.{Beside}
use Rattle.enumeration_quick_laws.proofs.Finding.{Found, found}
use Rattle.enumeration_quick_laws.proofs.Looping.{loop_known, loop_below}
use Rattle.enumeration_quick_laws.proofs.Linking.{linked}

-- What the visit of the place of x and g comes to, beside the quick run's.
pub record Came (n : ℕ) (o : List ℕ) (room lt lw : ℕ) (F : List ℕ) (x g c : ℕ) (t w : List ℕ) (c' : ℕ) (q' : List ℕ) : Type 0 where
  pub table : List ℕ
  pub work : List ℕ
  pub is : visits n o room c (record { 0 = x }) (record { 0 = g }) t w ≡ visit (Ok c') table work
  pub beside : Beside n o lt lw F c' q' table work
  pub here : StepKnown n q' x g

-- A known step is skipped.
pub skips : (n : ℕ) (o : List ℕ) (room c x g : ℕ) (t w : List ℕ) → StepKnown n t x g → visits n o room c (record { 0 = x }) (record { 0 = g }) t w ≡ visit (Ok c) t w
unfolding visits
skips n o room c x g t w d = simp (ne_eqb _ _ d)

pub came_known : {n : ℕ} {o : List ℕ} (room : ℕ) {lt lw : ℕ} {F : List ℕ} {c : ℕ} {q t w : List ℕ} (x g : ℕ) → g < n → Beside n o lt lw F c q t w → StepKnown n q x g
    → Came n o room lt lw F x g c t w c q
came_known {n} {o} room {c = c} {t = t} {w = w} x g hg B d = record {
  table = t;
  work = w;
  is = skips n o room c x g t w (B.known x g hg d);
  beside = B;
  here = d;
}

-- A loop closes: the other run knows the step.
module _ {n N : ℕ} {o : List ℕ} (F : List ℕ) (looped : Looped n N o (step_of F n)) (parents : Parents n N (step_of F n) (parent_of F n) (last_of F n))
    {room lt lw : ℕ} (L : Limits n o room lt lw) (within : N ≤ room) {c : ℕ} {q t w : List ℕ} (B : Beside n o lt lw F c q t w) (G : Grows n c N q F)
    {x g : ℕ} (hx : x < c) (hg : g < n) {r : ℕ} (loop : loop_from n q o n x g 0 ≡ suc r) where
  abbrev e : GroupElementId
  e = record { 0 = x }

  abbrev γ : GeneratorId
  γ = record { 0 = g }

  abbrev to : GroupElementId
  to = record { 0 = r }

  around : Found q o n x g r
  around = found q o n x g n 0 r (omega arith) loop

  knows : StepKnown n t x g
  knows = loop_known F looped parents L.few (pairs_full L) (λ k hk. (L.orders k hk).0) B G hx hg around

  below : r < N
  below = loop_below F looped parents L.few (pairs_full L) (λ k hk. (L.orders k hk).0) B G hx hg around

  pub came_loop : TwoWay n c lt (set_both q n e γ to) → Grows n c N (set_both q n e γ to) F → Came n o room lt lw F x g c t w c (set_both q n e γ to)
  came_loop two_way grows =
      let once = set_step q n e γ to in
      let l = linked once F L.limit L.table_room (set_length q n e γ to ∙ B.two_way.size) (omega (arith, grows.more)) hg (omega (arith, below)) two_way grows in
      let back : StepKnown n t r g = rw l.leads at (B.closed.machine.told.both x g hg knows) in
      record {
        table = t;
        work = w;
        is = skips n o room c x g t w knows;
        beside = record {
          two_way = two_way;
          closed = B.closed;
          known = λ y h hh k. ⊎_elim (λ p. rw (p.0, p.1) back)
              (λ k. ⊎_elim (λ p. rw (p.0, p.1) knows) (B.known y h hh) (set_splits n q e γ to hg y h hh k))
              (set_splits n once to γ e hg y h hh k);
          rest = λ y k low high. B.rest y k low high ∙ sym (set_rest n once to γ e hg y k low high ∙ set_rest n q e γ to hg y k low high);
        };
        here = l.here;
      }
