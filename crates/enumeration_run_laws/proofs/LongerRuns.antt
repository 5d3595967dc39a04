-- Each place is visited alike in longer stretches with more room, where no refusal is met.
use Prim.Native.Nat.{ℕ, zero, suc, ◌+◌, ◌*◌, ◌<◌, ◌≤◌}
use mathlib.Core.Path.{◌≡◌, refl, ap, ◌∙◌}
use mathlib.Core.Bool.{Bool, true, false}
use mathlib.Core.List.{List}
use native.Mathlib.Nat.{mul-le-mul_right}
use native.Mathlib.Omega.{arith}
use borrow.Author.Tests.{ltb-true, leb-false, lt-leb}
use lib.ListN.{length}
use lib.Dec.{ltb, leb}
use Rattle.theory.specs.Presentation.{order_of}
use Rattle.egg.specs.declared.GroupElementId.{GroupElementId}
use Rattle.egg.specs.declared.GeneratorId.{GeneratorId}
use Rattle.egg.specs.Answers.{Counted, numbered}
use Rattle.std.specs.Prelude.{Ok, Err}
use Rattle.egg.specs.Table.{pick, put_at, start_of, length_of}
use Rattle.build_reading.specs.Build.{is_new, set_step, set_word, Adds, adds}
use Rattle.enumeration_rows.specs.Rows.{work_width, place_at, added_rows}
use Rattle.enumeration_wake.specs.Waking.{State, state, link, below_at}
use Rattle.enumeration_run.specs.Run.{discovered, Visit, visit, after_adding, visits, advanced, RunResult, outcome, after, runs}
use Rattle.enumeration_run.specs.declared.inner.Run.{Run}
use Rattle.enumeration_run.specs.declared.inner.Ran.TheVariants as ran
use Rattle.enumeration_run.specs.Limits.{Limits}
use Rattle.enumeration_run_laws.specs.Invariant.{Working, RunOk}
use Rattle.enumeration_run_laws.proofs.Visiting.{next}
use Rattle.enumeration_run_laws.specs.Paused.{IsDone}
use Rattle.enumeration_run_laws.proofs.Growing.{work_more, written}
use Rattle.enumeration_run_laws.proofs.Running.{work_room, Counts, new_state, visits_ok}
use Rattle.enumeration_run_laws.proofs.Settled.{settle_more, discovered_empty}
use Rattle.enumeration_run_laws.specs.Longer.{longer, Long, longer_state, longer_visit, longer_outcome}
use Rattle.enumeration_run_laws.proofs.LongerStores.{longer_get, longer_length, longer_zero, long_put}
use Rattle.enumeration_run_laws.proofs.LongerAdding.{added_rows_longer}
use Rattle.enumeration_run_laws.proofs.LongerFacts.{set_long, settle_longer}

abbrev IsCount : Counted → Type 0
IsCount (Ok c) = Unit {0}
IsCount (Err r) = ⊥

-- The word of a new element is stored inside the table.
word_long : (n count : ℕ) {a len : ℕ} {t t' : List ℕ} → Long a len t t' → (count + 1) * (2 * n + 4) ≤ len → (e : GroupElementId) (g : GeneratorId) (size : ℕ)
    → Long a len (written t n count e g size) (written t' n count e g size)
unfolding set_word start_of
word_long n count L room e g size =
    let one = long_put L (start_of n count + 2 * n) e.0 (omega arith) in
    let two = long_put one (start_of n count + 2 * n + 1) g.0 (omega arith) in
    long_put two (start_of n count + 2 * n + 2) size (omega arith)

module _ {n : ℕ} {o : List ℕ} {room lt lw : ℕ} (L : Limits n o room lt lw) (a b room' : ℕ) (more : room ≤ room') where
  module _ {count : ℕ} {t w : List ℕ} (I : RunOk n (order_of o) room lt lw count t w) (e : GroupElementId) (g : GeneratorId) (he : e.0 < count) (hg : g.0 < n) where
    abbrev fresh : GroupElementId
    fresh = record { 0 = count }

    abbrev stepped : List ℕ → ℕ → List ℕ
    stepped t₀ size = set_step (written t₀ n count e g size) n e g fresh

    module _ (h : count < room) (size : ℕ) where
      table_fits : (count + 1) * (2 * n + 4) ≤ lt
      table_fits = omega (arith, L.table_room, mul-le-mul_right (2 * n + 4) h)

      work_fits : (count + 1) * work_width n ≤ lw
      work_fits = omega (arith, work_room L, mul-le-mul_right (work_width n) h)

      step_long : Long a lt (stepped t size) (stepped (longer a t) size)
      step_long = set_long (word_long n count (record { same = refl; wide = I.table_length }) table_fits e g size) table_fits e g fresh (omega arith) hg (omega arith)

      rows_longer : added_rows (longer b w) o n fresh ≡ longer b (added_rows w o n fresh)
      rows_longer =
          let W : Working n (order_of o) I.word (count + 1) w = record { begun = I.work.begun; right = work_more (omega arith) (λ x h. refl) I.work.right } in
          added_rows_longer o L.few L.full L.orders (omega (arith, L.limit)) fresh (omega arith) b (length o) w 0 (rw I.work_length work_fits) (omega arith) W

      discovered_longer : discovered n o e g fresh (stepped (longer a t) size) (longer b w) ≡ longer_state a b (discovered n o e g fresh (stepped t size) w)
      unfolding discovered
      discovered_longer =
          let back = (set_long step_long table_fits fresh g e (omega arith) hg (omega arith)).same in
          let s = state (set_step (stepped t size) n fresh g e) (put_at (added_rows w o n fresh) (below_at (place_at n e g)) 0) (link n e g) in
          rw (back, rows_longer, longer_zero, longer_length b s.work)
          (settle_longer L.few (omega (arith, L.limit)) table_fits work_fits a b (length s.work + b) (new_state L I e g he hg h size)
          ∙ ap (longer_state a b) (settle_more (length s.work) b n s (discovered_empty L I e g he hg h size)))

    -- What adding an element comes to, by the two tests of `adds`.
    abbrev chosen : Bool → Bool → List ℕ → ℕ → Adds
    chosen full long t₀ size =
        pick full (record { answer = Err (numbered 5 e.0 g.0 0); table = t₀ })
        (pick long (record { answer = Err (numbered 6 e.0 g.0 0); table = t₀ }) (record { answer = Ok fresh; table = stepped t₀ size }))

    abbrev came : List ℕ → Adds → Visit
    came w₀ x = after_adding x (λ new t₁. visit (Ok (count + 1)) (discovered n o e g new t₁ w₀).table (discovered n o e g new t₁ w₀).work) (λ why t₁. visit (Err why) t₁ w₀)

    adding_longer : (full long : Bool) (size : ℕ) → leb room count ≡ full → IsCount (came w (chosen full long t size)).answer
        → came (longer b w) (chosen (leb room' count) long (longer a t) size) ≡ longer_visit a b (came w (chosen full long t size))
    adding_longer true long size q d = absurd d
    adding_longer false true size q d = absurd d
    adding_longer false false size q d =
        let h = leb-false room count q in
        let q' : leb room' count ≡ false = lt-leb room' count (omega arith) in
        rw q' (ap (λ (s : State). visit (Ok (count + 1)) s.table s.work) (discovered_longer h size))

    visits_longer : IsCount (visits n o room count e g t w).answer → visits n o room' count e g (longer a t) (longer b w) ≡ longer_visit a b (visits n o room count e g t w)
    unfolding visits adds
    visits_longer d = simp longer_get (by (is_new t n e g) d) where
      size : ℕ
      size = length_of t n e.0

      by : (c : Bool) → IsCount (pick c (came w (chosen (leb room count) (leb 4096 size) t (size + 1))) (visit (Ok count) t w)).answer
          → pick c (came (longer b w) (chosen (leb room' count) (leb 4096 size) (longer a t) (size + 1))) (visit (Ok count) (longer a t) (longer b w))
          ≡ longer_visit a b (pick c (came w (chosen (leb room count) (leb 4096 size) t (size + 1))) (visit (Ok count) t w))
      by true d = adding_longer (leb room count) (leb 4096 size) (size + 1) refl d
      by false d = refl

  -- What comes after a visit.
  abbrev then : ℕ → ℕ → Run → Visit → RunResult
  then k room₀ at v = after v (λ c t₁ w₁. runs k n o room₀ (advanced n at c) t₁ w₁) (λ why t₁ w₁. outcome (ran.Refused why) t₁ w₁)

  pub runs_longer : (k : ℕ) (at : Run) (t w : List ℕ) → at.generator < n → RunOk n (order_of o) room lt lw at.count t w → IsDone (runs k n o room at t w).answer
      → runs k n o room' at (longer a t) (longer b w) ≡ longer_outcome a b (runs k n o room at t w)
  unfolding runs
  runs_longer zero at t w hg I d = by (ltb at.element at.count) where
    by : (c : Bool) → pick {A = RunResult} c (outcome (ran.Paused at) (longer a t) (longer b w)) (outcome (ran.Done at.count) (longer a t) (longer b w))
        ≡ longer_outcome a b (pick c (outcome (ran.Paused at) t w) (outcome (ran.Done at.count) t w))
    by true = refl
    by false = refl
  runs_longer (suc k) at t w hg I d =
      by (ltb at.element at.count) refl d (λ c t₁ w₁ J. runs_longer k (advanced n at c) t₁ w₁ (next n at c hg).0 (rw (next n at c hg).1 J))
    where
      Rest : Type 1
      Rest = (c : ℕ) (t₁ w₁ : List ℕ) → RunOk n (order_of o) room lt lw c t₁ w₁ → IsDone (runs k n o room (advanced n at c) t₁ w₁).answer
          → runs k n o room' (advanced n at c) (longer a t₁) (longer b w₁) ≡ longer_outcome a b (runs k n o room (advanced n at c) t₁ w₁)

      go : Rest → (x : Counted) (t₁ w₁ : List ℕ) → Counts L x t₁ w₁ → (v : Visit) → (IsCount x → v ≡ longer_visit a b (visit x t₁ w₁)) → IsDone (then k room at (visit x t₁ w₁)).answer
          → then k room' at v ≡ longer_outcome a b (then k room at (visit x t₁ w₁))
      go rest (Ok c) t₁ w₁ J v same d = rw (same tt) (rest c t₁ w₁ J d)
      go rest (Err r) t₁ w₁ J v same d = absurd d

      here : ℕ → List ℕ → List ℕ → Visit
      here room₀ t₀ w₀ = visits n o room₀ at.count (record { 0 = at.element }) (record { 0 = at.generator }) t₀ w₀

      by : (c : Bool) → ltb at.element at.count ≡ c → IsDone (pick {A = RunResult} c (then k room at (here room t w)) (outcome (ran.Done at.count) t w)).answer → Rest
          → pick c (then k room' at (here room' (longer a t) (longer b w))) (outcome (ran.Done at.count) (longer a t) (longer b w))
          ≡ longer_outcome a b (pick c (then k room at (here room t w)) (outcome (ran.Done at.count) t w))
      by true q d rest =
          let he = ltb-true _ _ q in
          let v = here room t w in
          go rest v.answer v.table v.work (visits_ok L I (record { 0 = at.element }) (record { 0 = at.generator }) he hg) (here room' (longer a t) (longer b w))
          (visits_longer I (record { 0 = at.element }) (record { 0 = at.generator }) he hg) d
      by false q d rest = refl
