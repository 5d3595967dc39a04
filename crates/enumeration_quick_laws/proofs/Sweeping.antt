-- `TwoWay` stays true all along the run by closed loops, and `Grows` holds from each of its tables to each later one.
use Prim.Native.Nat.{ℕ, zero, suc, ◌+◌, ◌*◌, ◌-◌, ◌<◌, ◌≤◌}
use mathlib.Core.Path.{◌≡◌, refl, sym, ◌∙◌, subst}
use mathlib.Core.Bool.{Bool, true, false}
use mathlib.Core.List.{List}
use native.Mathlib.Nat.{mul-le-mul_right}
use native.Mathlib.Omega.{arith}
use borrow.Author.Tests.{ltb-true, leb-false, eqb-true, ne_eqb, eq-eqb}
use lib.ListN.{get_or}
use lib.Dec.{ltb, leb}
use Rattle.egg.specs.declared.GroupElementId.{GroupElementId}
use Rattle.egg.specs.declared.GeneratorId.{GeneratorId}
use Rattle.egg.specs.Answers.{Counted, numbered}
use Rattle.std.specs.Prelude.{Ok, Err}
use Rattle.egg.specs.Table.{pick, start_of, length_of}
use Rattle.build_reading.specs.Build.{is_new, set_step, set_word, adds}
use Rattle.enumeration_run.specs.Run.{after_adding, advanced}
use Rattle.enumeration_run.specs.declared.inner.Run.{Run}
use Rattle.enumeration_run.specs.declared.inner.Ran.{Ran}
use Rattle.enumeration_run.specs.declared.inner.Ran.TheVariants as ran
use Rattle.egg.proofs.Cells.{put_other}
use Rattle.enumeration_run_laws.proofs.Marking.{row_is}
use Rattle.enumeration_run_laws.proofs.Growing.{word_length}
use Rattle.enumeration_run_laws.proofs.Since.{word_step}
use Rattle.enumeration_run_laws.proofs.Visiting.{next}
use Rattle.enumeration_quick_loops.specs.Loops.{loop_from}
use Rattle.enumeration_quick_run.specs.Sweeps.{Swept, swept, settles, sweeps, Sweep, sweep, on_swept, sweep_from}
use Rattle.enumeration_quick_laws.specs.Sweeping.{TwoWay, Grows}
use Rattle.enumeration_quick_laws.proofs.Joining.{both_two_way}
use Rattle.enumeration_quick_laws.proofs.Saying.{LoopAnswer, nothing, leads, loops_said}

grows_same : {n count : ℕ} (t : List ℕ) → Grows n count count t t
grows_same t = record { more = omega arith; known = λ e g h k. refl; rest = λ e k h l m. refl }

grows_on : {n a b c : ℕ} {r s t : List ℕ} → Grows n a b r s → Grows n b c s t → Grows n a c r t
grows_on {n} {r = r} {s} A B = record {
  more = omega (arith, A.more, B.more);
  known = λ e g h k. B.known e g h (rw (A.known e g h k) k) ∙ A.known e g h k;
  rest = λ e k h low high. B.rest e k (omega (arith, A.more)) low high ∙ A.rest e k h low high;
}

-- The word of a new element is written into a blank row.
module _ {n count lt : ℕ} {t : List ℕ} (F : TwoWay n count lt t) (e : GroupElementId) (g : GeneratorId) (len : ℕ) where
  abbrev written : List ℕ
  written = set_word t n (record { 0 = count }) e g len

  steps_same : (x h : ℕ) → h < n → get_or written (start_of n x + h) 0 ≡ get_or t (start_of n x + h) 0
  steps_same x h hh = word_step n t count e g len x h (omega arith)

  other_rows : (x k : ℕ) → (x ≡ count → ⊥) → k < 2 * n + 4 → get_or written (start_of n x + k) 0 ≡ get_or t (start_of n x + k) 0
  unfolding set_word
  other_rows x k d hk =
      let d0 : start_of n x + k ≡ start_of n count + 2 * n → ⊥ = λ q. d (row_is n x count k (2 * n) hk (omega arith) q) in
      let d1 : start_of n x + k ≡ start_of n count + 2 * n + 1 → ⊥ = λ q. d (row_is n x count k (2 * n + 1) hk (omega arith) (omega arith)) in
      let d2 : start_of n x + k ≡ start_of n count + 2 * n + 2 → ⊥ = λ q. d (row_is n x count k (2 * n + 2) hk (omega arith) (omega arith)) in
      simp (put_other, d0, d1, d2)

  written_two_way : TwoWay n (count + 1) lt written
  written_two_way = record {
    back = λ x h hh. word_step n t count e g len x (n + h) (omega arith) ∙ F.back x h hh ∙ sym (steps_same x h hh);
    turned = λ x h y hh v. let f = F.turned x h y hh (sym (steps_same x h hh) ∙ v) in (omega (arith, f.0), steps_same y h hh ∙ f.1);
    blank = λ x k b hk. other_rows x k (omega arith) hk ∙ F.blank x k (omega arith) hk;
    size = word_length t n count e g len ∙ F.size;
  }

  written_grows : Grows n count (count + 1) t written
  written_grows = record {
    more = omega arith;
    known = λ x h hh k. steps_same x h hh;
    rest = λ x k b low high. other_rows x k (omega arith) high;
  }

-- What is said of a visit by its answer, and of a run by its end; of a refusal and a pause nothing.
abbrev Counts : (n room lt count : ℕ) (t : List ℕ) → Counted → List ℕ → Type 0
Counts n room lt count t (Ok c) t' = TwoWay n c lt t' × Grows n count c t t' × (c ≤ room)
Counts n room lt count t (Err r) t' = Unit {0}

abbrev EndsTwoWay : (n room lt count : ℕ) (t : List ℕ) → Ran → List ℕ → Type 0
EndsTwoWay n room lt count t (ran.Done c) t' = TwoWay n c lt t' × Grows n count c t t' × (c ≤ room)
EndsTwoWay n room lt count t (ran.Paused at) t' = Unit {0}
EndsTwoWay n room lt count t (ran.Refused r) t' = Unit {0}

module _ (n : ℕ) {room lt : ℕ} (o : List ℕ) (small : room ≤ 65535) (fits : room * (2 * n + 4) ≤ lt) where
  room_fits : {count : ℕ} → count ≤ room → count * (2 * n + 4) ≤ lt
  room_fits h = omega (arith, mul-le-mul_right (2 * n + 4) h)

  module _ {count : ℕ} {t : List ℕ} (low : count ≤ room) (e : GroupElementId) (g : GeneratorId) (he : e.0 < count) (hg : g.0 < n) (F : TwoWay n count lt t)
      (new : get_or t (start_of n e.0 + g.0) 0 ≡ 0) where
    -- A new element.
    grown_two_way : (len : ℕ) → count < room
        → Counts n room lt count t (Ok (count + 1)) (set_step (set_step (set_word t n (record { 0 = count }) e g len) n e g (record { 0 = count })) n (record { 0 = count }) g e)
    grown_two_way len b =
        let G = written_two_way F e g len in
        let both = both_two_way {count = count + 1} (omega arith) (room_fits (omega arith)) e g (record { 0 = count }) hg (omega arith) (omega arith)
        (steps_same F e g len e.0 g.0 hg ∙ new) (steps_same F e g len count g.0 hg ∙ F.blank count g.0 (omega arith) (omega arith)) G in
        (both.0, grows_on (written_grows F e g len) both.1, omega arith)

    adding_two_way : (full long : Bool) → leb room count ≡ full
        → let v = after_adding
        (pick full (record { answer = Err (numbered 5 e.0 g.0 0); table = t })
        (pick long (record { answer = Err (numbered 6 e.0 g.0 0); table = t })
        (record {
          answer = Ok (record { 0 = count });
          table = set_step (set_word t n (record { 0 = count }) e g (length_of t n e.0 + 1)) n e g (record { 0 = count });
        })))
        (λ new t₁. swept (Ok (count + 1)) (set_step t₁ n new g e)) (λ why t₁. swept (Err why) t₁) in
        Counts n room lt count t v.answer v.table
    adding_two_way true long q = tt
    adding_two_way false true q = tt
    adding_two_way false false q = grown_two_way (length_of t n e.0 + 1) (leb-false room count q)

    settles_two_way : (loop : ℕ) → LoopAnswer n count g.0 t loop → let v = settles n room count e g loop t in Counts n room lt count t v.answer v.table
    unfolding settles adds
    settles_two_way loop (nothing z) = rw (eq-eqb loop 0 z) (adding_two_way (leb room count) (leb 4096 (length_of t n e.0)) refl)
    settles_two_way loop (leads r q b z) =
        let p : loop - 1 ≡ r = omega arith in
        let both = both_two_way (omega arith) (room_fits low) e g (record { 0 = r }) hg he b new z F in
        rw (ne_eqb loop 0 (omega arith), p) (both.0, both.1, low)

  sweeps_counts : {count : ℕ} {t : List ℕ} → count ≤ room → (e : GroupElementId) (g : GeneratorId) → e.0 < count → g.0 < n → TwoWay n count lt t
      → let v = sweeps n o room count e g t in Counts n room lt count t v.answer v.table
  unfolding sweeps
  sweeps_counts {count} {t} low e g he hg F = by (is_new t n e g) refl where
    by : (b : Bool) → is_new t n e g ≡ b
        → let v = pick b (settles n room count e g (loop_from n t o n e.0 g.0 0) t) (swept (Ok count) t) in Counts n room lt count t v.answer v.table
    by true q = settles_two_way low e g he hg F (eqb-true _ _ q) (loop_from n t o n e.0 g.0 0) (loops_said F o e.0 g.0 he hg n 0 (omega arith))
    by false q = (F, grows_same t, low)

  -- What comes of a visit.
  abbrev then : ℕ → Run → Counted → List ℕ → Sweep
  then k at a t = on_swept {A = Sweep} a t (λ c t₁. sweep_from k n o room (advanced n at c) t₁) (λ why t₁. sweep (ran.Refused why) t₁)

  sweep_ends : (k : ℕ) (at : Run) {t : List ℕ} → at.generator < n → at.count ≤ room → TwoWay n at.count lt t
      → let x = sweep_from k n o room at t in EndsTwoWay n room lt at.count t x.answer x.table
  unfolding sweep_from
  sweep_ends zero at {t} hg low F = by (ltb at.element at.count) where
    by : (b : Bool) → let x = pick {A = Sweep} b (sweep (ran.Paused at) t) (sweep (ran.Done at.count) t) in EndsTwoWay n room lt at.count t x.answer x.table
    by true = tt
    by false = (F, grows_same t, low)
  sweep_ends (suc k) at {t} hg low F =
      by (ltb at.element at.count) refl
      (λ c t₁ G b. let f = next n at c hg in let x = sweep_from k n o room (advanced n at c) t₁ in
      subst (λ (d : ℕ). EndsTwoWay n room lt d t₁ x.answer x.table) f.1 (sweep_ends k (advanced n at c) f.0 (rw f.1 b) (rw f.1 G))) where
        Rest : Type 0
        Rest = (c : ℕ) (t₁ : List ℕ) → TwoWay n c lt t₁ → c ≤ room → let x = sweep_from k n o room (advanced n at c) t₁ in EndsTwoWay n room lt c t₁ x.answer x.table

        after : {c : ℕ} {t₁ : List ℕ} → Grows n at.count c t t₁ → (a : Ran) (t₂ : List ℕ) → EndsTwoWay n room lt c t₁ a t₂ → EndsTwoWay n room lt at.count t a t₂
        after A (ran.Done d) t₂ (G, B, b) = (G, grows_on A B, b)
        after A (ran.Paused y) t₂ u = tt
        after A (ran.Refused r) t₂ u = tt

        go : Rest → (a : Counted) (t₁ : List ℕ) → Counts n room lt at.count t a t₁ → let x = then k at a t₁ in EndsTwoWay n room lt at.count t x.answer x.table
        go rest (Ok c) t₁ (G, A, b) =
            let x = sweep_from k n o room (advanced n at c) t₁ in after A x.answer x.table (rest c t₁ G b)
        go rest (Err r) t₁ u = tt

        here : Swept
        here = sweeps n o room at.count (record { 0 = at.element }) (record { 0 = at.generator }) t

        by : (b : Bool) → ltb at.element at.count ≡ b → Rest
            → let x = pick {A = Sweep} b (then k at here.answer here.table) (sweep (ran.Done at.count) t) in EndsTwoWay n room lt at.count t x.answer x.table
        by true q rest = go rest here.answer here.table (sweeps_counts low (record { 0 = at.element }) (record { 0 = at.generator }) (ltb-true _ _ q) hg F)
        by false q rest = (F, grows_same t, low)

pub sweeps_two_way : {n room lt : ℕ} (o : List ℕ) → room ≤ 65535 → room * (2 * n + 4) ≤ lt → {count : ℕ} {t : List ℕ} → count ≤ room
    → (e : GroupElementId) (g : GeneratorId) → e.0 < count → g.0 < n → TwoWay n count lt t → {c : ℕ} {t' : List ℕ} → sweeps n o room count e g t ≡ swept (Ok c) t'
    → TwoWay n c lt t' × Grows n count c t t' × (c ≤ room)
sweeps_two_way {n} {room} {lt} o small fits {count} {t} low e g he hg F q =
    subst (λ (v : Swept). Counts n room lt count t v.answer v.table) q (sweeps_counts n o small fits low e g he hg F)

pub sweep_two_way : {n room lt : ℕ} (o : List ℕ) → room ≤ 65535 → room * (2 * n + 4) ≤ lt → (k : ℕ) (at : Run) {t : List ℕ} → at.generator < n
    → at.count ≤ room → TwoWay n at.count lt t → {N : ℕ} {F : List ℕ} → sweep_from k n o room at t ≡ sweep (ran.Done N) F
    → TwoWay n N lt F × Grows n at.count N t F × (N ≤ room)
sweep_two_way {n} {room} {lt} o small fits k at {t} hg low G q =
    subst (λ (x : Sweep). EndsTwoWay n room lt at.count t x.answer x.table) q (sweep_ends n o small fits k at hg low G)
