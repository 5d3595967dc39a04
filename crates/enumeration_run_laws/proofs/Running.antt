-- Each place that is visited keeps both stretches right, and so does the whole run.
use Prim.Native.Nat.{ℕ, zero, suc, ◌+◌, ◌*◌, ◌<◌, ◌≤◌}
use mathlib.Core.Path.{◌≡◌, refl, ◌∙◌}
use mathlib.Core.Bool.{Bool, true, false}
use mathlib.Core.List.{List, [], ◌∷◌, ◌++◌}
use native.Mathlib.Nat.{mul-le-mul_right}
use native.Mathlib.Decide.{dec_lt}
use native.Mathlib.Omega.{arith}
use borrow.Author.Tests.{ltb-true, leb-false, eqb-false}
use lib.ListN.{get_or, length, replicate, length-replicate, get_or-replicate, get_or-eq_default}
use lib.Dec.{eqb, ltb, leb}
use Rattle.theory.specs.Presentation.{pairs_below, order_of}
use Rattle.theory.proofs.Pairs.{pairs_length}
use Rattle.egg.specs.declared.GroupElementId.{GroupElementId}
use Rattle.egg.specs.declared.GeneratorId.{GeneratorId}
use Rattle.egg.specs.Answers.{Counted, numbered}
use Rattle.std.specs.Prelude.{Ok, Err}
use Rattle.egg.specs.Table.{pick, put_at, start_of, length_of}
use Rattle.build_reading.specs.Build.{is_new, set_step, adds}
use Rattle.enumeration_rows.specs.Rows.{work_width, place_at, added_rows}
use Rattle.enumeration_wake.specs.Waking.{state, link, below_at}
use Rattle.enumeration_run.specs.Run.{discovered, Visit, visit, after_adding, visits, advanced, RunResult, outcome, on_visit, after, runs, start_of_run, enumerated}
use Rattle.enumeration_run.specs.declared.inner.Run.{Run}
use Rattle.enumeration_run.specs.declared.inner.Ran.{Ran}
use Rattle.enumeration_run.specs.declared.inner.Ran.TheVariants as ran
use Rattle.enumeration_run.specs.Limits.{Limits}
use Rattle.enumeration_run_laws.specs.Invariant.{TableOk, Working, Link, FactLink, MayHold, StateOk, RunOk}
use Rattle.egg.proofs.Cells.{put_length}
use Rattle.enumeration_run_laws.proofs.Visiting.{next}
use Rattle.enumeration_run_laws.proofs.Storing.{work_put}
use Rattle.enumeration_run_laws.proofs.Waiting.{place_spot, added_rows_ok, added_rows_length}
use Rattle.enumeration_run_laws.proofs.Marking.{set_length}
use Rattle.enumeration_run_laws.proofs.Knowing.{grown_made}
use Rattle.enumeration_run_laws.proofs.Settling.{link_ok, settle_ok}
use Rattle.enumeration_run_laws.proofs.Growing.{work_more, written, word_length, extended_old, grown_words, grown_ok}

pub zeros : (k i : ℕ) → get_or {A = ℕ} (replicate k 0) i 0 ≡ 0
zeros k i = by (dec_lt i k) where
  by : Dec (i < k) → get_or {A = ℕ} (replicate k 0) i 0 ≡ 0
  by (yes h) = get_or-replicate k i 0 0 h
  by (no h) = get_or-eq_default (replicate k 0) 0 (rw (length-replicate {A = ℕ} k 0) (omega arith))

-- Any cell may hold 0.
holds_zero : (n : ℕ) (S : ℕ → Type 0) (k : ℕ) → MayHold n S k 0
holds_zero n S zero = Link.none refl
holds_zero n S (suc zero) = Link.none refl
holds_zero n S (suc (suc zero)) = tt
holds_zero n S (suc (suc (suc zero))) = Link.none refl
holds_zero n S (suc (suc (suc (suc zero)))) = Link.none refl
holds_zero n S (suc (suc (suc (suc (suc zero))))) = tt
holds_zero n S (suc (suc (suc (suc (suc (suc zero)))))) = FactLink.none refl
holds_zero n S (suc (suc (suc (suc (suc (suc (suc zero))))))) = Link.none refl
holds_zero n S (suc (suc (suc (suc (suc (suc (suc (suc k)))))))) = tt

-- The limits, as the parts of the proof want them.
module _ {n : ℕ} {o : List ℕ} {room lt lw : ℕ} (L : Limits n o room lt lw) where
  pub pairs_full : length o ≡ pairs_below n
  pairs_full = L.full ∙ pairs_length n

  pub work_room : room * work_width n ≤ lw
  unfolding work_width
  work_room = L.work_room

  -- What is right after a visit and after a run, by the answer; of a refusal nothing is said.
  abbrev pub Counts : Counted → List ℕ → List ℕ → Type 1
  Counts (Ok c) t w = RunOk n (order_of o) room lt lw c t w
  Counts (Err r) t w = Unit {1}

  abbrev pub VisitOk : Visit → Type 1
  VisitOk v = Counts v.answer v.table v.work

  abbrev pub EndsOk : Ran → List ℕ → List ℕ → Type 1
  EndsOk (ran.Done c) t w = RunOk n (order_of o) room lt lw c t w
  EndsOk (ran.Paused at) t w = RunOk n (order_of o) room lt lw at.count t w
  EndsOk (ran.Refused r) t w = Unit {1}

  abbrev pub OutcomeOk : RunResult → Type 1
  OutcomeOk x = EndsOk x.answer x.table x.work

  module _ {count : ℕ} {t w : List ℕ} (I : RunOk n (order_of o) room lt lw count t w) (e : GroupElementId) (g : GeneratorId) (he : e.0 < count) (hg : g.0 < n) where
    abbrev pub new : GroupElementId
    new = record { 0 = count }

    abbrev pub word : ℕ → List ℕ
    word = I.word

    -- The row of a new element is in the table.
    row_inside : count < room → start_of n count + (2 * n + 4) ≤ length t
    unfolding start_of
    row_inside h = rw I.table_length (omega (arith, mul-le-mul_right (2 * n + 4) h))

    pub new_work : count < room → Working n (order_of o) (grown_words word count e g) (count + 1) (added_rows w o n new)
    new_work h =
        added_rows_ok {room = room} o L.few pairs_full L.orders (omega arith) new h (omega arith) (length o) w 0 (rw I.work_length work_room) (omega arith)
        (record { begun = I.work.begun; right = work_more (omega arith) (extended_old word count (word e.0 ++ g.0 ∷ [])) I.work.right })

    new_table : count < room → (len : ℕ) → TableOk n (order_of o) (grown_words word count e g) (count + 1) (set_step (set_step (written t n count e g len) n e g new) n new g e)
    new_table h len = grown_ok I.table I.some (omega (arith, I.fits)) (row_inside h) e g he hg L.few len

    pub new_state : (h : count < room) (len : ℕ) → StateOk n (order_of o) (grown_words word count e g) (count + 1) lt lw (new_work h).begun
        (state (set_step (set_step (written t n count e g len) n e g new) n new g e) (put_at (added_rows w o n new) (below_at (place_at n e g)) 0) (link n e g))
    new_state h len = record {
      table = new_table h len;
      made = grown_made I.table I.made e g he hg L.few (omega (arith, I.fits)) len (row_inside h);
      work = work_put (new_work h).right 0 (place_spot e g hg 6 (omega arith)) (omega arith) (FactLink.none refl);
      top = link_ok L.few e g (omega (arith, I.fits)) hg;
      table_length = set_length _ n new g e ∙ set_length _ n e g new ∙ word_length t n count e g len ∙ I.table_length;
      work_length = put_length (added_rows w o n new) _ 0 ∙ added_rows_length (length o) w o n new 0 ∙ I.work_length;
    }

    pub discovered_ok : count < room → (len : ℕ)
        → let s = discovered n o e g new (set_step (written t n count e g len) n e g new) w in RunOk n (order_of o) room lt lw (count + 1) s.table s.work
    unfolding discovered
    discovered_ok h len =
        let s = settle_ok L.few (omega arith) _ (new_state h len) in
        record {
          word = grown_words word count e g;
          table = s.table;
          made = s.made;
          work = record { begun = (new_work h).begun; right = s.work };
          some = omega arith;
          fits = omega arith;
          table_length = s.table_length;
          work_length = s.work_length;
        }

    -- A place whose step is not known: refused, or a new element.
    adding_ok : (full-room long : Bool) → leb room count ≡ full-room
        → VisitOk (after_adding
        (pick full-room (record { answer = Err (numbered 5 e.0 g.0 0); table = t })
        (pick long (record { answer = Err (numbered 6 e.0 g.0 0); table = t })
        (record { answer = Ok new; table = set_step (written t n count e g (length_of t n e.0 + 1)) n e g new })))
        (λ made t₁. visit (Ok (count + 1)) (discovered n o e g made t₁ w).table (discovered n o e g made t₁ w).work) (λ why t₁. visit (Err why) t₁ w))
    adding_ok true long q = tt
    adding_ok false true q = tt
    adding_ok false false q = discovered_ok (leb-false room count q) (length_of t n e.0 + 1)

    pub visits_ok : VisitOk (visits n o room count e g t w)
    unfolding visits adds
    visits_ok = by (is_new t n e g) where
      by : (b : Bool)
          → VisitOk (pick b
          (after_adding (adds t n room count e g)
          (λ made t₁. visit (Ok (count + 1)) (discovered n o e g made t₁ w).table (discovered n o e g made t₁ w).work) (λ why t₁. visit (Err why) t₁ w))
          (visit (Ok count) t w))
      by true = adding_ok (leb room count) (leb 4096 (length_of t n e.0)) refl
      by false = I

  pub runs_ok : (k : ℕ) (at : Run) {t w : List ℕ} → at.generator < n → RunOk n (order_of o) room lt lw at.count t w → OutcomeOk (runs k n o room at t w)
  unfolding runs
  runs_ok zero at {t} {w} hg I = by (ltb at.element at.count) where
    by : (b : Bool) → OutcomeOk (pick b (outcome (ran.Paused at) t w) (outcome (ran.Done at.count) t w))
    by true = I
    by false = I
  runs_ok (suc k) at {t} {w} hg I = by (ltb at.element at.count) refl (λ c t₁ w₁ J. runs_ok k (advanced n at c) (next n at c hg).0 (rw (next n at c hg).1 J)) where
    Rest : Type 1
    Rest = (c : ℕ) (t₁ w₁ : List ℕ) → RunOk n (order_of o) room lt lw c t₁ w₁ → OutcomeOk (runs k n o room (advanced n at c) t₁ w₁)

    go : Rest → (a : Counted) (t₁ w₁ : List ℕ) → Counts a t₁ w₁ → OutcomeOk (on_visit a t₁ w₁ (λ c t₂ w₂. runs k n o room (advanced n at c) t₂ w₂) (λ why t₂ w₂. outcome (ran.Refused why) t₂ w₂))
    go rest (Ok c) t₁ w₁ J = rest c t₁ w₁ J
    go rest (Err r) t₁ w₁ J = tt

    here : Visit
    here = visits n o room at.count (record { 0 = at.element }) (record { 0 = at.generator }) t w

    by : (b : Bool) → ltb at.element at.count ≡ b → Rest
        → OutcomeOk (pick b (after here (λ c t₁ w₁. runs k n o room (advanced n at c) t₁ w₁) (λ why t₁ w₁. outcome (ran.Refused why) t₁ w₁)) (outcome (ran.Done at.count) t w))
    by true q rest = go rest here.answer here.table here.work (visits_ok I (record { 0 = at.element }) (record { 0 = at.generator }) (ltb-true _ _ q) hg)
    by false q rest = I

  -- At the start there is the identity, whose word is empty, and nothing is known.
  first_table : TableOk n (order_of o) (λ x. []) 1 (replicate lt 0)
  first_table = record {
    marks = λ i. record {
      inside = λ e k h q z. absurd (z (zeros lt i));
      succ = λ e g r h q v. let z = zeros lt i in absurd (omega arith);
      back = λ e g r h q v. let z = zeros lt i in absurd (omega arith);
    };
    words = record {
      start = refl;
      earlier = λ e h k. absurd (omega arith);
      generator = λ e h k. absurd (omega arith);
      grow = λ e h k. absurd (omega arith);
      identity = λ h. (zeros lt (start_of n 0 + 2 * n), rw (zeros lt (start_of n 0 + 2 * n + 1)));
    };
  }

  pub first_work : Working n (order_of o) (λ x. []) 1 (replicate lw 0)
  first_work = record {
    begun = λ x. ⊥;
    right = record {
      cells = record { holds = λ i k s. rw (zeros lw i) (holds_zero n (λ x. ⊥) k) };
      place = λ p x. absurd x;
      rows = λ p x. absurd x;
    };
  }

  pub first_ok : RunOk n (order_of o) room lt lw 1 (replicate lt 0) (added_rows (replicate lw 0) o n (record { 0 = 0 }))
  first_ok = record {
    word = λ x. [];
    table = first_table;
    made = record { made = λ e h k. absurd (omega arith) };
    work = added_rows_ok {room = room} o L.few pairs_full L.orders (omega arith) (record { 0 = 0 }) L.some (omega arith) (length o) (replicate lw 0) 0 (rw (length-replicate {A = ℕ} lw 0) work_room) (omega arith) first_work;
    some = omega arith;
    fits = L.some;
    table_length = length-replicate lt 0;
    work_length = added_rows_length (length o) (replicate lw 0) o n (record { 0 = 0 }) 0 ∙ length-replicate lw 0;
  }

  pub enumerated_ok : OutcomeOk (enumerated n o room lt lw)
  unfolding enumerated
  enumerated_ok = by (eqb n 0) refl where
    by : (b : Bool) → eqb n 0 ≡ b
        → OutcomeOk (pick b (outcome (ran.Done 1) (replicate lt 0) (added_rows (replicate lw 0) o n (record { 0 = 0 })))
        (runs 18446744073709551615 n o room start_of_run (replicate lt 0) (added_rows (replicate lw 0) o n (record { 0 = 0 }))))
    by true q = first_ok
    by false q = let d : n ≡ 0 → ⊥ = eqb-false _ _ q in runs_ok 18446744073709551615 start_of_run (omega arith) (first_ok)
