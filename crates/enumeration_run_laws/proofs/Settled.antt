-- After a new element no fact is left: the bound on the facts, the length of the work, is never met, so that it has no say.
use Prim.Native.Nat.{ℕ, zero, suc, ◌+◌, ◌*◌, ◌-◌, ◌<◌, ◌≤◌}
use mathlib.Core.Path.{◌≡◌, refl, sym, ◌∙◌}
use mathlib.Core.Bool.{Bool, true, false}
use mathlib.Core.List.{List, [], ◌∷◌}
use native.Mathlib.Nat.{mul-le-mul, mul-le-mul_right, le_refl, le_of_eq}
use native.Mathlib.Omega.{arith}
use borrow.Author.Tests.{eq-eqb}
use lib.ListN.{get_or, length}
use lib.Dec.{eqb}
use Rattle.theory.specs.Presentation.{order_of}
use Rattle.egg.specs.declared.GroupElementId.{GroupElementId}
use Rattle.egg.specs.declared.GeneratorId.{GeneratorId}
use Rattle.egg.specs.Table.{pick, put_at, start_of}
use Rattle.build_reading.specs.Build.{set_step}
use Rattle.enumeration_rows.specs.Rows.{work_width, place_at, added_rows}
use Rattle.enumeration_wake.specs.Waking.{State, state, link, below_at}
use Rattle.enumeration_facts.specs.Facts.{updated, settle_from}
use Rattle.enumeration_run.specs.Run.{discovered}
use Rattle.enumeration_run.specs.Limits.{Limits}
use Rattle.enumeration_run_laws.specs.Invariant.{RunOk}
use Rattle.enumeration_run_laws.specs.Stack.{Fact, bottom, above, FactsWithin}
use Rattle.egg.proofs.Cells.{inside, put_same}
use Rattle.enumeration_run_laws.proofs.Spots.{place_link, width_parts}
use Rattle.enumeration_run_laws.proofs.Waiting.{added_rows_length}
use Rattle.enumeration_run_laws.proofs.Growing.{written, word_length}
use Rattle.enumeration_run_laws.proofs.Knowing.{set_more, set_known}
use Rattle.enumeration_run_laws.proofs.Stacking.{free_bound, place_within}
use Rattle.enumeration_run_laws.proofs.Emptying.{settle_ends}
use Rattle.enumeration_run_laws.proofs.Running.{work_room, new_state}

-- A larger bound changes nothing, once none of the facts is left.
pub settle_more : (k j n : ℕ) (s : State) → (settle_from k n s).top ≡ 0 → settle_from (k + j) n s ≡ settle_from k n s
unfolding settle_from
settle_more zero zero n s z = refl
settle_more zero (suc j) n s z = let q : 0 + suc j ≡ suc j = omega arith in rw q (simp (eq-eqb _ _ z))
settle_more (suc k) j n s z = let q : suc k + j ≡ suc (k + j) = omega arith in rw q (by (eqb s.top 0) z (settle_more k j n next)) where
  next : State
  next = updated n (s.top - 1) (state s.table s.work (get_or s.work (below_at (s.top - 1)) 0))

  by : (b : Bool) → (pick {A = State} b s (settle_from k n next)).top ≡ 0 → ((settle_from k n next).top ≡ 0 → settle_from (k + j) n next ≡ settle_from k n next)
      → pick {A = State} b s (settle_from (k + j) n next) ≡ pick b s (settle_from k n next)
  by true z ih = refl
  by false z ih = ih z

module _ {n : ℕ} {o : List ℕ} {room lt lw : ℕ} (L : Limits n o room lt lw) {count : ℕ} {t w : List ℕ} (I : RunOk n (order_of o) room lt lw count t w) (e : GroupElementId) (g : GeneratorId) (he : e.0 < count) (hg : g.0 < n) (h : count < room) (len : ℕ) where
  table_fits : (count + 1) * (2 * n + 4) ≤ lt
  table_fits = omega (arith, L.table_room, mul-le-mul_right (2 * n + 4) h)

  work_fits : (count + 1) * work_width n ≤ lw
  work_fits = omega (arith, work_room L, mul-le-mul_right (work_width n) h)

  abbrev made : State
  made =
      let x : GroupElementId = record { 0 = count } in
      state (set_step (set_step (written t n count e g len) n e g x) n x g e) (put_at (added_rows w o n x) (below_at (place_at n e g)) 0) (link n e g)

  first_fact : Fact n (count + 1) made.table (place_at n e g)
  unfolding place_at start_of
  first_fact =
      let x : GroupElementId = record { 0 = count } in
      let wide : length (written t n count e g len) ≡ lt = word_length t n count e g len ∙ I.table_length in
      let low : g.0 < 2 * n + 4 = omega arith in
      let after : e.0 < count + 1 = omega arith in
      record {
        element = e.0;
        generator = g.0;
        element_below = omega arith;
        generator_below = hg;
        stands = refl;
        known = set_more n (set_step (written t n count e g len) n e g x) x g e e.0 g.0 hg
            (set_known n (written t n count e g len) e g x (rw wide (omega (arith, table_fits, inside after low))) (omega arith));
      }

  few_places : 1 + (count + 1) * n ≤ lw
  few_places = let wide : 10 * n ≤ work_width n = omega (arith, width_parts n) in omega (arith, work_fits, mul-le-mul (le_refl (count + 1)) wide)

  piled : FactsWithin n (count + 1) lw made
  unfolding place_at
  piled =
      let x : GroupElementId = record { 0 = count } in
      let wide : length (added_rows w o n x) ≡ lw = added_rows_length (length o) w o n x 0 ∙ I.work_length in
      let within = place_within L.few (omega arith) table_fits work_fits e g (omega arith) hg in
      let empty = put_same (added_rows w o n x) (place_at n e g + 6) 0 (rw wide within) (omega arith) in
      record {
        facts = place_at n e g ∷ [];
        stack = above {fs = []} (place_link L.few e g (omega (arith, L.limit)) hg) first_fact tt (bottom empty);
        within = omega (arith, few_places, free_bound n (count + 1) made.table);
      }

  pub discovered_empty : (discovered n o e g (record { 0 = count }) (set_step (written t n count e g len) n e g (record { 0 = count })) w).top ≡ 0
  unfolding discovered
  discovered_empty =
      let s = new_state L I e g he hg h len in
      settle_ends L.few (omega arith) table_fits work_fits _ s piled (le_of_eq (sym s.work_length))
