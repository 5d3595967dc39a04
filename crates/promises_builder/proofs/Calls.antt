-- `begin`, `add_successor` and `set_successor` come to each answer, builder and table exactly in the case that is set out for it.
use Rattle.std.specs.Prelude.{Ok}
use Prim.Native.Nat.{ℕ, ◌+◌, ◌≤◌, ◌<◌}
use mathlib.Core.Path.{◌≡◌, refl, sym, ap, ◌∙◌, subst}
use mathlib.Core.Logic.{◌↔◌, ◌⊎◌, inl, inr, ⊎_elim}
use mathlib.Core.Bool.{Bool, true, false}
use mathlib.Core.List.{List}
use native.Mathlib.Nat.{eq-zero-or-pos, le_of_lt}
use native.Mathlib.Decide.{dec_lt}
use native.Mathlib.Omega.{arith}
use borrow.Author.Tests.{eq-eqb, ne_eqb, lt-ltb, le-ltb, le-leb, lt-leb}
use lib.ListN.{length, replicate}
use Rattle.egg.specs.declared.Refusal.{Refusal}
use Rattle.egg.specs.declared.GroupElementId.{GroupElementId}
use Rattle.egg.specs.declared.GeneratorId.{GeneratorId}
use Rattle.egg.specs.Answers.{fine}
use Rattle.std.specs.Prelude.{Err}
use Rattle.egg.specs.Factor.{Paper, refusal_paper, has_room, fits_in, stretch}
use Rattle.build_reading.specs.Build.{is_new, adds}
use Rattle.builder.specs.declared.Builder.{Builder}
use Rattle.build_lending.specs.Lending.{table_need, within}
use Rattle.builder.specs.Calls.{Leaving, leaving, with_stretch, builder_of, begins, placed, placed_step, over_long, grown, grows_by, grows, new_or, stores}
use Rattle.builder_arguments.proofs.Places.{place_handle, place_element, place_generator, place_fine, end_refused, end_out, end_fine, store_refused, store_altered, store_fine}
use Rattle.builder.proofs.Calls.{begin_many, begin_short, grows_refused, stores_refused}
use Rattle.promises.proofs.Unaltered.{stretch_long}
use Rattle.promises_builder.specs.Own.{own_at}
use Rattle.promises_builder.specs.Calls.{Handed, begun_paper, grown_paper, noted_paper, with_step, own_length, zero_stretch, RightPlace}
use Rattle.promises_builder.specs.Calls.{BeginAnswer, many, short, begun, Misplaced, no_handle, no_element, no_generator}
use Rattle.promises_builder.specs.Calls.{SetAnswer, wrong_place, no_end, beyond, new, known, AddAnswer, misplaced, no_room, altered, long_word, added}

module _ (table : List ℕ) (start room n : ℕ) where
  begin_fine : n ≤ 8 → has_room (length table) start room n ≡ true
      → begins table start room n
      ≡ leaving (Ok (builder_of start room n 1)) (within table start (start + table_need n room) (replicate (table_need n room) 0))
  unfolding begins
  begin_fine h k = rw k (simp (le-ltb _ _ h))

  begin_given : {h : Handed} → BeginAnswer table start room n h → begun_paper (begins table start room n) ≡ h
  begin_given (many l) = ap begun_paper (sym (begin_many table start room n l))
  begin_given (short l k) = ap begun_paper (sym (begin_short table start room n l k))
  begin_given (begun l k) = ap begun_paper (begin_fine l k)

  begin_some : (h : Handed) × BeginAnswer table start room n h
  begin_some = by (dec_lt 8 n) (has_room (length table) start room n) refl where
    by : Dec (8 < n) → (c : Bool) → has_room (length table) start room n ≡ c → (h : Handed) × BeginAnswer table start room n h
    by (yes l) c q = (_, many l)
    by (no l) true q = (_, begun (omega arith) q)
    by (no l) false q = (_, short (omega arith) q)

  pub begin_answers : (h : Handed) → begun_paper (begins table start room n) ≡ h ↔ BeginAnswer table start room n h
  begin_answers h = (
    λ q. subst (λ (x : Handed). BeginAnswer table start room n x) (sym (begin_given begin_some.1) ∙ q) begin_some.1,
    begin_given,
  )

module _ (t : List ℕ) (b : Builder) (e : GroupElementId) (g : GeneratorId) where
  out : {x : Refusal} → Misplaced t b e g x → Err x ≡ placed (length t) b.0 e g
  out (no_handle h) = place_handle (length t) b.0 e g h
  out (no_element h l) = place_element (length t) b.0 e g h l
  out (no_generator h l k) = place_generator (length t) b.0 e g h l k

  right : RightPlace t b e g → fine ≡ placed (length t) b.0 e g
  right R = place_fine (length t) b.0 e g R.fits R.element R.generator

  place_or_not : RightPlace t b e g ⊎ ((x : Refusal) × Misplaced t b e g x)
  place_or_not = by (fits_in (length t) b.0) refl (dec_lt e.0 b.0.elements) (dec_lt g.0 b.0.generators) where
    by : (c : Bool) → fits_in (length t) b.0 ≡ c → Dec (e.0 < b.0.elements) → Dec (g.0 < b.0.generators)
        → RightPlace t b e g ⊎ ((x : Refusal) × Misplaced t b e g x)
    by false q d k = inr (_, no_handle q)
    by true q (no d) k = inr (_, no_element q (omega arith))
    by true q (yes d) (no k) = inr (_, no_generator q d (omega arith))
    by true q (yes d) (yes k) = inl (record { fits = q; element = d; generator = k })

  -- `set_successor`.
  module _ (r : GroupElementId) where
    ends : RightPlace t b e g → r.0 < b.0.elements → fine ≡ placed_step (length t) b.0 e g r
    ends R l = end_fine (length t) b.0 e g r (right R) refl l

    stored : RightPlace t b e g → r.0 < b.0.elements → own_at t b.0 e.0 g.0 ≤ b.0.elements → {c : Bool}
        → is_new (stretch t b.0) b.0.generators e g ≡ c → stores t b e g r ≡ leaving (Ok (new_or c)) (with_step t b e g r)
    unfolding stores
    stored R l k z = rw (← store_fine t b.0 e g r (ends R l) refl k, z)

    -- 17 in the handle or 14.
    set_early : {x : Refusal} → Err x ≡ placed_step (length t) b.0 e g r → noted_paper (stores t b e g r) ≡ leaving (refusal_paper x) t
    set_early q = ap noted_paper (sym (stores_refused t b e g r (store_refused t b.0 e g r q refl) refl))

    set_given : {l : Leaving Paper} → SetAnswer t b e g r l → noted_paper (stores t b e g r) ≡ l
    set_given (wrong_place M) = set_early (end_refused (length t) b.0 e g r (out M) refl)
    set_given (no_end R l) = set_early (end_out (length t) b.0 e g r (right R) refl l)
    set_given (beyond R l k) = ap noted_paper (sym (stores_refused t b e g r (store_altered t b.0 e g r (ends R l) refl k) refl))
    set_given (new R l z) = ap noted_paper (stored R l (omega (arith, z)) (eq-eqb (own_at t b.0 e.0 g.0) 0 z))
    set_given (known R l z k) = ap noted_paper (stored R l k (ne_eqb (own_at t b.0 e.0 g.0) 0 (λ (q : own_at t b.0 e.0 g.0 ≡ 0). omega arith)))

    set_some : (l : Leaving Paper) × SetAnswer t b e g r l
    set_some = ⊎_elim
        (λ R. by R (dec_lt r.0 b.0.elements) (dec_lt b.0.elements (own_at t b.0 e.0 g.0)) (eq-zero-or-pos (own_at t b.0 e.0 g.0)))
        (λ M. (_, wrong_place M.1))
        place_or_not where
          by : RightPlace t b e g → Dec (r.0 < b.0.elements) → Dec (b.0.elements < own_at t b.0 e.0 g.0)
              → (own_at t b.0 e.0 g.0 ≡ 0) ⊎ (0 < own_at t b.0 e.0 g.0) → (l : Leaving Paper) × SetAnswer t b e g r l
          by R (no l) k d = (_, no_end R (omega arith))
          by R (yes l) (yes k) d = (_, beyond R l k)
          by R (yes l) (no k) (inl z) = (_, new R l z)
          by R (yes l) (no k) (inr z) = (_, known R l z (omega arith))

    pub set_successor_answers : (l : Leaving Paper) → noted_paper (stores t b e g r) ≡ l ↔ SetAnswer t b e g r l
    set_successor_answers l = (
      λ q. subst (λ (x : Leaving Paper). SetAnswer t b e g r x) (sym (set_given set_some.1) ∙ q) set_some.1,
      set_given,
    )

  -- `add_successor`.
  started : RightPlace t b e g → grows t b e g ≡ grows_by t b.0 fine (grown (stretch t b.0) b.0 e g)
  unfolding grows
  started R = rw (← right R)

  zeros : RightPlace t b e g → with_stretch t b.0 (replicate (length (stretch t b.0)) 0) ≡ zero_stretch t b
  zeros R = ap (λ (k : ℕ). with_stretch t b.0 (replicate k 0)) (stretch_long t b.0 R.fits)

  add_given : {h : Handed} → AddAnswer t b e g h → grown_paper (grows t b e g) ≡ h
  unfolding grown over_long adds
  add_given (misplaced M) = ap grown_paper (sym (grows_refused t b e g (out M) refl))
  add_given (no_room R l) = rw (started R, le-ltb _ _ l, le-leb _ _ l, zeros R)
  add_given (altered R l k) = rw (started R, lt-ltb _ _ l, lt-ltb _ _ k, zeros R)
  add_given (long_word R l k) = rw (started R, lt-ltb _ _ l, lt-leb _ _ l, k, zeros R)
  add_given (added R l k) = rw (started R, lt-ltb _ _ l, le-ltb _ _ (le_of_lt k), lt-leb _ _ l, lt-leb _ _ k)

  add_some : (h : Handed) × AddAnswer t b e g h
  add_some = ⊎_elim
      (λ R. by R (dec_lt b.0.elements b.0.room) (dec_lt (own_length t b e) 4096) (dec_lt 4096 (own_length t b e)))
      (λ M. (_, misplaced M.1))
      place_or_not where
        by : RightPlace t b e g → Dec (b.0.elements < b.0.room) → Dec (own_length t b e < 4096) → Dec (4096 < own_length t b e)
            → (h : Handed) × AddAnswer t b e g h
        by R (no l) c d = (_, no_room R (omega arith))
        by R (yes l) (yes c) d = (_, added R l c)
        by R (yes l) (no c) (yes d) = (_, altered R l d)
        by R (yes l) (no c) (no d) = (_, long_word R l (omega arith))

  pub add_successor_answers : (h : Handed) → grown_paper (grows t b e g) ≡ h ↔ AddAnswer t b e g h
  add_successor_answers h = (
    λ q. subst (λ (x : Handed). AddAnswer t b e g x) (sym (add_given add_some.1) ∙ q) add_some.1,
    add_given,
  )
