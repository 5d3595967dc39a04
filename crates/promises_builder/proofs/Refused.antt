-- Each refusal of `build`: which comes when, with its first place.
use Rattle.egg.specs.Refusals.{refusal_paper}
use Prim.Native.Nat.{ℕ, ◌≤◌, ◌<◌}
use mathlib.Core.Path.{◌≡◌, refl, sym, ap, ◌∙◌, subst}
use mathlib.Core.Logic.{◌↔◌, ◌⊎◌, inl, inr, ⊎_elim}
use mathlib.Core.Bool.{true}
use mathlib.Core.List.{List, [], ◌∷◌}
use native.Mathlib.Omega.{arith}
use lib.ListN.{length}
use Rattle.egg.specs.declared.Refusal.{Refusal}
use Rattle.egg.specs.declared.Factor.{Factor}
use Rattle.egg.specs.Factor.{fits_in}
use Rattle.egg.proofs.Rooms.{false_true}
use Rattle.egg.specs.Answers.{numbered}
use Rattle.builder.specs.declared.Builder.{Builder}
use Rattle.build_lending.specs.Lending.{work_need}
use Rattle.builder.specs.Calls.{builds}
use Rattle.factor.specs.Composed.{composed}
use Rattle.build_reading.specs.Reading.{composed_at}
use Rattle.theory.specs.Numbering.{Numbered}
use Rattle.theory.proofs.Reading.{numbered_once}
use Rattle.build_checks_laws.specs.Numbers.{member, late_numbers}
use Rattle.build_checks_laws.proofs.Numbers.{each_in, none_of}
use Rattle.build_reading_laws.specs.Read.{Readable, ReadingRefused}
use Rattle.build_reading_laws.proofs.Readings.{read_readable}
use Rattle.build_reading_laws.proofs.OnePlace.{refuses_once, readable_not_refused}
use Rattle.build_laws.specs.Taken.{Groupless}
use Rattle.promises.proofs.Composed.{composed_12}
use Rattle.promises_builder.specs.Own.{own_at, own_number, own_refusal, own_rows, Filled}
use Rattle.promises_builder.specs.Refusals.{BuilderLacks}
use Rattle.promises_builder.proofs.Composed.{least, lent, listed_long, build_own_rows}
use Rattle.promises_builder.proofs.Lacking.{all_there, lacks_once, lacks_8}
use Rattle.promises_builder.proofs.Outcome.{stopped, nowhere, lacking, whole}
use Rattle.promises_builder.specs.Builds.{RefusedBy}
use Rattle.promises_builder.proofs.Stopping.{alone, some_generator, nothing_lacks}
use Rattle.promises_builder.proofs.Ways.{came, refused_call, stop_number, ways, Came}

-- A handle that fits, and a work that is long enough.
module _ (t : List ℕ) (b : Builder) (w : List ℕ) (fits : fits_in (length t) b.0 ≡ true) (enough : work_need b.0.generators b.0.room ≤ length w) where
  abbrev f : Factor
  f = b.0

  abbrev n : ℕ
  n = b.0.generators

  abbrev N : ℕ
  N = b.0.elements

  abbrev room : ℕ
  room = b.0.room

  abbrev own : ℕ → ℕ → ℕ
  own = own_at t b.0

  -- 9 to 12 are `from_composed`'s on the builder's rows.
  pub build_late : {r : Refusal} → RefusedBy t b w r → member (refusal_paper r).number (9 ∷ 10 ∷ 11 ∷ 12 ∷ []) ≡ true
      → Filled t b.0 × Numbered b.0.generators b.0.elements (composed_at (own_rows t b.0) b.0.generators)
      × (builds t b w ≡ composed t b.0.start w (own_rows t b.0) b.0.generators b.0.room)
  build_late {r} a late = ⊎_elim
      (λ x. absurd (none_of (refusal_paper r).number (6 ∷ 7 ∷ 17 ∷ []) late_numbers refl (rw x.2 (stop_number t b w fits enough x.1)) late))
      (⊎_elim (λ x. absurd (false_true (rw x.2 at late)))
      (⊎_elim (λ x. absurd (false_true (rw (lacks_8 x.2) at late))) (λ x. (x.0, x.2, x.3))))
      (ways t b w fits enough a)

  -- 17, 7 and 6 are a reading's of the builder's numbers, 17 for one that is no element's. (5 does not come.) Without generators 17 is given where the
  -- handle has more than the identity.
  pub build_stops : (s : Refusal) → (RefusedBy t b w s × (member (refusal_paper s).number (5 ∷ 6 ∷ 7 ∷ 17 ∷ []) ≡ true))
      ↔ (((r : Refusal) × ReadingRefused (own_number b.0.elements (own_at t b.0)) b.0.generators b.0.room r × (s ≡ own_refusal b.0.elements r))
      ⊎ ((b.0.generators ≡ 0) × (1 < b.0.elements) × (s ≡ numbered 17 0 0 0)))
  build_stops s = (
    λ p. ⊎_elim (λ x. inl x)
        (⊎_elim (λ x. inr x)
        (⊎_elim (λ x. absurd (false_true (rw (lacks_8 x.2) at p.1)))
        (λ x. absurd (none_of (refusal_paper s).number late_numbers (5 ∷ 6 ∷ 7 ∷ 17 ∷ []) refl x.1 p.1))))
        (ways t b w fits enough p.0),
    λ x. ⊎_elim (λ y. from_stop y (came t b w fits enough)) (λ y. from_none y (came t b w fits enough)) x,
  ) where
    Told : Type 0
    Told = RefusedBy t b w s × (member (refusal_paper s).number (5 ∷ 6 ∷ 7 ∷ 17 ∷ []) ≡ true)

    from_stop : (r : Refusal) × ReadingRefused (own_number N own) n room r × (s ≡ own_refusal N r) → Came t b w fits enough → Told
    from_stop (r, F, is) (stopped x F' e) =
        let i : s ≡ own_refusal N x = is ∙ ap (own_refusal N) (refuses_once F F') in
        (rw i (refused_call t b w fits enough e), rw is (each_in (λ k. member k (5 ∷ 6 ∷ 7 ∷ 17 ∷ [])) (refusal_paper (own_refusal N r)).number (6 ∷ 7 ∷ 17 ∷ []) refl (stop_number t b w fits enough F)))
    from_stop (r, F, is) (nowhere z l e) = absurd (omega (arith, F.place))
    from_stop (r, F, is) (lacking c x R L e) = absurd (readable_not_refused R F)
    from_stop (r, F, is) (whole t₁ all O passed e) = absurd (readable_not_refused (read_readable O.read) F)

    from_none : (n ≡ 0) × (1 < N) × (s ≡ numbered 17 0 0 0) → Came t b w fits enough → Told
    from_none (z, l, is) (stopped x F e) = absurd (omega (arith, F.place))
    from_none (z, l, is) (nowhere z' l' e) = (rw is (refused_call t b w fits enough e), rw is)
    from_none (z, l, is) (lacking c x R L e) = absurd (some_generator L z)
    from_none (z, l, is) (whole t₁ all O passed e) = absurd (omega (arith, alone z O.read.by_rule.known))

  -- 8: "a successor or predecessor missing", at the first place that is lacking.
  pub build_8 : (r : Refusal) → (RefusedBy t b w r × ((refusal_paper r).number ≡ 8))
      ↔ ((c : ℕ) × Readable (own_number b.0.elements (own_at t b.0)) b.0.generators b.0.room c
      × BuilderLacks (own_at t b.0) b.0.generators b.0.elements c r)
  build_8 r = (
    λ p. ⊎_elim
        (λ x. absurd (false_true (rw (sym (ap (λ (y : Refusal). (refusal_paper y).number) x.2) ∙ p.1) at (stop_number t b w fits enough x.1))))
        (⊎_elim (λ x. absurd (omega (arith, ap (λ (y : Refusal). (refusal_paper y).number) x.2, p.1)))
        (⊎_elim (λ x. x) (λ x. absurd (false_true (rw p.1 at x.1)))))
        (ways t b w fits enough p.0),
    λ x. by x (came t b w fits enough),
  ) where
    by : (c : ℕ) × Readable (own_number N own) n room c × BuilderLacks own n N c r → Came t b w fits enough → RefusedBy t b w r × ((refusal_paper r).number ≡ 8)
    by (c, R, L) (stopped x F e) = absurd (readable_not_refused R F)
    by (c, R, L) (nowhere z l e) = absurd (some_generator L z)
    by (c, R, L) (lacking d x R' L' e) =
        let i : d ≡ c = numbered_once R'.by_rule R.by_rule in
        let j : x ≡ r = lacks_once (subst (λ (k : ℕ). BuilderLacks own n N k x) i L') L in
        (rw (← j) (refused_call t b w fits enough e), lacks_8 L)
    by (c, R, L) (whole t₁ all O passed e) =
        let i : c ≡ N = numbered_once R.by_rule O.read.by_rule in
        let A = all_there O passed in
        absurd (nothing_lacks A.0 A.1 (subst (λ (k : ℕ). BuilderLacks own n N k r) i L))

  -- 12 exactly where reading and 8 to 11 pass and "no group has these right steps".
  pub build_12 : RefusedBy t b w (numbered 12 0 0 0)
      ↔ (Filled t b.0 × Groupless (composed_at (own_rows t b.0) b.0.generators) b.0.generators b.0.room b.0.elements)
  build_12 = (
    λ a.
        let p = build_late a refl in
        let g = (composed_12 t f.start w (own_rows t f) n room (least t b w fits enough) (lent t b w fits enough) (listed_long t b w fits enough)).0
        (a.0, a.1, sym p.2 ∙ a.2) in
        (p.0, subst (λ (k : ℕ). Groupless (composed_at (own_rows t f) n) n room k) (numbered_once g.1.readable.by_rule p.1) g.1),
    λ p.
        let e = build_own_rows t b w fits enough p.0 (λ c q. numbered_once q p.1.readable.by_rule) in
        let a = (composed_12 t f.start w (own_rows t f) n room (least t b w fits enough) (lent t b w fits enough) (listed_long t b w fits enough)).1 (N, p.1) in
        (a.0, a.1, e ∙ a.2),
  )
