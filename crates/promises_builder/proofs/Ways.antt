-- The ways in which `build` is refused, with their numbers, and what they leave; and that an accepted build is `from_composed` on the builder's rows.
use Prim.Native.Nat.{ℕ, suc, ◌+◌, ◌≤◌, ◌<◌}
use mathlib.Core.Path.{◌≡◌, refl, sym, ap, ◌∙◌, subst}
use mathlib.Core.Logic.{◌⊎◌, inl, inr, ⊎_elim}
use mathlib.Core.Bool.{true}
use mathlib.Core.List.{List, [], ◌∷◌}
use native.Mathlib.Nat.{le_refl, eq-zero-or-pos}
use native.Mathlib.Omega.{arith}
use lib.ListN.{length, take, replicate, length-replicate}
use lib.Seq.{length-take-le}
use Rattle.egg.specs.declared.Refusal.{Refusal}
use Rattle.egg.specs.declared.Factor.{Factor}
use Rattle.egg.specs.Answers.{Made, fine}
use Rattle.egg.specs.Refusals.{refusal_paper}
use Rattle.std.specs.Prelude.{Result, Ok, Err}
use Rattle.egg.specs.Factor.{fits_in, stretch}
use Rattle.egg.proofs.Rooms.{some, room_enough}
use Rattle.egg.specs.Answers.{numbered}
use Rattle.build_reading.specs.Reading.{placed, composed_at}
use Rattle.build_checks.specs.Checks.{checked, check8, check_group}
use Rattle.builder.specs.declared.Builder.{Builder}
use Rattle.build_lending.specs.Finish.{Built, built, zeroed}
use Rattle.build_lending.proofs.Finishing.{refused_counted}
use Rattle.build_lending.specs.Lending.{table_need, work_need, within, making, lent_back}
use Rattle.builder_rereading.specs.Own.{own_all, own_in}
use Rattle.builder.specs.Calls.{builds}
use Rattle.factor.specs.Composed.{composed}
use Rattle.theory.specs.Numbering.{Numbered}
use Rattle.theory.proofs.Reading.{numbered_once}
use Rattle.theory.proofs.RuleLaws.{numbered_agree}
use Rattle.build_checks_laws.specs.Numbers.{member, late_numbers}
use Rattle.build_checks_laws.proofs.Numbers.{each_in, full_numbers, checks_number}
use Rattle.build_reading_laws.specs.Read.{Readable, ReadingRefused}
use Rattle.build_reading_laws.proofs.Readings.{accepted_read}
use Rattle.build_laws.proofs.Lent.{by_build, by_refused}
use Rattle.promises.proofs.Passing.{read_ranges}
use Rattle.build_laws.proofs.Twelve.{check_refused}
use Rattle.promises.proofs.Zeros.{settled_zeros}
use Rattle.promises_builder.specs.Own.{own_at, own_number, own_refusal, own_rows, Filled}
use Rattle.promises_builder.specs.Refusals.{BuilderLacks}
use Rattle.promises_builder.proofs.Composed.{own_is_read, least, limit, stretch_long, builds_is, own_rows_at, build_own_rows}
use Rattle.promises_builder.proofs.Lacking.{ReadOwn, own_inside, own_number_lem, all_there, lacks_8}
use Rattle.promises_builder.proofs.Outcome.{Comes, stopped, nowhere, lacking, whole, comes}
use Rattle.promises_builder.specs.Builds.{RefusedBy}
use Rattle.promises_builder.proofs.Stopping.{own_stop_number}

-- The parts of what a call that makes a factor comes to.
pub parts : {m m' : Made} {t t' w w' : List ℕ} → making m t w ≡ making m' t' w' → (m ≡ m') × (t ≡ t') × (w ≡ w')
parts q = (cc, cc, cc)

pub why_is : {A : Type 0} {s r : Refusal} → ◌≡◌ {A = Result A Refusal} (Err s) (Err r) → s ≡ r
why_is q = cc

-- A handle that fits, and a work that is long enough.
module _ (t : List ℕ) (b : Builder) (w : List ℕ) (fits : fits_in (length t) b.0 ≡ true) (enough : work_need b.0.generators b.0.room ≤ length w) where
  abbrev pub f : Factor
  f = b.0

  abbrev pub n : ℕ
  n = b.0.generators

  abbrev pub N : ℕ
  N = b.0.elements

  abbrev pub room : ℕ
  room = b.0.room

  abbrev pub own : ℕ → ℕ → ℕ
  own = own_at t b.0

  abbrev pub W : List ℕ
  W = take (work_need b.0.generators b.0.room) w

  abbrev pub Came : Type 0
  Came = Comes own n room (table_need n room) N W (own_in (stretch t f) W n room N)

  pub came : Came
  came = comes (stretch t f) W n room (table_need n room) N (least t b w fits enough) (some (length t) f fits) (room_enough (length t) f fits)
      (limit t b w fits enough) (le_refl (table_need n room)) (stretch_long t b w fits enough)

  -- Where all is read and 8 passes, every step is there, and all elements are reached.
  module _ (t₁ : List ℕ) (O : ReadOwn own n room (table_need n room) N N t₁) (fine : check8 t₁ n N ≡ fine) where
    pub filled : Filled t f
    filled = record {
      there = λ {e} {g} he hg. ⊎_elim (λ z. absurd ((all_there O fine).0 e g he hg z)) (λ p. p) (eq-zero-or-pos (own e g));
      inside = λ {e} {g} he hg. own_inside O e g he hg;
    }

    pub rows_numbered : Numbered n N (composed_at (own_rows t f) n)
    rows_numbered = numbered_agree O.read.by_rule (λ e g he hg. own_rows_at t b w fits enough e g he hg ∙ sym (own_number_lem O e g he hg))

    pub is_composed : builds t b w ≡ composed t f.start w (own_rows t f) n room
    is_composed = build_own_rows t b w fits enough filled (λ c q. numbered_once q rows_numbered)

    -- The checks then refuse by 9 to 12.
    late_number : own_all own n room N (replicate (table_need n room) 0) ≡ placed (Ok N) t₁ → {r : Refusal} {s v : List ℕ}
        → check_group t₁ (zeroed W) n N ≡ checked (Err r) s v → member (refusal_paper r).number late_numbers ≡ true
    late_number all {r} q =
        let same : (e g : ℕ) → e < N → g < n → own e g ≡ suc (own_number N own e g) = λ e g he hg. omega (arith, own_number_lem O e g he hg, filled.there he hg) in
        let inside : (e g : ℕ) → e < N → g < n → own_number N own e g < N = λ e g he hg. omega (arith, same e g he hg, filled.inside he hg) in
        let hi = room_enough (length t) f fits in
        let lo = some (length t) f fits in
        let z = own_is_read own (own_number N own) n room N lo hi same inside (replicate (table_need n room) 0) in
        let R = accepted_read (own_number N own) n room (table_need n room) (least t b w fits enough) (omega (arith, lo, hi)) (limit t b w fits enough) (le_refl (table_need n room)) (sym z ∙ all) in
        checks_number late_numbers refl t₁ (zeroed W) n N (full_numbers t₁ n N fine (read_ranges R)) q

  one : {r r' : Refusal} {s s' v v' : List ℕ} {B : Built} → B ≡ built (Err r) s v → B ≡ built (Err r') s' v' → r ≡ r'
  one p q = cc

  -- The call, from the build in its stretches.
  pub refused_call : {r : Refusal} {s v : List ℕ} → own_in (stretch t f) W n room N ≡ built (Err r) s v → RefusedBy t b w r
  refused_call {s = s} {v} q =
      (within t f.start (f.start + table_need n room) s, within w 0 (work_need n room) v, builds_is t b w fits enough ∙ ap (lent_back t f.start w n room) q)

  refused_in : {r : Refusal} → RefusedBy t b w r → (s : List ℕ) × (v : List ℕ) × (own_in (stretch t f) W n room N ≡ built (Err r) s v)
  refused_in a = let z = by_refused t f.start w n room (own_in (stretch t f) W n room N) (sym (builds_is t b w fits enough) ∙ a.2) in (z.0, z.1, z.2)

  -- Where the call is accepted, it is `from_composed` on the builder's rows.
  pub accepted_composed : {x : Factor} {t' w' : List ℕ} → builds t b w ≡ making (Ok x) t' w'
      → Filled t f × Numbered n N (composed_at (own_rows t f) n) × (builds t b w ≡ composed t f.start w (own_rows t f) n room)
  accepted_composed {x} {t'} {w'} q = by came (by_build t f.start w n room (own_in (stretch t f) W n room N) (sym (builds_is t b w fits enough) ∙ q)).3.0 where
    by : {M : ℕ} {s v : List ℕ} → Came → own_in (stretch t f) W n room N ≡ built (Ok M) s v
        → Filled t f × Numbered n N (composed_at (own_rows t f) n) × (builds t b w ≡ composed t f.start w (own_rows t f) n room)
    by (stopped r F e) z = absurd (refused_counted (sym e ∙ z))
    by (nowhere a c e) z = absurd (refused_counted (sym e ∙ z))
    by (lacking c r R L e) z = absurd (refused_counted (sym e ∙ z))
    by (whole t₁ all O passed e) z = (filled t₁ O passed, rows_numbered t₁ O passed, is_composed t₁ O passed)

  pub stop_number : {r : Refusal} → ReadingRefused (own_number N own) n room r → member (refusal_paper (own_refusal N r)).number (6 ∷ 7 ∷ 17 ∷ []) ≡ true
  stop_number F = own_stop_number own n room N (some (length t) f fits) (room_enough (length t) f fits) F

  -- A refused build: by which of its ways, and with which numbers.
  pub ways : {r : Refusal} → RefusedBy t b w r
      → ((x : Refusal) × ReadingRefused (own_number N own) n room x × (r ≡ own_refusal N x))
      ⊎ (((n ≡ 0) × (1 < N) × (r ≡ numbered 17 0 0 0))
      ⊎ (((c : ℕ) × Readable (own_number N own) n room c × BuilderLacks own n N c r)
      ⊎ (Filled t f × (member (refusal_paper r).number late_numbers ≡ true) × Numbered n N (composed_at (own_rows t f) n)
      × (builds t b w ≡ composed t f.start w (own_rows t f) n room))))
  ways {r} a = by came where
    z : own_in (stretch t f) W n room N ≡ built (Err r) (refused_in a).0 (refused_in a).1
    z = (refused_in a).2

    by : Came
        → ((x : Refusal) × ReadingRefused (own_number N own) n room x × (r ≡ own_refusal N x))
        ⊎ (((n ≡ 0) × (1 < N) × (r ≡ numbered 17 0 0 0))
        ⊎ (((c : ℕ) × Readable (own_number N own) n room c × BuilderLacks own n N c r)
        ⊎ (Filled t f × (member (refusal_paper r).number late_numbers ≡ true) × Numbered n N (composed_at (own_rows t f) n)
        × (builds t b w ≡ composed t f.start w (own_rows t f) n room))))
    by (stopped x F e) = inl (x, F, one z e)
    by (nowhere p q e) = inr (inl (p, q, one z e))
    by (lacking c x R L e) = inr (inr (inl (c, R, subst (λ (y : Refusal). BuilderLacks own n N c y) (one e z) L)))
    by (whole t₁ all O passed e) =
        let k = check_refused n N (check_group t₁ (zeroed W) n N) (sym e ∙ z) in
        inr (inr (inr (filled t₁ O passed, late_number t₁ O passed all k.2, rows_numbered t₁ O passed, is_composed t₁ O passed)))

  -- By which numbers.
  pub build_number : {r : Refusal} → RefusedBy t b w r → member (refusal_paper r).number (6 ∷ 7 ∷ 8 ∷ 17 ∷ late_numbers) ≡ true
  build_number {r} a = ⊎_elim
      (λ x. rw x.2 (each_in (λ k. member k (6 ∷ 7 ∷ 8 ∷ 17 ∷ late_numbers)) (refusal_paper (own_refusal N x.0)).number (6 ∷ 7 ∷ 17 ∷ []) refl (stop_number x.1)))
      (⊎_elim (λ x. rw x.2)
      (⊎_elim (λ x. rw (lacks_8 x.2)) (λ x. each_in (λ k. member k (6 ∷ 7 ∷ 8 ∷ 17 ∷ late_numbers)) (refusal_paper r).number late_numbers refl x.1)))
      (ways a)

  -- A refusal leaves zeros in both stretches.
  work_long : length W ≡ work_need n room
  work_long = length-take-le (work_need n room) w enough

  refused_in_zeros : {r : Refusal} {s v : List ℕ} → own_in (stretch t f) W n room N ≡ built (Err r) s v
      → (s ≡ replicate (table_need n room) 0) × (v ≡ replicate (work_need n room) 0)
  refused_in_zeros {r} {s} {v} z = by came where
    the_same : {x : Refusal} {s' v' : List ℕ} → own_in (stretch t f) W n room N ≡ built (Err x) s' v' → (s ≡ s') × (v ≡ v')
    the_same e = (cc, cc)

    plain : {x : Refusal} → own_in (stretch t f) W n room N ≡ built (Err x) (replicate (table_need n room) 0) (replicate (length W) 0)
        → (s ≡ replicate (table_need n room) 0) × (v ≡ replicate (work_need n room) 0)
    plain e = let p = the_same e in (p.0, p.1 ∙ ap (λ (k : ℕ). replicate k 0) work_long)

    by : Came → (s ≡ replicate (table_need n room) 0) × (v ≡ replicate (work_need n room) 0)
    by (stopped x F e) = plain e
    by (nowhere p q e) = plain e
    by (lacking c x R L e) = plain e
    by (whole t₁ all O passed e) =
        let p = settled_zeros N (check_group t₁ (zeroed W) n N) t₁ (zeroed W) n refl (sym e ∙ z) in
        (p.0 ∙ ap (λ (x : ℕ). replicate x 0) O.beside.whole, p.1 ∙ ap (λ (x : ℕ). replicate x 0) (length-replicate (length W) 0 ∙ work_long))

  pub build_zeros : {r : Refusal} {t' w' : List ℕ} → builds t b w ≡ making (Err r) t' w'
      → (t' ≡ within t b.0.start (b.0.start + table_need b.0.generators b.0.room) (replicate (table_need b.0.generators b.0.room) 0))
      × (w' ≡ within w 0 (work_need b.0.generators b.0.room) (replicate (work_need b.0.generators b.0.room) 0))
  build_zeros {r} {t'} {w'} h =
      let a = refused_in (t', w', h) in
      let z = refused_in_zeros a.2 in
      let p = parts (sym h ∙ builds_is t b w fits enough ∙ ap (lent_back t f.start w n room) a.2) in
      (p.1 ∙ rw z.0, p.2 ∙ rw z.1)
