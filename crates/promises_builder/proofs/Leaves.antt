-- What the builder's calls leave when they refuse: for a refusal of the arguments everything as it was; once a build is under way, zeros in its stretches.
use Rattle.egg.specs.Answers.{answer_of}
use Prim.Native.Nat.{ℕ, ◌+◌}
use mathlib.Core.Path.{◌≡◌, refl, sym, ap, ◌∙◌, subst}
use mathlib.Core.Logic.{◌⊎◌, inl, inr}
use mathlib.Core.Bool.{Bool, true, false}
use mathlib.Core.List.{List, [], ◌∷◌}
use native.Mathlib.Omega.{arith}
use borrow.Author.Tests.{leb-true, leb-false, ltb-true}
use lib.Dec.{leb, ltb}
use lib.ListN.{length}
use Rattle.egg.specs.declared.Refusal.{Refusal}
use Rattle.egg.specs.declared.Factor.{Factor}
use Rattle.egg.specs.declared.GroupElementId.{GroupElementId}
use Rattle.egg.specs.declared.GeneratorId.{GeneratorId}
use Rattle.egg.specs.Answers.{Reached, Verdict, fine}
use Rattle.std.specs.Prelude.{Ok, Err}
use Rattle.egg.specs.Table.{pick, length_of}
use Rattle.egg.specs.Scan.{refused_of}
use Rattle.egg.specs.Factor.{has_room, fits_in, stretch, refused_reach}
use Rattle.egg.proofs.Rooms.{has, within_length, false_true, room_generators}
use Rattle.egg.proofs.Scans.{refused_fine, Says, says_fine, says_then, says_pick, says_refused}
use Rattle.build_reading.specs.Build.{is_new, Adds, adds}
use Rattle.egg.specs.Answers.{numbered}
use Rattle.builder.specs.declared.Builder.{Builder}
use Rattle.builder.specs.Answers.{Begun, Storing}
use Rattle.builder.specs.declared.Grown.{Grown}
use Rattle.build_lending.specs.Lending.{table_need, work_need, refused_made, Making, making}
use Rattle.builder.specs.Calls.{leaving, builder_of, refused_begun, begins, placed, placed_step, storable, over_long, grown_by, grown, grows_by, grows, stores_by, stores, builds}
use Rattle.builder_arguments.proofs.Places.{place_fits}
use Rattle.build_checks_laws.specs.Numbers.{RefusalIn, late_numbers}
use Rattle.promises.specs.Leaves.{Leaves, untouched, zeros, table_for, lent_for}
use Rattle.promises.proofs.ReadLengths.{adds_length}
use Rattle.promises.proofs.Unaltered.{stretch_long}
use Rattle.promises_builder.specs.Builds.{BuildRight}
use Rattle.promises_builder.specs.Calls.{own_lent}
use Rattle.promises_builder.proofs.Ways.{parts, why_is, build_number, build_zeros}

moved : (l : List ℕ) {s r : Refusal} → s ≡ r → RefusalIn l s → RefusalIn l r
moved l q m = subst (λ (x : Refusal). RefusalIn l x) q m

-- `build`.
module _ (t : List ℕ) (b : Builder) (w : List ℕ) (r : Refusal) (t' w' : List ℕ) where
  abbrev refused : Making
  refused = making (Err r) t' w'

  right_or_not : builds t b w ≡ refused → BuildRight t b w ⊎ (¬ (BuildRight t b w) × RefusalIn (4 ∷ 17 ∷ []) r × (t' ≡ t) × (w' ≡ w))
  unfolding builds
  right_or_not h = by (fits_in (length t) b.0) refl (leb (work_need b.0.generators b.0.room) (length w)) refl _ h where
    early : (k : ℕ) → RefusalIn (4 ∷ 17 ∷ []) (numbered k 0 0 0) → ¬ (BuildRight t b w) → making (refused_made k 0) t w ≡ refused
        → BuildRight t b w ⊎ (¬ (BuildRight t b w) × RefusalIn (4 ∷ 17 ∷ []) r × (t' ≡ t) × (w' ≡ w))
    early k m wrong e = let p = parts e in inr (wrong, moved (4 ∷ 17 ∷ []) (why_is {s = numbered k 0 0 0} p.0) m, sym p.1, sym p.2)

    by : (c : Bool) → fits_in (length t) b.0 ≡ c → (d : Bool) → leb (work_need b.0.generators b.0.room) (length w) ≡ d → (m : Making)
        → pick c (pick d m (making (refused_made 4 0) t w)) (making (refused_made 17 0) t w) ≡ refused
        → BuildRight t b w ⊎ (¬ (BuildRight t b w) × RefusalIn (4 ∷ 17 ∷ []) r × (t' ≡ t) × (w' ≡ w))
    by true p true q m e = inl (record { fits = p; enough = leb-true _ _ q })
    by true p false q m e = early 4 refl (λ R. omega (arith, R.enough, leb-false (work_need b.0.generators b.0.room) (length w) q)) e
    by false p d q m e = early 17 refl (λ R. false_true (sym p ∙ R.fits)) e

  pub builds_leaves : builds t b w ≡ making (Err r) t' w'
      → Leaves (BuildRight t b w) (4 ∷ 17 ∷ []) (6 ∷ 7 ∷ 8 ∷ 17 ∷ late_numbers) (lent_for t b.0.start w b.0.generators b.0.room t' w') r
  builds_leaves h = by (right_or_not h) where
    by : BuildRight t b w ⊎ (¬ (BuildRight t b w) × RefusalIn (4 ∷ 17 ∷ []) r × (t' ≡ t) × (w' ≡ w))
        → Leaves (BuildRight t b w) (4 ∷ 17 ∷ []) (6 ∷ 7 ∷ 8 ∷ 17 ∷ late_numbers) (lent_for t b.0.start w b.0.generators b.0.room t' w') r
    by (inr (wrong, m, p, q)) = untouched wrong m (p, (q, tt))
    by (inl R) =
        let n = b.0.generators in
        let room = b.0.room in
        let z = build_zeros t b w R.fits R.enough h in
        let end : 0 + work_need n room ≡ work_need n room = omega arith in
        zeros R (build_number t b w R.fits R.enough (t', w', h)) (
          record { inside = within_length (length t) b.0.start room n (has (length t) b.0 R.fits); zero = z.0 },
          (record { inside = rw end R.enough; zero = z.1 ∙ rw end }, tt),
        )

-- The parts of what a call leaves.
left : {A : Type 0} {x y : A} {t t' : List ℕ} → leaving x t ≡ leaving y t' → (x ≡ y) × (t ≡ t')
left q = (cc, cc)

-- `begin` refuses its arguments only.
module _ (table : List ℕ) (start room n : ℕ) (r : Refusal) (t : List ℕ) where
  abbrev Begins : Type 0
  Begins = Leaves (has_room (length table) start room n ≡ true) (1 ∷ 4 ∷ []) [] (table_for table start n room t ∷ []) r

  pub begins_leaves : begins table start room n ≡ leaving (Err r) t
      → Leaves (has_room (length table) start room n ≡ true) (1 ∷ 4 ∷ []) [] (table_for table start n room t ∷ []) r
  unfolding begins
  begins_leaves h = by (ltb 8 n) refl (has_room (length table) start room n) refl _ h where
    early : (k a : ℕ) → RefusalIn (1 ∷ 4 ∷ []) (numbered k a 0 0) → ¬ (has_room (length table) start room n ≡ true)
        → leaving (refused_begun k a) table ≡ leaving (Err r) t → Begins
    early k a m wrong e =
        let p = left e in
        untouched wrong (moved (1 ∷ 4 ∷ []) {s = numbered k a 0 0} (why_is p.0) m) (sym p.1, tt)

    by : (c : Bool) → ltb 8 n ≡ c → (d : Bool) → has_room (length table) start room n ≡ d → (l : List ℕ)
        → pick c (leaving (refused_begun 1 n) table)
        (pick d (leaving (Ok (builder_of start room n 1)) l) (leaving (refused_begun 4 0) table))
        ≡ leaving (Err r) t → Begins
    by true p d q l e = early 1 n refl (λ z. false_true (room_generators (length table) start room n (ltb-true 8 n p) ∙ z)) e
    by false p true q l e = absurd (refused_fine (sym (ap (λ (x : Begun). answer_of x) (left e).0)))
    by false p false q l e = early 4 0 refl (λ z. false_true (sym q ∙ z)) e

-- 17 in the handle and 14.
fourteen : {a : ℕ} → Says (RefusalIn (14 ∷ 17 ∷ [])) (refused_of 14 a 0 0)
fourteen = says_refused refl

seventeen : Says (RefusalIn (14 ∷ 17 ∷ [])) (refused_of 17 0 0 0)
seventeen = says_refused refl

ruleset early = (says_then, says_pick, says_fine, fourteen, seventeen)

place_numbers : (len : ℕ) (f : Factor) (e : GroupElementId) (g : GeneratorId) → Says (RefusalIn (14 ∷ 17 ∷ [])) (placed len f e g)
unfolding placed
place_numbers len f e g = search early

-- `add_successor`: right is a handle that fits, an element and a generator; 5, 17 in the length that is read, and 6 end the build.
module _ (t : List ℕ) (b : Builder) (e : GroupElementId) (g : GeneratorId) (r : Refusal) (b' : Builder) (t' : List ℕ) where
  abbrev f : Factor
  f = b.0

  abbrev Grows : Type 0
  Grows = Leaves (placed (length t) f e g ≡ fine) (14 ∷ 17 ∷ []) (5 ∷ 6 ∷ 17 ∷ []) (table_for t f.start f.generators f.room t' ∷ []) r

  abbrev refusal : Grown
  refusal = record { answer = Err r; builder = b' }

  abbrev added : Adds
  added = adds (stretch t f) f.generators f.room f.elements e g

  added_number : {x : Refusal} → added.answer ≡ Err x → RefusalIn (5 ∷ 6 ∷ 17 ∷ []) x
  unfolding adds
  added_number {x} q = by (leb f.room f.elements) (leb 4096 (length_of (stretch t f) f.generators e.0)) _ _ q where
    is : (k : ℕ) → RefusalIn (5 ∷ 6 ∷ 17 ∷ []) (numbered k e.0 g.0 0) → ◌≡◌ {A = Reached} (Err (numbered k e.0 g.0 0)) (Err x) → RefusalIn (5 ∷ 6 ∷ 17 ∷ []) x
    is k m p = moved (5 ∷ 6 ∷ 17 ∷ []) (why_is {s = numbered k e.0 g.0 0} p) m

    by : (c d : Bool) (y : GroupElementId) (l : List ℕ)
        → (pick {A = Adds} c (record { answer = Err (numbered 5 e.0 g.0 0); table = stretch t f })
        (pick d (record { answer = Err (numbered 6 e.0 g.0 0); table = stretch t f }) (record { answer = Ok y; table = l }))).answer
        ≡ Err x → RefusalIn (5 ∷ 6 ∷ 17 ∷ []) x
    by true d y l p = is 5 refl p
    by false true y l p = is 6 refl p
    by false false y l p = let z : ◌≡◌ {A = ℕ} 0 1 = cc in absurd (omega arith)

  pub grows_leaves : grows t b e g ≡ leaving (record { answer = Err r; builder = b' }) t'
      → Leaves (placed (length t) b.0 e g ≡ fine) (14 ∷ 17 ∷ []) (5 ∷ 6 ∷ 17 ∷ [])
      (own_lent t b t' ∷ []) r
  unfolding grows grown
  grows_leaves h = by (placed (length t) f e g) refl h where
    answer_is : {x y : Grown} → x ≡ y → x.answer ≡ y.answer
    answer_is q = ap (λ (z : Grown). z.answer) q

    -- A refusal of the build: zeros in the stretch.
    ended : placed (length t) f e g ≡ fine → (x : Refusal) (s : List ℕ) → RefusalIn (5 ∷ 6 ∷ 17 ∷ []) x → length s ≡ length (stretch t f)
        → grows_by t f fine (grown_by f (Err x) s) ≡ leaving refusal t' → Grows
    ended passed x s m long q =
        let fits = place_fits (length t) f e g refl passed in
        let p = left q in
        let i : x ≡ r = why_is (answer_is p.0) in
        let k : length s ≡ table_need f.generators f.room = long ∙ stretch_long t f fits in
        zeros passed (moved (5 ∷ 6 ∷ 17 ∷ []) i m) (
          record { inside = within_length (length t) f.start f.room f.generators (has (length t) f fits); zero = sym p.1 ∙ rw k },
          tt,
        )

    grew : placed (length t) f e g ≡ fine → (a : Reached) → added.answer ≡ a
        → grows_by t f fine (grown_by f a added.table) ≡ leaving refusal t' → Grows
    grew passed (Ok y) p q = let v : ◌≡◌ {A = Reached} (Ok y) (Err r) = answer_is (left q).0 in let z : ◌≡◌ {A = ℕ} 0 1 = cc in absurd (omega arith)
    grew passed (Err x) p q =
        ended passed x added.table (added_number p) (adds_length (stretch t f) f.generators f.room f.elements e g) q

    long_or_not : placed (length t) f e g ≡ fine → (c : Bool)
        → grows_by t f fine (pick c (grown_by f (refused_reach 17 0) (stretch t f)) (grown_by f added.answer added.table)) ≡ leaving refusal t' → Grows
    long_or_not passed true q = ended passed (numbered 17 0 0 0) (stretch t f) refl refl q
    long_or_not passed false q = grew passed added.answer refl q

    by : (v : Verdict) → placed (length t) f e g ≡ v
        → grows_by t f v (pick (over_long (stretch t f) f e) (grown_by f (refused_reach 17 0) (stretch t f)) (grown_by f added.answer added.table)) ≡ leaving refusal t'
        → Grows
    by (Ok _) p q = long_or_not p (over_long (stretch t f) f e) q
    by (Err x) p q =
        let u = left q in
        let i : x ≡ r = why_is (answer_is u.0) in
        untouched (λ z. refused_fine (sym p ∙ z)) (moved (14 ∷ 17 ∷ []) i ((place_numbers (length t) f e g).of x p)) (sym u.1, tt)

-- `set_successor` refuses before it stores anything: 17 for the step that it reads too changes nothing.
module _ (t : List ℕ) (b : Builder) (e : GroupElementId) (g : GeneratorId) (to : GroupElementId) (r : Refusal) (t' : List ℕ) where
  step_numbers : Says (RefusalIn (14 ∷ 17 ∷ [])) (placed_step (length t) b.0 e g to)
  unfolding placed_step
  step_numbers = says_then (placed (length t) b.0 e g) _ (place_numbers (length t) b.0 e g) (search early)

  store_numbers : Says (RefusalIn (14 ∷ 17 ∷ [])) (storable t b.0 e g to)
  unfolding storable
  store_numbers = says_then (placed_step (length t) b.0 e g to) _ step_numbers (search early)

  pub stores_leaves : stores t b e g to ≡ leaving (Err r) t'
      → Leaves (storable t b.0 e g to ≡ fine) (14 ∷ 17 ∷ []) [] (own_lent t b t' ∷ []) r
  unfolding stores
  stores_leaves h = by (storable t b.0 e g to) refl (is_new (stretch t b.0) b.0.generators e g) _ h where
    by : (v : Verdict) → storable t b.0 e g to ≡ v → (new : Bool) (l : List ℕ) → stores_by t v new l ≡ leaving (Err r) t'
        → Leaves (storable t b.0 e g to ≡ fine) (14 ∷ 17 ∷ []) [] (own_lent t b t' ∷ []) r
    by (Ok _) p new l q = absurd (refused_fine (sym (ap (λ (x : Storing). answer_of x) (left q).0)))
    by (Err x) p new l q =
        let u = left q in
        untouched (λ z. refused_fine (sym p ∙ z)) (moved (14 ∷ 17 ∷ []) (why_is u.0) (store_numbers.of x p)) (sym u.1, tt)
