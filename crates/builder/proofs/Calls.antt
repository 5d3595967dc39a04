-- One law for each answer of the builder's calls, by the tests that lead to it.
use Prim.Native.Nat.{ℕ, ◌+◌, ◌*◌, ◌-◌, ◌≤◌, ◌<◌}
use mathlib.Core.Path.{◌≡◌, ap, ◌∙◌}
use mathlib.Core.Bool.{Bool, true, false}
use mathlib.Core.List.{List, ◌++◌}
use native.Mathlib.Nat.{mul-le-mul}
use native.Mathlib.Omega.{arith}
use borrow.Author.Tests.{lt-ltb, le-ltb, le-leb, lt-leb}
use borrow.Rule.Slice.PartMut.{mid_of, put_mid}
use lib.ListN.{length, take, drop, replicate}
use lib.Seq.{length-take-le}
use Rattle.egg.specs.declared.GroupElementId.{GroupElementId}
use Rattle.egg.specs.declared.GeneratorId.{GeneratorId}
use Rattle.egg.specs.declared.Refusal.{Refusal}
use Rattle.egg.specs.declared.Factor.{Factor}
use Rattle.egg.specs.Answers.{Counted, Made, Reached, Verdict, fine}
use Rattle.std.specs.Prelude.{Ok, Err}
use Rattle.egg.specs.Factor.{has_room, fits_in, stretch, refused_reach}
use Rattle.egg.proofs.Rooms.{room_enough}
use Rattle.builder.specs.declared.Builder.{Builder}
use Rattle.builder.specs.declared.Grown.{Grown}
use Rattle.builder.specs.declared.Stored.{Stored}
use Rattle.builder_arguments.specs.Places.{placed, storable, over_long}
use Rattle.build_reading.specs.Build.{is_new, set_step, adds}
use Rattle.build_lending.specs.Finish.{built}
use Rattle.builder_rereading.specs.Own.{own_in}
use Rattle.build_lending.specs.Lending.{table_need, work_need, within, StretchEnd, no_factor, refused_made, made_of, making}
use Rattle.builder.specs.Calls.{Leaving, leaving, builder_of, refused_begun, begins, grown, grows_by, grows, new_or, stores, builds}
use Rattle.build_lending.proofs.Lending.{part_length, part_back, stretch_lent, build_back}

module _ (table : List ℕ) (start room n : ℕ) where
  pub begin_many : 8 < n → leaving (refused_begun 1 n) table ≡ begins table start room n
  unfolding begins
  begin_many h = simp (lt-ltb _ _ h)

  pub begin_short : n ≤ 8 → has_room (length table) start room n ≡ false → leaving (refused_begun 4 0) table ≡ begins table start room n
  unfolding begins
  begin_short h k = rw k (simp (le-ltb _ _ h))

  pub begin_done : {e : ℕ} {p : List ℕ} → n ≤ 8 → has_room (length table) start room n ≡ true → StretchEnd e start (table_need n room) (length table)
      → p ≡ replicate (length (mid_of start (e - start) table)) 0
      → leaving (Ok (builder_of start room n 1)) (put_mid start (e - start) table p) ≡ begins table start room n
  unfolding begins
  begin_done {e} {p} h k q z =
      ap (λ (l : List ℕ). leaving (Ok (builder_of start room n 1)) l)
      (part_back table start (table_need n room) q p ∙ ap (λ (l : List ℕ). within table start (start + table_need n room) l)
      (z ∙ ap (λ (m : ℕ). replicate m 0) (part_length table start (table_need n room) q)))
      ∙ rw k (simp (le-ltb _ _ h))

module _ (s : List ℕ) (f : Factor) (e : GroupElementId) (g : GeneratorId) {long : Bool} (o : long ≡ over_long s f e) where
  pub grow_altered : {s₁ : List ℕ} {none : Factor} → long ≡ true → s₁ ≡ replicate (length s) 0 → none ≡ no_factor
      → leaving (record { answer = refused_reach 17 0; builder = record { 0 = none } }) s₁ ≡ grown s f e g
  unfolding grown
  grow_altered h z k = rw (← o, h, z, k)

  module _ {x : Reached} {s₁ : List ℕ} (h : long ≡ false)
      (a : (x ≡ (adds s f.generators f.room f.elements e g).answer) × (s₁ ≡ (adds s f.generators f.room f.elements e g).table)) where
    pub grow_refused : {why : Refusal} {s₂ : List ℕ} {none : Factor} → x ≡ Err why → s₂ ≡ replicate (length s₁) 0 → none ≡ no_factor
        → leaving (record { answer = Err why; builder = record { 0 = none } }) s₂ ≡ grown s f e g
    unfolding grown
    grow_refused p z k = rw (← o, h, ← a.0, ← a.1, p, z, k)

    pub grow_new : {y : GroupElementId} → x ≡ Ok y
        → leaving (record { answer = Ok y; builder = builder_of f.start f.room f.generators (f.elements + 1) }) s₁ ≡ grown s f e g
    unfolding grown
    grow_new p = rw (← o, h, ← a.0, ← a.1, p)

module _ (t : List ℕ) (b : Builder) (e : GroupElementId) (g : GeneratorId) {v : Verdict} where
  module _ (q : v ≡ placed (length t) b.0 e g) where
    pub grows_refused : {why : Refusal} → v ≡ Err why → leaving (record { answer = Err why; builder = b }) t ≡ grows t b e g
    unfolding grows
    grows_refused h = rw (← q, h)

    pub grows_new : {x : Grown} {s : List ℕ} {d : ℕ} → v ≡ fine → StretchEnd d b.0.start (table_need b.0.generators b.0.room) (length t)
        → leaving x s ≡ grown (mid_of b.0.start (d - b.0.start) t) b.0 e g
        → leaving x (put_mid b.0.start (d - b.0.start) t s) ≡ grows t b e g
    unfolding grows
    grows_new {x} {s} h p k =
        ap (λ (l : List ℕ). leaving x l) (part_back t b.0.start (table_need b.0.generators b.0.room) p s)
        ∙ rw (← q, h)
        (ap (λ (l : Leaving Grown). grows_by t b.0 fine l) (k ∙ ap (λ (l : List ℕ). grown l b.0 e g) (stretch_lent t b.0 p)))

  module _ (r : GroupElementId) (q : v ≡ storable t b.0 e g r) where
    pub stores_refused : {why : Refusal} → v ≡ Err why → leaving (Err why) t ≡ stores t b e g r
    unfolding stores
    stores_refused h = rw (← q, h)

    pub stores_done : {new : Bool} {s : List ℕ} {d : ℕ} {x : Stored} → v ≡ fine
        → StretchEnd d b.0.start (table_need b.0.generators b.0.room) (length t)
        → (new ≡ is_new (mid_of b.0.start (d - b.0.start) t) b.0.generators e g)
        × (s ≡ set_step (mid_of b.0.start (d - b.0.start) t) b.0.generators e g r)
        → x ≡ new_or new → leaving (Ok x) (put_mid b.0.start (d - b.0.start) t s) ≡ stores t b e g r
    unfolding stores
    stores_done {new} {s} {d} {x} h p k z =
        let m : mid_of b.0.start (d - b.0.start) t ≡ stretch t b.0 = stretch_lent t b.0 p in
        let y : s ≡ set_step (stretch t b.0) b.0.generators e g r = k.1 ∙ ap (λ (l : List ℕ). set_step l b.0.generators e g r) m in
        let u : new ≡ is_new (stretch t b.0) b.0.generators e g = k.0 ∙ ap (λ (l : List ℕ). is_new l b.0.generators e g) m in
        ap (λ (l : List ℕ). leaving (Ok x) l) (part_back t b.0.start (table_need b.0.generators b.0.room) p s) ∙ rw (← q, h, z, ← u, ← y)

-- A work that is long enough for a build has a number for each successor.
pub work_copies : (len : ℕ) (f : Factor) (w : List ℕ) {d : ℕ} → fits_in len f ≡ true → d ≡ work_need f.generators f.room → d ≤ length w
    → f.elements * f.generators ≤ length (take d w)
work_copies len f w {d} h q k =
    let n = f.generators in
    let a : n ≤ 6 * n * n + 4 * n = omega arith in
    omega (arith, length-take-le d w k, mul-le-mul (room_enough len f h) a)

module _ (t : List ℕ) (b : Builder) (w : List ℕ) where
  pub builds_handle : fits_in (length t) b.0 ≡ false → making (refused_made 17 0) t w ≡ builds t b w
  unfolding builds
  builds_handle h = rw h

  module _ {d : ℕ} (fits : fits_in (length t) b.0 ≡ true) (k : d ≡ work_need b.0.generators b.0.room) where
    pub builds_short : length w < d → making (refused_made 4 0) t w ≡ builds t b w
    unfolding builds
    builds_short h = rw (fits, ← k) (simp (lt-leb _ _ h))

    pub builds_done : {x : ℕ} {c : Counted} {t₁ w₁ : List ℕ} {m : Made} → d ≤ length w
        → StretchEnd x b.0.start (table_need b.0.generators b.0.room) (length t)
        → built c t₁ w₁ ≡ own_in (mid_of b.0.start (x - b.0.start) t) (take d w) b.0.generators b.0.room b.0.elements
        → m ≡ made_of b.0.start b.0.room b.0.generators c
        → making m (put_mid b.0.start (x - b.0.start) t t₁) (w₁ ++ drop d w) ≡ builds t b w
    unfolding builds
    builds_done {x} h p z q =
        build_back t b.0.start w b.0.generators b.0.room p k q
        (z ∙ ap (λ (l : List ℕ). own_in l (take d w) b.0.generators b.0.room b.0.elements) (stretch_lent t b.0 p))
        ∙ rw (fits, ← k) (simp (le-leb _ _ h))
