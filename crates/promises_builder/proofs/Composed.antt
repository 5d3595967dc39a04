-- A builder whose every step is there and leads to one of its elements, all of which are reached: `build` is `from_composed` on the same rows.
use Prim.Native.Nat.{ℕ, suc, ◌+◌, ◌*◌, ◌-◌, ◌≤◌, ◌<◌}
use mathlib.Core.Path.{◌≡◌, refl, sym, ap, ◌∙◌, subst}
use mathlib.Core.Bool.{true}
use mathlib.Core.List.{List, map}
use native.Mathlib.Nat.{le_refl, mul-le-mul}
use native.Mathlib.Omega.{arith}
use borrow.Author.Tests.{le-leb}
use lib.ListN.{length, take, drop, replicate, length-replicate, length-drop, length-map, get_or-map}
use lib.Seq.{length-take-le}
use Rattle.egg.specs.declared.Refusal.{Refusal}
use Rattle.egg.specs.declared.Factor.{Factor}
use Rattle.std.specs.Prelude.{Ok, Err}
use Rattle.egg.specs.Factor.{has_room, fits_in, stretch}
use Rattle.egg.proofs.Rooms.{has, some, room_enough, few, limited, within_length}
use Rattle.build_reading.specs.Reading.{Placed, placed, read_place, read_all, composed_at}
use Rattle.builder.specs.declared.Builder.{Builder}
use Rattle.build_lending.specs.Finish.{zeroed, finished_placed}
use Rattle.build_lending.specs.Lending.{table_need, work_need, lent_right, lent_back}
use Rattle.builder_rereading.specs.Own.{stored_at, copied, own_place, own_all, all_reached, reaches_all, own_in}
use Rattle.builder.specs.Calls.{builds}
use Rattle.builder_rereading.proofs.Copying.{copied_at, copied_length}
use Rattle.builder_rereading.proofs.Owning.{own_read}
use Rattle.factor.specs.Composed.{composed_in, composed}
use Rattle.theory.specs.Numbering.{Numbered}
use Rattle.build_reading_laws.proofs.Readings.{accepted_read}
use Rattle.promises.proofs.Composed.{composed_is_build}
use Rattle.promises_builder.specs.Own.{own_at, own_rows, Filled}
use Rattle.build_laws.proofs.AnyWork.{any_work}
use Rattle.promises_builder.proofs.AnyWork.{own_in_zeros}
use Rattle.promises_builder.proofs.EndAlike.{EndAlike, all_alike, read_alike}

abbrev Same : Refusal → Refusal → List ℕ → List ℕ → Type 0
Same s r t t' = (s ≡ r) × (t ≡ t')

abbrev Equal : ℕ → List ℕ → List ℕ → Type 0
Equal c t t' = t ≡ t'

alike_equal : (lo N : ℕ) (p p' : Placed) → EndAlike lo N Same Equal p p' → p ≡ p'
alike_equal lo N (placed (Ok c) t) (placed (Ok c') t') a = let z : c' ≡ c = a.0 in let y : t ≡ t' = a.3 in cc
alike_equal lo N (placed (Ok c) t) (placed (Err r) t') a = absurd a
alike_equal lo N (placed (Err s) t) (placed (Ok c) t') a = absurd a
alike_equal lo N (placed (Err s) t) (placed (Err r) t') a = let z : s ≡ r = a.0 in let y : t ≡ t' = a.1 in cc

-- Where each place holds the source's number, both readings are one.
module _ (own src : ℕ → ℕ → ℕ) (n room N : ℕ) (lo : 1 ≤ N) (hi : N ≤ room)
    (same : (e g : ℕ) → e < N → g < n → own e g ≡ suc (src e g)) (inside : (e g : ℕ) → e < N → g < n → src e g < N) where
  place : (x g c : ℕ) (t t' : List ℕ) → x < N → x < c → g < n → c ≤ N → t ≡ t'
      → EndAlike (suc x) N Same Equal (own_place t n room N c x g (own x g)) (read_place t' n room c x g (src x g))
  place x g c t t' hx hc hg most q =
      let s = same x g hx hg in
      let i = inside x g hx hg in
      let v : own x g - 1 ≡ src x g = omega arith in
      subst (λ (u : List ℕ). EndAlike (suc x) N Same Equal (own_place t n room N c x g (own x g)) (read_place u n room c x g (src x g))) q
      (rw (← own_read t n room N c x g (own x g) (λ z. omega arith) (omega arith), v)
      (read_alike N Same Equal n room x g c (src x g) t t (λ r h. (refl, refl)) i hi hc most refl (λ k. refl) (λ k l. refl)))

  pub own_is_read : (t : List ℕ) → own_all own n room N t ≡ read_all src n room t
  own_is_read t = alike_equal 1 N (own_all own n room N t) (read_all src n room t) (all_alike N Same Equal own src n room place lo hi refl)

-- The build in its stretches, where no fewer elements than the builder has are reached.
module _ (s w : List ℕ) (src : ℕ → ℕ → ℕ) (n room size N : ℕ) (least : n ≤ 8) (lo : 1 ≤ N) (hi : N ≤ room) (limit : room ≤ 65535)
    (fits : room * (2 * n + 4) ≤ size) (long : length s ≡ size)
    (same : (e g : ℕ) → e < N → g < n → stored_at s n e g ≡ suc (src e g)) (inside : (e g : ℕ) → e < N → g < n → src e g < N)
    (reached : (c : ℕ) → Numbered n c src → c ≡ N) where
  end : (p : Placed) → read_all src n room (replicate size 0) ≡ p → finished_placed (reaches_all n N p) n (zeroed w) ≡ finished_placed p n w
  unfolding all_reached
  end (placed (Err r) t) q = any_work (Err r) n t (zeroed w) w (length-replicate (length w) 0)
  end (placed (Ok c) t) q =
      let R = accepted_read src n room size least (omega arith) limit fits q in
      let e : c ≡ N = reached c R.by_rule in
      rw (le-leb N c (omega arith)) (any_work (Ok c) n t (zeroed w) w (length-replicate (length w) 0))

  pub own_reads : own_in s w n room N ≡ finished_placed (read_all src n room (replicate size 0)) n w
  own_reads =
      let z : zeroed s ≡ replicate size 0 = ap (λ (k : ℕ). replicate k 0) long in
      rw (own_in_zeros s w n room N, z, own_is_read (stored_at s n) src n room N lo hi same inside (replicate size 0)) (end (read_all src n room (replicate size 0)) refl)

-- A handle that fits, and a work that is long enough.
module _ (t : List ℕ) (b : Builder) (w : List ℕ) (fits : fits_in (length t) b.0 ≡ true) (enough : work_need b.0.generators b.0.room ≤ length w) where
  abbrev f : Factor
  f = b.0

  abbrev n : ℕ
  n = b.0.generators

  abbrev room : ℕ
  room = b.0.room

  has_room_lem : has_room (length t) b.0.start b.0.room b.0.generators ≡ true
  has_room_lem = has (length t) f fits

  pub least : b.0.generators ≤ 8
  least = few (length t) f.start room n has_room_lem

  pub limit : b.0.room ≤ 65535
  limit = limited (length t) f.start room n has_room_lem

  pub stretch_long : length (stretch t b.0) ≡ table_need b.0.generators b.0.room
  unfolding stretch
  stretch_long =
      let d : length (drop f.start t) ≡ length t - f.start = length-drop f.start t in
      length-take-le (table_need n room) (drop f.start t) (omega (arith, within_length (length t) f.start room n has_room_lem))

  pub lent : lent_right (length t) b.0.start (length w) b.0.room b.0.generators ≡ true
  unfolding lent_right
  lent = rw has_room_lem (le-leb _ _ enough)

  pub builds_is : builds t b w ≡ lent_back t b.0.start w b.0.generators b.0.room
      (own_in (stretch t b.0) (take (work_need b.0.generators b.0.room) w) b.0.generators b.0.room b.0.elements)
  unfolding builds
  builds_is = rw fits (simp (le-leb _ _ enough))

  -- "`build` accepts exactly what `from_composed` accepts of the same rows, with the same table": it is the same call.
  pub build_composed : (rows : List ℕ) → Filled t b.0 → b.0.room * b.0.generators ≤ length rows
      → ((e g : ℕ) → e < b.0.elements → g < b.0.generators → composed_at rows b.0.generators e g ≡ own_at t b.0 e g - 1)
      → ((c : ℕ) → Numbered b.0.generators c (composed_at rows b.0.generators) → c ≡ b.0.elements)
      → builds t b w ≡ composed t b.0.start w rows b.0.generators b.0.room
  unfolding composed_in
  build_composed rows F listed same reached =
      let own : (e g : ℕ) → e < f.elements → g < n → own_at t f e g ≡ suc (composed_at rows n e g) = λ e g he hg. omega (arith, same e g he hg, F.there he hg) in
      builds_is
      ∙ ap (lent_back t f.start w n room)
      (own_reads (stretch t f) (take (work_need n room) w) (composed_at rows n) n room (table_need n room) f.elements least (some (length t) f fits)
      (room_enough (length t) f fits) limit (le_refl (table_need n room)) stretch_long own
      (λ e g he hg. omega (arith, own e g he hg, F.inside he hg)) reached)
      ∙ sym (composed_is_build t f.start w rows n room least lent listed)

  -- The builder's own rows as a list.
  pub listed_long : b.0.room * b.0.generators ≤ length (own_rows t b.0)
  unfolding own_rows
  listed_long =
      let z = replicate {A = ℕ} (room * n) 0 in
      let l : length (map (λ (x : ℕ). x - 1) (copied f.elements (stretch t f) n 0 z)) ≡ room * n =
      length-map (copied f.elements (stretch t f) n 0 z) (λ (x : ℕ). x - 1) ∙ copied_length (stretch t f) n f.elements 0 z ∙ length-replicate (room * n) 0 in
      omega (arith, l)

  pub own_rows_at : (e g : ℕ) → e < b.0.elements → g < b.0.generators → composed_at (own_rows t b.0) b.0.generators e g ≡ own_at t b.0 e g - 1
  unfolding own_rows
  own_rows_at e g he hg =
      let z = replicate {A = ℕ} (room * n) 0 in
      let l : f.elements * n ≤ length z = omega (arith, length-replicate {A = ℕ} (room * n) 0, mul-le-mul (room_enough (length t) f fits) (le_refl n)) in
      get_or-map (λ (x : ℕ). x - 1) (copied f.elements (stretch t f) n 0 z) (e * n + g) 0
      ∙ ap (λ (x : ℕ). x - 1) (copied_at (stretch t f) n f.elements z l e g he hg)

  pub build_own_rows : Filled t b.0 → ((c : ℕ) → Numbered b.0.generators c (composed_at (own_rows t b.0) b.0.generators) → c ≡ b.0.elements)
      → builds t b w ≡ composed t b.0.start w (own_rows t b.0) b.0.generators b.0.room
  build_own_rows F reached = build_composed (own_rows t f) F listed_long own_rows_at reached
