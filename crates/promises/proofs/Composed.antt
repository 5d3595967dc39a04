-- Demand 2 for composed rows. The call is the build in its stretches, put back into the buffers; so what holds of the build holds of the call.
use Prim.Native.Nat.{ℕ, ◌+◌, ◌*◌, ◌≤◌}
use mathlib.Core.Path.{◌≡◌, refl, sym, ap, ◌∙◌}
use mathlib.Core.Logic.{◌↔◌}
use mathlib.Core.Bool.{Bool, true, false, ◌&&◌}
use mathlib.Core.List.{List}
use native.Mathlib.Nat.{le_refl}
use borrow.Author.Tests.{le-leb, le-ltb, leb-true, ltb-false}
use lib.Dec.{leb, ltb}
use lib.ListN.{length, take, replicate}
use Rattle.egg.specs.declared.Refusal.{Refusal}
use Rattle.egg.specs.declared.Factor.{Factor}
use Rattle.egg.specs.Refusals.{numbered, refusal_paper}
use Rattle.std.specs.Prelude.{Ok, Err}
use Rattle.egg.specs.Table.{pick}
use Rattle.egg.specs.Factor.{has_room, stretch}
use Rattle.egg.proofs.Rooms.{and_first, and_second, positive, limited}
use Rattle.build_lending.specs.Finish.{Built}
use Rattle.build_lending.specs.Lending.{table_need, work_need, lent_right, within, making, lent_back, refused_made, Making}
use Rattle.build_lending.proofs.Lending.{lent_table_lem}
use Rattle.factor.specs.Composed.{composed_in, composed}
use Rattle.build_reading.specs.Reading.{composed_at}
use Rattle.promises.specs.Composed.{RowsRight, Given}
use Rattle.build_laws.specs.Taken.{Taken, Groupless, Holding}
use Rattle.build_laws.proofs.Lent.{refused_making_lem, handle, work_taken, taken_enough, lent_table, by_build, by_refused, stretch_part, fits_still}
use Rattle.build_laws.proofs.Built.{built_holds, built_work, taken_built}
use Rattle.build_laws.proofs.Twelve.{built_12, groupless_built}

module _ (table : List ℕ) (start : ℕ) (work rows : List ℕ) (n room : ℕ) (f : Factor) (t w : List ℕ) where
  abbrev accepted : Making
  accepted = making (Ok f) t w

  -- Where the call is accepted, 1 and 4 have passed.
  pub begun : composed table start work rows n room ≡ making (Ok f) t w → RowsRight table start work rows n room
  unfolding composed
  begun h = first (lent_back table start work n room (composed_in (table_need n room) (take (work_need n room) work) rows n room)) (ltb 8 n) refl h where
    second : (m : Making) (b : Bool) → ltb 8 n ≡ false → lent_right (length table) start (length work) room n && leb (room * n) (length rows) ≡ b
        → pick b m (making (refused_made 4 0) table work) ≡ accepted → RowsRight table start work rows n room
    second m true g l e = record {
      generators = ltb-false 8 n g;
      lent = and_first (lent_right (length table) start (length work) room n) _ l;
      listed = leb-true _ _ (and_second (lent_right (length table) start (length work) room n) _ l);
    }
    second m false g l e = absurd (refused_making_lem e)

    first : (m : Making) (a : Bool) → ltb 8 n ≡ a
        → pick a (making (refused_made 1 n) table work)
        (pick (lent_right (length table) start (length work) room n && leb (room * n) (length rows)) m (making (refused_made 4 0) table work)) ≡ accepted
        → RowsRight table start work rows n room
    first m true g e = absurd (refused_making_lem e)
    first m false g e = second m (lent_right (length table) start (length work) room n && leb (room * n) (length rows)) g refl e

module _ (table : List ℕ) (start : ℕ) (work rows : List ℕ) (n room : ℕ) (hn : n ≤ 8)
    (lent : lent_right (length table) start (length work) room n ≡ true) (listed : room * n ≤ length rows) where
  has_room_lem : has_room (length table) start room n ≡ true
  has_room_lem = lent_table_lem (length table) start (length work) room n lent

  abbrev build : Built
  build = composed_in (table_need n room) (take (work_need n room) work) rows n room

  pub composed_is_build : composed table start work rows n room
      ≡ lent_back table start work n room (composed_in (table_need n room) (take (work_need n room) work) rows n room)
  unfolding composed
  composed_is_build = simp (le-ltb _ _ hn, lent, le-leb _ _ listed)

  pub lo : 1 ≤ room
  lo = positive (length table) start room n has_room_lem

  pub hi : room ≤ 65535
  hi = limited (length table) start room n has_room_lem

  pub work_lent : work_need n room ≤ length (take (work_need n room) work)
  work_lent = taken_enough table start work n room lent

  module _ {N : ℕ} {s : List ℕ} (H : Holding (composed_at rows n) n room (table_need n room) N s) where
    part : stretch (lent_table table start n room s) (handle start n room N) ≡ s
    part = stretch_part table start n room has_room_lem s H.size_kept N

    -- What holds of the handle and the buffers, for the element count and the stretch that a build gave.
    given : {v : List ℕ} → v ≡ replicate (work_need n room) 0 → Given table start work rows n room (handle start n room N) (lent_table table start n room s) (within work 0 (work_need n room) v)
    given z = record {
      handle = refl;
      taken = H.taken;
      accepted = record {
        fits = fits_still table start n room has_room_lem s H.size_kept N H.sound.table.origin H.taken.readable.within;
        sound = rw part H.sound;
        ruled = rw part H.ruled;
        hops = rw part H.hops;
      };
      steps = λ {e} {g} he hg. rw part (H.steps he hg);
      beyond = λ {i} h. rw part (H.beyond h);
      table_kept = rw part;
      work_zero = rw z;
    }

  given_at : {f f' : Factor} {t t' w w' : List ℕ} → f ≡ f' → t ≡ t' → w ≡ w' → Given table start work rows n room f' t' w'
      → Given table start work rows n room f t w
  given_at a b c G = rw (a, b, c) G

  -- An accepted call gives all of this.
  accepted_given : {f : Factor} {t w : List ℕ}
      → composed table start work rows n room ≡ making (Ok f) t w
      → Given table start work rows n room f t w
  unfolding composed_in
  accepted_given {f} {t} {w} q =
      let b = by_build table start work n room build (sym composed_is_build ∙ q) in
      let H = built_holds (composed_at rows n) n room (table_need n room) (take (work_need n room) work) hn lo hi (le_refl (table_need n room)) work_lent b.3.0 in
      let z = built_work (composed_at rows n) n room (table_need n room) (take (work_need n room) work) hn lo hi (le_refl (table_need n room)) work_lent b.3.0 in
      given_at b.3.1.0 b.3.1.1.0 b.3.1.1.1 (given H (z ∙ ap (λ (k : ℕ). replicate k 0) (work_taken table start work n room lent)))

  -- Accepted exactly when: "a table within 01's limits and the given room is accepted exactly when some group has it as its right steps under the
  -- numbering rule".
  pub composed_exactly : ((f : Factor) × (t : List ℕ) × (w : List ℕ)
      × (composed table start work rows n room ≡ making (Ok f) t w))
      ↔ ((N : ℕ) × Taken (composed_at rows n) n room N)
  unfolding composed_in
  composed_exactly = (
    λ a. (a.0.elements, (accepted_given a.3).taken),
    λ g.
        let b = taken_built (composed_at rows n) n room (table_need n room) (take (work_need n room) work) hn lo hi (le_refl (table_need n room)) work_lent g.1 in (
          record { start = start; room = room; generators = n; elements = g.0 },
          within table start (start + table_need n room) b.0,
          within work 0 (work_need n room) b.1,
          composed_is_build ∙ ap (lent_back table start work n room) b.2,
        ),
  )

  refused_groupless : {r : Refusal} {t w : List ℕ}
      → composed table start work rows n room ≡ making (Err r) t w → (refusal_paper r).number ≡ 12
      → (r ≡ numbered 12 0 0 0) × ((N : ℕ) × Groupless (composed_at rows n) n room N)
  unfolding composed_in
  refused_groupless q number =
      let b = by_refused table start work n room build (sym composed_is_build ∙ q) in
      built_12 (composed_at rows n) n room (table_need n room) (take (work_need n room) work) hn lo hi (le_refl (table_need n room)) work_lent b.2 number

  -- Refused by 12 exactly when reading and 8 to 11 pass and "no group has these right steps".
  pub composed_12 : ((t : List ℕ) × (w : List ℕ)
      × (composed table start work rows n room ≡ making (Err (numbered 12 0 0 0)) t w))
      ↔ ((N : ℕ) × Groupless (composed_at rows n) n room N)
  unfolding composed_in
  composed_12 = (
    λ a. (refused_groupless a.2 refl).1,
    λ g.
        let b = groupless_built (composed_at rows n) n room (table_need n room) (take (work_need n room) work) hn lo hi (le_refl (table_need n room)) work_lent g.1 in (
          within table start (start + table_need n room) b.0,
          within work 0 (work_need n room) b.1,
          composed_is_build ∙ ap (lent_back table start work n room) b.2,
        ),
  )

  -- "Each carries three places, zero where none is listed": no other 12 is given.
  pub composed_12_places : {r : Refusal} {t w : List ℕ}
      → composed table start work rows n room ≡ making (Err r) t w → (refusal_paper r).number ≡ 12
      → r ≡ numbered 12 0 0 0
  composed_12_places q number = (refused_groupless q number).0

-- What an accepted call gives, whatever the arguments: it has passed 1 and 4.
module _ (table : List ℕ) (start : ℕ) (work rows : List ℕ) (n room : ℕ) (f : Factor) (t w : List ℕ) where
  pub composed_given : composed table start work rows n room ≡ making (Ok f) t w
      → Given table start work rows n room f t w
  composed_given h = let B = begun table start work rows n room f t w h in accepted_given table start work rows n room B.generators B.lent B.listed h
