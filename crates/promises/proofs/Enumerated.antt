-- Demand 3: whatever the arguments, an enumeration that is accepted gives the group that the pair orders present.
use Prim.Native.Nat.{ℕ}
use mathlib.Core.Path.{◌≡◌, refl, sym, ap, ◌∙◌}
use mathlib.Core.Bool.{true}
use mathlib.Core.List.{List}
use lib.ListN.{length}
use Rattle.egg.specs.declared.Factor.{Factor}
use Rattle.std.specs.Prelude.{Ok}
use Rattle.egg.specs.Factor.{has_room, stretch}
use Rattle.build_lending.specs.Lending.{table_need, work_need, within, Making, making}
use Rattle.build_lending.proofs.Lending.{lent_table_lem}
use Rattle.enumeration.specs.Calls.{enumerated_in, enumerates}
use Rattle.theory.proofs.Walking.{walk_closed}
use Rattle.theory.proofs.Sound.{compose_words}
use Rattle.theory.proofs.Presented.{presented}
use Rattle.factor_laws.specs.Accepted.{Accepted, reach}
use Rattle.factor_laws.proofs.Handles.{compose_answer_lem}
use Rattle.enumeration_run.specs.Limits.{Limits}
use Rattle.enumeration.proofs.Calls.{limits}
use Rattle.enumeration.proofs.Handle.{enumerates_is_build, passed}
use Rattle.promises.specs.Enumerated.{EnumerationRight, Enumerated, Demand3}
use Rattle.build_laws.proofs.Lent.{handle, lent_table, by_build, stretch_part, fits_still}
use Rattle.promises.proofs.Derived.{Related, enumerated_related}

module _ (table : List ℕ) (start : ℕ) (work orders : List ℕ) (n room : ℕ) (f : Factor) (t w : List ℕ) where
  abbrev pub accepted : Making
  accepted = making (Ok f) t w

  -- Where the call is accepted, 1 to 4 have passed.
  pub begun : enumerates table start work orders n room ≡ accepted → EnumerationRight table start work orders n room
  begun h = let (g, o, l) = passed table start work orders n room f t w h in record { generators = g; right = o; lent = l }

  module _ (B : EnumerationRight table start work orders n room) where
    has_room_lem : has_room (length table) start room n ≡ true
    has_room_lem = lent_table_lem (length table) start (length work) room n B.lent

    begun_limits : Limits n orders room (table_need n room) (work_need n room)
    begun_limits = limits table start work orders n room B.generators B.right B.lent

    module _ {N : ℕ} {s v : List ℕ} (R : Related orders n room (table_need n room) (work_need n room) begun_limits B.right N s v) where
      part : stretch (lent_table table start n room s) (handle start n room N) ≡ s
      part = stretch_part table start n room has_room_lem s R.size_kept N

      taken : Accepted (lent_table table start n room s) (handle start n room N)
      taken = record {
        fits = fits_still table start n room has_room_lem s R.size_kept N R.sound.table.origin R.within_room;
        sound = rw part R.sound;
        ruled = rw part R.ruled;
        hops = rw part R.hops;
      }

      demand : Demand3 orders (handle start n room N) (lent_table table start n room s)
      demand = record {
        presented = λ {u} {v} hu hv. rw part (presented R.sound.table R.holds R.sound.spelled R.derived hu hv);
        joined = λ {u} {v} hu hv.
            let A = taken in
            let a = walk_closed A.sound.table A.sound.table.origin hu in
            let b = walk_closed A.sound.table A.sound.table.origin hv in
            compose_answer_lem A a b ∙ ap reach (compose_words A.sound.table A.sound.spelled A.sound.check hu hv);
      }

      related_enumerated : Enumerated table start work orders n room (handle start n room N) (lent_table table start n room s) (within work 0 (work_need n room) v)
      related_enumerated = record {
        handle = refl;
        accepted = taken;
        demand_3 = demand;
        holds = rw part R.holds;
        all_related = rw part R.all_related;
        beyond = λ {i} h. rw part (R.beyond h);
        table_kept = rw part;
        work_zero = rw R.work_zero;
      }

  at : {f' : Factor} {t' w' : List ℕ} → f ≡ f' → t ≡ t' → w ≡ w' → Enumerated table start work orders n room f' t' w'
      → Enumerated table start work orders n room f t w
  at a b c E = rw (a, b, c) E

  -- For any pair orders whose enumeration is accepted.
  pub enumeration_accepted : enumerates table start work orders n room ≡ making (Ok f) t w
      → Enumerated table start work orders n room f t w
  enumeration_accepted h =
      let B = begun h in
      let b = by_build table start work n room (enumerated_in (table_need n room) (work_need n room) orders n room)
      (sym (enumerates_is_build table start work orders n room B.generators B.right B.lent) ∙ h) in
      let R = enumerated_related orders n room (table_need n room) (work_need n room) (begun_limits B) B.right b.3.0 in
      at b.3.1.0 b.3.1.1.0 b.3.1.1.1 (related_enumerated B R)
