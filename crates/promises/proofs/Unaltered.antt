-- A build elsewhere in the same buffer leaves an accepted factor as it is, whether the build is accepted or refused.
use Prim.Native.Nat.{ℕ, ◌+◌, ◌≤◌}
use mathlib.Core.Path.{◌≡◌, ◌∙◌, ap}
use mathlib.Core.Bool.{true}
use mathlib.Core.List.{List, ◌∷◌}
use native.Mathlib.Omega.{arith}
use lib.ListN.{length, drop, replicate, length-replicate, length-drop}
use lib.Seq.{length-take-le}
use Rattle.egg.specs.declared.Refusal.{Refusal}
use Rattle.egg.specs.declared.Factor.{Factor}
use Rattle.egg.specs.Answers.{Made}
use Rattle.std.specs.Prelude.{Ok, Err}
use Rattle.egg.specs.Factor.{fits_in, stretch}
use Rattle.egg.proofs.Rooms.{has, within_length}
use Rattle.build_lending.specs.Lending.{table_need, within, making}
use Rattle.build_lending.proofs.Lending.{lent_table_lem}
use Rattle.factor.specs.Composed.{composed}
use Rattle.enumeration.specs.Calls.{enumerates}
use Rattle.factor_laws.specs.Accepted.{Accepted}
use Rattle.factor_laws.specs.Unaltered.{Unaltered}
use Rattle.factor_laws.proofs.Unaltered.{unaltered}
use Rattle.promises.specs.Enumerated.{Demand3}
use Rattle.promises.specs.Leaves.{Lent, Leaves, untouched, zeros, table_for}
use Rattle.promises.specs.Unaltered.{Wrote, nothing, part, Apart}
use Rattle.build_laws.proofs.Lent.{within_long, within_apart, handle}
use Rattle.promises.proofs.Composed as rows-call
use Rattle.promises.proofs.Enumerated as orders-call
use Rattle.promises.proofs.Leaves.{composed_leaves, tested_leaves}

-- A factor whose stretch does not overlap what a call was lent.
pub kept : (b : Lent) {f : Factor} → Accepted b.entry f → Apart f b → Wrote b → Unaltered b.entry b.exit f
unfolding stretch
kept b A apart (nothing q) = unaltered b.exit A (rw q) (rw q A.fits)
kept b {f} A apart (part s fits size q) =
    unaltered b.exit A (rw q (within_apart b.entry b.start b.need fits s size f.start (table_need f.generators f.room) apart))
    (rw (q, within_long b.entry b.start b.need fits s size) A.fits)

-- Demand 3 holds of an unaltered factor too.
pub unaltered_demand_3 : {orders t t' : List ℕ} {f : Factor} → Unaltered t t' f → Demand3 orders f t → Demand3 orders f t'
unaltered_demand_3 U D = record {
  presented = λ {u} {v} hu hv. rw U.stretches (D.presented hu hv);
  joined = λ {u} {v} hu hv. rw U.stretches (U.composes _ _ ∙ D.joined hu hv);
}

-- A refused call has written nothing or zeros.
pub leaves_wrote : {right : Type 0} {before after : List ℕ} {b : Lent} {l : List Lent} {r : Refusal} → Leaves right before after (b ∷ l) r → Wrote b
leaves_wrote (untouched wrong m s) = nothing s.0
leaves_wrote {b = b} (zeros ok m z) = part (replicate b.need 0) z.0.inside (length-replicate b.need 0) z.0.zero

-- The stretch of a handle that fits is as long as its build needs.
pub stretch_long : (t : List ℕ) (f : Factor) → fits_in (length t) f ≡ true → length (stretch t f) ≡ table_need f.generators f.room
unfolding stretch
stretch_long t f fits =
    length-take-le (table_need f.generators f.room) (drop f.start t)
    (rw (length-drop f.start t) (omega (arith, within_length (length t) f.start f.room f.generators (has (length t) f fits))))

-- An accepted call has written its stretch.
given_wrote : (table : List ℕ) (start n room : ℕ) {f : Factor} {t : List ℕ} → f ≡ handle start n room f.elements → Accepted t f
    → start + table_need n room ≤ length table → t ≡ within table start (start + table_need n room) (stretch t f) → Wrote (table_for table start n room t)
given_wrote table start n room {f} {t} is A fits q =
    let size : table_need f.generators f.room ≡ table_need n room = ap (λ (x : Factor). table_need x.generators x.room) is in
    part (stretch t f) fits (stretch_long t f A.fits ∙ size) q

-- Whatever a call on composed rows answers, a factor elsewhere in the buffer is as it was.
module _ (table : List ℕ) (start : ℕ) (work rows : List ℕ) (n room : ℕ) (t w : List ℕ) where
  pub composed_wrote : (m : Made) → composed table start work rows n room ≡ making m t w → Wrote (table_for table start n room t)
  composed_wrote (Ok f) h =
      let G = rows-call.composed_given table start work rows n room f t w h in
      let B = rows-call.begun table start work rows n room f t w h in
      given_wrote table start n room G.handle G.accepted (within_length (length table) start room n (lent_table_lem (length table) start (length work) room n B.lent)) G.table_kept
  composed_wrote (Err r) h = leaves_wrote (composed_leaves table start work rows n room r t w h)

  pub composed_unaltered : (m : Made) → composed table start work rows n room ≡ making m t w
      → {f' : Factor} → Accepted table f' → Apart f' (table_for table start n room t) → Unaltered table t f'
  composed_unaltered m h A apart = kept (table_for table start n room t) A apart (composed_wrote m h)

-- The same of an enumeration.
module _ (table : List ℕ) (start : ℕ) (work orders : List ℕ) (n room : ℕ) (t w : List ℕ) where
  pub enumeration_wrote : (m : Made) → enumerates table start work orders n room ≡ making m t w → Wrote (table_for table start n room t)
  enumeration_wrote (Ok f) h =
      let G = orders-call.enumeration_accepted table start work orders n room f t w h in
      let B = orders-call.begun table start work orders n room f t w h in
      given_wrote table start n room G.handle G.accepted (within_length (length table) start room n (lent_table_lem (length table) start (length work) room n B.lent)) G.table_kept
  enumeration_wrote (Err r) h = leaves_wrote (tested_leaves table start work orders n room r t w h)

  pub enumeration_unaltered : (m : Made) → enumerates table start work orders n room ≡ making m t w
      → {f' : Factor} → Accepted table f' → Apart f' (table_for table start n room t) → Unaltered table t f'
  enumeration_unaltered m h A apart = kept (table_for table start n room t) A apart (enumeration_wrote m h)
