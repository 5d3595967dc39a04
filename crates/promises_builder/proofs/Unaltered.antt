-- The builder's calls write nothing, or the stretch of their builder: so a factor elsewhere in the buffer is as it was, whatever they answer.
use Prim.Native.Nat.{ℕ, ◌+◌}
use mathlib.Core.Path.{◌≡◌, refl, ◌∙◌}
use mathlib.Core.Bool.{Bool, true, false}
use mathlib.Core.List.{List}
use lib.Dec.{ltb}
use lib.ListN.{length, replicate, length-replicate}
use Rattle.egg.specs.declared.Factor.{Factor}
use Rattle.egg.specs.declared.GroupElementId.{GroupElementId}
use Rattle.egg.specs.declared.GeneratorId.{GeneratorId}
use Rattle.egg.specs.Answers.{Made, Reached, Verdict}
use Rattle.std.specs.Prelude.{Ok, Err}
use Rattle.egg.specs.Table.{pick}
use Rattle.egg.specs.Factor.{has_room, fits_in, stretch, refused_reach}
use Rattle.egg.proofs.Rooms.{has, within_length}
use Rattle.build_reading.specs.Build.{is_new, set_step, Adds, adds}
use Rattle.builder.specs.declared.Builder.{Builder}
use Rattle.builder.specs.declared.Grown.{Grown}
use Rattle.build_lending.specs.Lending.{table_need, within, making}
use Rattle.builder.specs.Calls.{Leaving, leaving, with_stretch, builder_of, refused_begun, begins, placed, storable, over_long, grown_by, grown, grows_by, grows, stores_by, stores, builds}
use Rattle.builder_arguments.proofs.Places.{place_fits, store_fits}
use Rattle.enumeration_run_laws.proofs.Marking.{set_length}
use Rattle.factor_laws.specs.Accepted.{Accepted}
use Rattle.factor_laws.specs.Unaltered.{Unaltered}
use Rattle.promises.specs.Leaves.{table_for}
use Rattle.promises.specs.Unaltered.{Wrote, nothing, part, Apart}
use Rattle.promises.proofs.ReadLengths.{adds_length}
use Rattle.promises.proofs.Unaltered.{kept, leaves_wrote, stretch_long}
use Rattle.promises_builder.specs.Calls.{left_in, own_lent}
use Rattle.promises_builder.proofs.Builds.{begun, build_given, build_same}
use Rattle.promises_builder.proofs.Leaves.{builds_leaves}

wrote_stretch : (t : List ℕ) (b : Builder) → fits_in (length t) b.0 ≡ true → (s : List ℕ) → length s ≡ length (stretch t b.0) → Wrote (own_lent t b (with_stretch t b.0 s))
wrote_stretch t b fits s size =
    part s (within_length (length t) b.0.start b.0.room b.0.generators (has (length t) b.0 fits)) (size ∙ stretch_long t b.0 fits) refl

pub begins_wrote : (table : List ℕ) (start room n : ℕ) → Wrote (table_for table start n room (left_in (begins table start room n)))
unfolding begins
begins_wrote table start room n = by (ltb 8 n) (has_room (length table) start room n) refl where
  by : (a b : Bool) → has_room (length table) start room n ≡ b
      → Wrote (table_for table start n room (left_in (pick a (leaving (refused_begun 1 n) table)
      (pick b (leaving (Ok (builder_of start room n 1)) (within table start (start + table_need n room) (replicate (table_need n room) 0)))
      (leaving (refused_begun 4 0) table)))))
  by true b q = nothing refl
  by false true q = part (replicate (table_need n room) 0) (within_length (length table) start room n q) (length-replicate (table_need n room) 0) refl
  by false false q = nothing refl

grown_by_length : (f : Factor) (x : Reached) (s : List ℕ) → length (left_in (grown_by f x s)) ≡ length s
grown_by_length f (Ok e) s = refl
grown_by_length f (Err r) s = length-replicate (length s) 0

module _ (t : List ℕ) (b : Builder) (e : GroupElementId) (g : GeneratorId) where
  grown_length : length (left_in (grown (stretch t b.0) b.0 e g)) ≡ length (stretch t b.0)
  unfolding grown
  grown_length = by (over_long (stretch t f) f e) where
    f : Factor
    f = b.0

    a : Adds
    a = adds (stretch t f) f.generators f.room f.elements e g

    by : (c : Bool) → length (left_in (pick c (grown_by f (refused_reach 17 0) (stretch t f)) (grown_by f a.answer a.table))) ≡ length (stretch t f)
    by true = grown_by_length f (refused_reach 17 0) (stretch t f)
    by false = grown_by_length f a.answer a.table ∙ adds_length (stretch t f) f.generators f.room f.elements e g

  pub grows_wrote : Wrote (own_lent t b (left_in (grows t b e g)))
  unfolding grows
  grows_wrote = by (placed (length t) b.0 e g) refl (grown (stretch t b.0) b.0 e g) grown_length where
    by : (v : Verdict) → placed (length t) b.0 e g ≡ v → (l : Leaving Grown) → length (left_in l) ≡ length (stretch t b.0)
        → Wrote (own_lent t b (left_in (grows_by t b.0 v l)))
    by (Ok _) q (leaving x s) long = wrote_stretch t b (place_fits (length t) b.0 e g refl q) s long
    by (Err r) q l long = nothing refl

  pub stores_wrote : (r : GroupElementId) → Wrote (own_lent t b (left_in (stores t b e g r)))
  unfolding stores
  stores_wrote r = by (storable t b.0 e g r) refl where
    by : (v : Verdict) → storable t b.0 e g r ≡ v
        → Wrote (own_lent t b (left_in (stores_by t v (is_new (stretch t b.0) b.0.generators e g) (with_stretch t b.0 (set_step (stretch t b.0) b.0.generators e g r)))))
    by (Ok _) q =
        wrote_stretch t b (store_fits t b.0 e g r refl q) (set_step (stretch t b.0) b.0.generators e g r)
        (set_length (stretch t b.0) b.0.generators e g r)
    by (Err x) q = nothing refl

-- `build`, accepted or refused.
pub builds_wrote : (t : List ℕ) (b : Builder) (w : List ℕ) (m : Made) (t' w' : List ℕ) → builds t b w ≡ making m t' w' → Wrote (own_lent t b t')
builds_wrote t b w (Ok x) t' w' h =
    let G = build_given t b w x t' w' h in
    let B = begun t b w x t' w' h in
    let e = (build_same t b w x t' w' h).0 in
    part (stretch t' x) (within_length (length t) b.0.start b.0.room b.0.generators (has (length t) b.0 B.fits))
    (stretch_long t' x G.accepted.fits ∙ rw e) G.table_kept
builds_wrote t b w (Err r) t' w' h = leaves_wrote (builds_leaves t b w r t' w' h)

-- So a factor elsewhere is as it was.
module _ (t : List ℕ) (b : Builder) {f' : Factor} (A : Accepted t f') where
  pub grows_unaltered : (e : GroupElementId) (g : GeneratorId) → Apart f' (own_lent t b (left_in (grows t b e g))) → Unaltered t (left_in (grows t b e g)) f'
  grows_unaltered e g apart = kept (own_lent t b (left_in (grows t b e g))) A apart (grows_wrote t b e g)

  pub stores_unaltered : (e : GroupElementId) (g : GeneratorId) (r : GroupElementId) → Apart f' (own_lent t b (left_in (stores t b e g r)))
      → Unaltered t (left_in (stores t b e g r)) f'
  stores_unaltered e g r apart = kept (own_lent t b (left_in (stores t b e g r))) A apart (stores_wrote t b e g r)

  pub builds_unaltered : (w : List ℕ) (m : Made) (t' w' : List ℕ) → builds t b w ≡ making m t' w'
      → Apart f' (own_lent t b t') → Unaltered t t' f'
  builds_unaltered w m t' w' h apart = kept (own_lent t b t') A apart (builds_wrote t b w m t' w' h)

pub begins_unaltered : (table : List ℕ) (start room n : ℕ) {f' : Factor} → Accepted table f'
    → Apart f' (table_for table start n room (left_in (begins table start room n))) → Unaltered table (left_in (begins table start room n)) f'
begins_unaltered table start room n A apart = kept (table_for table start n room (left_in (begins table start room n))) A apart (begins_wrote table start room n)
