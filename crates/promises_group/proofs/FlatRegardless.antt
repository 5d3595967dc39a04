-- What an accepted `flatten` gives, whatever the factors' stretches hold: an accepted factor whose steps are those that were read, each of which was answered.
-- And what any call writes, accepted or refused: its stretch of the table and the needed work.
use Prim.Native.Nat.{ℕ, ◌+◌, ◌<◌}
use mathlib.Core.Path.{◌≡◌, refl, sym, ap, ◌∙◌}
use mathlib.Core.Bool.{true}
use mathlib.Core.List.{List, ◌∷◌}
use native.Mathlib.Nat.{le_refl}
use native.Mathlib.Omega.{arith}
use lib.ListN.{length, take, replicate, length-replicate}
use Rattle.egg.specs.declared.Refusal.{Refusal}
use Rattle.egg.specs.declared.Factor.{Factor}
use Rattle.egg.specs.Answers.{Reached, Made}
use Rattle.std.specs.Prelude.{Ok, Err}
use Rattle.egg.specs.Factor.{has_room, stretch}
use Rattle.build_reading.specs.Reading.{read_all}
use Rattle.build_lending.specs.Finish.{built, finished_placed}
use Rattle.build_lending.specs.Lending.{table_need, work_need, within, making}
use Rattle.build_lending.proofs.Lending.{lent_table_lem}
use Rattle.build_lending.proofs.Finishing.{refused_counted}
use Rattle.theory.proofs.Counting.{numbered_table}
use Rattle.build_laws.specs.Taken.{Holding}
use Rattle.build_laws.proofs.Lent.{handle, lent_table, work_taken, stretch_part, fits_still, by_build}
use Rattle.build_laws.proofs.Built.{built_holds, built_work}
use Rattle.factor_laws.specs.Accepted.{reach}
use Rattle.promises.specs.Leaves.{Lent, Leaves, untouched, zeros, table_for}
use Rattle.promises.specs.Unaltered.{Wrote, part}
use Rattle.promises.proofs.Unaltered.{leaves_wrote, stretch_long}
use Rattle.promises_refusals.specs.Papers.{EnoughLent}
use Rattle.promises_refusals.proofs.Lent.{right_enough}
use Rattle.group_handles.specs.declared.Group.{Group}
use Rattle.group_handles.specs.Handles.{handles, generators_of}
use Rattle.group_digits.specs.Digits.{step_in}
use Rattle.group_flatten.specs.Flat.{flat_in, flat}
use Rattle.promises_group.specs.Flattening.{FlatRight, number_read, step_number, work_for, FlatRegardless}
use Rattle.promises_group.proofs.FlatReads.{Reads, by_numbers, not_read}
use Rattle.promises_group.proofs.FlatLeaves.{flat_leaves}
use Rattle.promises_group.proofs.FlatAnswers.{flat_is, work_long, flat_reads}
use Rattle.promises_group.proofs.FlatMore.{flat_begun}

-- A number below 65,536 was answered.
answered_of : (r : Reached) → number_read r < 65536 → r ≡ reach (number_read r)
answered_of (Ok v) h = refl
answered_of (Err r) h = absurd (omega arith)

module _ (from : List ℕ) (g : Group) (table : List ℕ) (start : ℕ) (work : List ℕ) (room : ℕ) (R : FlatRight from g table start work room) where
  abbrev n : ℕ
  n = generators_of (handles g)

  abbrev w₀ : List ℕ
  w₀ = take (work_need (generators_of (handles g)) room) work

  abbrev src : ℕ → ℕ → ℕ
  src = step_number from (handles g)

  enough : EnoughLent table start work (generators_of (handles g)) room
  enough = right_enough table start work n room R.lent

  has_room_lem : has_room (length table) start room (generators_of (handles g)) ≡ true
  has_room_lem = lent_table_lem (length table) start (length work) room n R.lent

  -- What a build counted, it counted of the numbers that are read.
  counted_numbers : {N : ℕ} {s v : List ℕ} → Reads from (handles g) room (table_need n room) w₀
      → flat_in (table_need n room) w₀ from (handles g) n room ≡ built (Ok N) s v
      → finished_placed (read_all src n room (replicate (table_need n room) 0)) n w₀ ≡ built (Ok N) s v
  counted_numbers (by_numbers e own) q = sym e ∙ q
  counted_numbers (not_read e x t s r z) q = absurd (refused_counted (sym z ∙ q))

  module _ {N : ℕ} {s v : List ℕ} (H : Holding src n room (table_need n room) N s) (z : v ≡ replicate (work_need n room) 0) where
    own : stretch (lent_table table start n room s) (handle start n room N) ≡ s
    own = stretch_part table start n room has_room_lem s H.size_kept N

    answered : {e x : ℕ} → e < N → x < n → step_in from (handles g) e x ≡ reach (src e x)
    answered {e} {x} he hx =
        let small : src e x < N = (numbered_table H.taken.readable.by_rule).closed he hx in
        answered_of (step_in from (handles g) e x) (omega (arith, H.taken.readable.within, enough.most_room))

    holds : FlatRegardless from g table start work room (handle start n room N) (lent_table table start n room s) (within work 0 (work_need n room) v)
    holds = record {
      right = R;
      taken = H.taken;
      accepted = record {
        fits = fits_still table start n room has_room_lem s H.size_kept N H.sound.table.origin H.taken.readable.within;
        sound = rw own H.sound;
        ruled = rw own H.ruled;
        hops = rw own H.hops;
      };
      answered = λ {e} {x} he hx. rw own (answered he hx ∙ ap reach (sym (H.steps he hx)));
      made = record { handle = refl; beyond = λ {i} h. rw own (H.beyond h); table_kept = rw own; work_zero = rw z };
    }

  regardless_at : {f f' : Factor} {t t' w w' : List ℕ} → f ≡ f' → t ≡ t' → w ≡ w' → FlatRegardless from g table start work room f' t' w'
      → FlatRegardless from g table start work room f t w
  regardless_at a b c G = rw (a, b, c) G

  regardless : {f : Factor} {t w : List ℕ} → flat from g table start work room ≡ making (Ok f) t w
      → FlatRegardless from g table start work room f t w
  regardless h =
      let b = by_build table start work n room (flat_in (table_need n room) w₀ from (handles g) n room) (sym (flat_is from g table start work room R) ∙ h) in
      let q = counted_numbers (flat_reads from g table start work room R) b.3.0 in
      let long = work_long from g table start work room R in
      let H = built_holds src n room (table_need n room) w₀ R.generators enough.some_room enough.most_room (le_refl (table_need n room)) long q in
      let z = built_work src n room (table_need n room) w₀ R.generators enough.some_room enough.most_room (le_refl (table_need n room)) long q in
      regardless_at b.3.1.0 b.3.1.1.0 b.3.1.1.1 (holds H (z ∙ ap (λ (k : ℕ). replicate k 0) (work_taken table start work n room R.lent)))

-- What a call leaves of one buffer after the other.
leaves_rest : {right : Type 0} {before after : List ℕ} {b : Lent} {l : List Lent} {r : Refusal} → Leaves right before after (b ∷ l) r → Leaves right before after l r
leaves_rest (untouched wrong m s) = untouched wrong m s.1
leaves_rest (zeros ok m z) = zeros ok m z.1

module _ (from : List ℕ) (g : Group) (table : List ℕ) (start : ℕ) (work : List ℕ) (room : ℕ) where
  -- What is accepted is an accepted factor, whatever the handles and the buffers.
  pub flat_regardless : (f : Factor) (t w : List ℕ) → flat from g table start work room ≡ making (Ok f) t w → FlatRegardless from g table start work room f t w
  flat_regardless f t w h = regardless from g table start work room (flat_begun from g table start work room f t w h) h

  -- What it wrote is its stretch of the table and the needed work, or nothing, whatever the handles and the buffers; so factors and products elsewhere in the
  -- table's buffer are as they were.
  pub flat_wrote : (m : Made) (t w : List ℕ) → flat from g table start work room ≡ making m t w
      → Wrote (table_for table start (generators_of (handles g)) room t) × Wrote (work_for work (generators_of (handles g)) room w)
  flat_wrote (Ok f) t w h =
      let k : ℕ = generators_of (handles g) in
      let G = flat_regardless f t w h in
      let E = right_enough table start work k room G.right.lent in
      let size : table_need f.generators f.room ≡ table_need k room = ap (λ (x : Factor). table_need x.generators x.room) G.made.handle in
      let end : 0 + work_need k room ≡ work_need k room = omega arith in (
        part (stretch t f) E.table_long (stretch_long t f G.accepted.fits ∙ size) G.made.table_kept,
        part (replicate (work_need k room) 0) (rw end E.work_long) (length-replicate (work_need k room) 0) (rw end G.made.work_zero),
      )
  flat_wrote (Err r) t w h =
      let L = flat_leaves from g table start work room r t w h in
      (leaves_wrote L, leaves_wrote (leaves_rest L))
