-- `flatten` of a product of accepted factors, with right arguments: accepted exactly when the product's numbers follow the numbering rule within the room and
-- with words to 4,096; refused exactly by 7, 5 and 6, at the first place that cannot be read. 8 to 12 never come, since the product is a group whose generators
-- are distinct and none of which is the identity, and neither does 17, since every step of an accepted factor can be read.
use Prim.Native.Nat.{ℕ, ◌+◌, ◌≤◌, ◌<◌}
use mathlib.Core.Path.{◌≡◌, refl, sym, ap, ◌∙◌, subst}
use mathlib.Core.Logic.{◌↔◌}
use mathlib.Core.Bool.{true}
use mathlib.Core.List.{List}
use native.Mathlib.Nat.{le_refl}
use lib.ListN.{length, take, replicate}
use Rattle.egg.specs.declared.Refusal.{Refusal}
use Rattle.egg.specs.declared.Factor.{Factor}
use Rattle.std.specs.Prelude.{Ok, Err}
use Rattle.egg.specs.Factor.{has_room}
use Rattle.egg.proofs.Rooms.{positive, limited}
use Rattle.build_reading.specs.Reading.{Placed, placed, read_all}
use Rattle.build_lending.specs.Finish.{Built, built, zeroed, finished, finished_placed}
use Rattle.build_lending.specs.Lending.{table_need, work_need, lent_right, within, making, lent_back}
use Rattle.build_lending.proofs.Lending.{lent_table_lem}
use Rattle.theory.specs.Numbering.{Numbered}
use Rattle.theory.specs.AnyGroup.{SomeGroup}
use Rattle.theory.proofs.AnyCarrier.{any_carrier}
use Rattle.theory.proofs.IdentityRows.{identity_row_distinct}
use Rattle.theory.proofs.Counting.{numbered_table}
use Rattle.theory.proofs.FirstPlaces.{numbered_spelled}
use Rattle.build_reading_laws.specs.Read.{Readable, ReadingRefused}
use Rattle.build_reading_laws.proofs.Readings.{accepts_exactly, refuses_exactly}
use Rattle.factor_laws.specs.Accepted.{Accepted}
use Rattle.build_laws.specs.Taken.{Taken}
use Rattle.build_laws.proofs.Lent.{taken_enough, by_build, by_refused, refused_making_lem}
use Rattle.build_laws.proofs.Built.{built_holds, taken_built}
use Rattle.promises.proofs.Stops.{stops_built}
use Rattle.theory_products.specs.Product as theory
use Rattle.theory_products.specs.Product.{Each, Worded, DistinctlyGenerated}
use Rattle.theory_products.proofs.WordLaws.{product_worded}
use Rattle.theory_products.proofs.Generating.{product_generated}
use Rattle.group_handles.specs.declared.Group.{Group}
use Rattle.group_handles.specs.Handles.{handles, generators_of}
use Rattle.group_flatten.specs.Flat.{flat}
use Rattle.promises_group.specs.Products.{part, parts, AllAccepted, none, more, AcceptedProduct, direct}
use Rattle.promises_group.specs.Flattening.{Flattens, FlatRight}
use Rattle.promises_group.proofs.Parts.{part_worded, all_worded, parts_generators}
use Rattle.promises_group.proofs.Flattened.{flat_is_build}
use Rattle.promises_group.proofs.FlatGiven.{same_count, part_table}

-- The generators of an accepted factor are 1..n, so they are distinct, and none is the identity; and so are those of a product.
part_generated : (t : List ℕ) {h : Factor} → Accepted t h → DistinctlyGenerated (part t h)
part_generated t A = record {
  stepped = (part_worded t A).stepped;
  distinct = (identity_row_distinct A.ruled.rule.numbered).0 A.ruled.rule.identity_row_lem;
}

all_generated : (t : List ℕ) {hs : List Factor} → AllAccepted t hs → Each DistinctlyGenerated (parts t hs)
all_generated t none = theory.none
all_generated t (more A As) = theory.more (part_generated t A) (all_generated t As)

module _ {from : List ℕ} {g : Group} (A : AcceptedProduct from g) where
  W : Worded (direct from g)
  W = product_worded (all_worded from A.factors)

  some_group : SomeGroup (direct from g).generators (direct from g).elements (direct from g).step
  some_group =
      any_carrier.1 (record { op = (direct from g).op; inv = (direct from g).inv; group = W.stepped.group.laws; steps = W.stepped.steps })

  module _ (room : ℕ) where
    -- What reading takes of the product's steps is all of the product, with identity row 1..n.
    readable_flattens : {N : ℕ} → Readable (direct from g).step (direct from g).generators room N → Flattens (direct from g) room
    readable_flattens {N} R =
        let count : N ≡ (direct from g).elements =
        same_count (numbered_table R.by_rule) (part_table W) (λ e x he hx. refl) (numbered_spelled R.by_rule) W.spelled in
        record {
          rule = record {
            numbered = subst (λ (k : ℕ). Numbered (direct from g).generators k (direct from g).step) count R.by_rule;
            identity_row_lem = (identity_row_distinct R.by_rule).1 (product_generated (all_generated from A.factors)).distinct;
          };
          within = subst (λ (k : ℕ). k ≤ room) count R.within;
          short = λ {e} he. R.short (subst (λ (k : ℕ). e < k) (sym count) he);
        }

    flattens_taken : Flattens (direct from g) room → Taken (direct from g).step (direct from g).generators room (direct from g).elements
    flattens_taken F = record {
      readable = record { by_rule = F.rule.numbered; within = F.within; short = λ he. F.short he };
      identity_row_lem = F.rule.identity_row_lem;
      group = some_group;
    }

module _ {from : List ℕ} {g : Group} (A : AcceptedProduct from g) (table : List ℕ) (start : ℕ) (work : List ℕ) (room : ℕ)
    (R : FlatRight from g table start work room)
  where
    abbrev n : ℕ
    n = (direct from g).generators

    pub few : n ≤ 8
    few = subst (λ (k : ℕ). k ≤ 8) (sym (parts_generators from (handles g))) R.generators

    pub lent : lent_right (length table) start (length work) room n ≡ true
    lent = subst (λ (k : ℕ). lent_right (length table) start (length work) room k ≡ true) (sym (parts_generators from (handles g))) R.lent

    abbrev build : Built
    build = finished_placed (read_all (direct from g).step n room (replicate (table_need n room) 0)) n (take (work_need n room) work)

    pub is_build : flat from g table start work room ≡ lent_back table start work n room build
    is_build = as_handles (parts_generators from (handles g)) where
      as_handles : n ≡ generators_of (handles g) → flat from g table start work room ≡ lent_back table start work n room build
      as_handles q =
          rw q (flat_is_build A table start work room (W A).stepped.group.laws.identity R.generators R.lent)

    pub has : has_room (length table) start room n ≡ true
    has = lent_table_lem (length table) start (length work) room n lent

    pub lo : 1 ≤ room
    lo = positive (length table) start room n has

    pub hi : room ≤ 65535
    hi = limited (length table) start room n has

    pub work_lent : work_need n room ≤ length (take (work_need n room) work)
    work_lent = taken_enough table start work n room lent

    flattened : Flattens (direct from g) room
        → (f : Factor) × (t : List ℕ) × (w : List ℕ) × (flat from g table start work room ≡ making (Ok f) t w)
    flattened F =
        let b = taken_built (direct from g).step n room (table_need n room) (take (work_need n room) work) few lo hi (le_refl (table_need n room)) work_lent
        (flattens_taken A room F) in (
          record { start = start; room = room; generators = n; elements = (direct from g).elements },
          within table start (start + table_need n room) b.0,
          within work 0 (work_need n room) b.1,
          is_build ∙ ap (lent_back table start work n room) b.2,
        )

    -- Accepted exactly when.
    pub flat_exactly : ((f : Factor) × (t : List ℕ) × (w : List ℕ)
        × (flat from g table start work room ≡ making (Ok f) t w))
        ↔ Flattens (direct from g) room
    flat_exactly = (
      λ a.
          let b = by_build table start work n room build (sym is_build ∙ a.3) in
          let H = built_holds (direct from g).step n room (table_need n room) (take (work_need n room) work) few lo hi (le_refl (table_need n room)) work_lent
          b.3.0 in
          readable_flattens A room H.taken.readable,
      flattened,
    )

    -- A build that is refused stopped in reading: what reading takes is accepted.
    refused_by : (p : Placed) → read_all (direct from g).step n room (replicate (table_need n room) 0) ≡ p → {r : Refusal} {s v : List ℕ}
        → finished_placed p n (take (work_need n room) work) ≡ built (Err r) s v → build ≡ built (Err r) s v → ReadingRefused (direct from g).step n room r
    unfolding finished
    refused_by (placed (Ok N) t₀) e {r} {s} {v} q h =
        let F = flattened (readable_flattens A room ((accepts_exactly (direct from g).step n room (table_need n room) few lo hi (le_refl (table_need n room)) N).0 (t₀, e))) in
        absurd (refused_making_lem (ap (lent_back table start work n room) (sym h) ∙ sym is_build ∙ F.3))
    refused_by (placed (Err s) t₀) e {r} q h =
        let i : s ≡ r = cc in
        (refuses_exactly (direct from g).step n room (table_need n room) few lo hi (le_refl (table_need n room)) r).0
        (t₀, e ∙ ap (λ (x : Refusal). placed (Err x) t₀) i)

    -- Refused exactly by 7, 5 or 6, at the first place that cannot be read.
    pub flat_stops : (r : Refusal)
        → ((t : List ℕ) × (w : List ℕ) × (flat from g table start work room ≡ making (Err r) t w))
        ↔ ReadingRefused (direct from g).step n room r
    flat_stops r = (
      λ a.
          let b = by_refused table start work n room build (sym is_build ∙ a.2) in
          refused_by (read_all (direct from g).step n room (replicate (table_need n room) 0)) refl b.2 b.2,
      λ S.
          let b = stops_built (direct from g).step n room (table_need n room) (take (work_need n room) work) few lo hi (le_refl (table_need n room)) S in (
            within table start (start + table_need n room) b.0,
            within work 0 (work_need n room) (zeroed (take (work_need n room) work)),
            is_build ∙ ap (lent_back table start work n room) b.1,
          ),
    )
