-- The predicate form: where it starts, its verdict on the handles, and the outcome in its buffers.
use Prim.Native.Nat.{ℕ, ◌-◌, ◌≤◌, ◌<◌}
use mathlib.Core.Path.{◌≡◌, refl, sym, ap, ◌∙◌}
use mathlib.Core.Bool.{Bool, true, false}
use mathlib.Core.List.{List, [], ◌++◌}
use borrow.Author.Tests.{le-leb, lt-leb}
use borrow.Rule.Slice.PartMut.{mid_of, put_mid}
use lib.ListN.{length, get_or, take, drop}
use lib.Seq.{length-take-le}
use Rattle.std.specs.Prelude.{Err}
use Rattle.egg.specs.Answers.{Counted, Made, Reached, Verdict, fine, numbered}
use Rattle.egg.specs.Scan.{refused_of}
use Rattle.egg.proofs.Scans.{refused_fine}
use Rattle.build_lending.specs.Finish.{built}
use Rattle.build_lending.specs.Lending.{table_need, work_need, StretchEnd, made_of}
use Rattle.build_lending.proofs.Lending.{part_length}
use Rattle.group_handles.specs.declared.Group.{Group}
use Rattle.group_handles.specs.Handles.{handles, elements_of, all_fit}
use Rattle.group_digits.specs.Digits.{composes}
use Rattle.build_numbering.specs.Build.{Renumbering, renumbering}
use Rattle.subgroup_build.specs.Answers.{Subgrouped}
use Rattle.subgroup_build.specs.Lent.{subgroup_of, subgrouping, maps_right, maps_back}
use Rattle.subgroup_build.specs.Generated.{small_enough}
use Rattle.subgroup_predicate_choices.specs.declared.inner.Picks.{Picks}
use Rattle.subgroup_predicate_choices.specs.Choices.{Picked, chooses, again_in, ChosenOfEight, picked_of}
use Rattle.subgroup_predicate.specs.Predicate.{predicate_in, admits_over, told_back, told_into}
use Rattle.subgroup_build.proofs.Admits.{maps_inn, maps_outw}
use Rattle.subgroup_build.proofs.Lendings.{maps_back_lem}

-- From the subgroup of one element on.
pub told_start : {size M K size' M' K' : ℕ} (w : List ℕ) (source : ℕ → ℕ → Reached) (room : ℕ) (byte : ℕ → ℕ) {r : Renumbering} {y : Picked}
    → size' ≡ size → M' ≡ M → K' ≡ K → r ≡ again_in size source room M K [] w → y ≡ chooses M' (again_in size' source room M' K') byte 0 [] r
    → y ≡ predicate_in size w source room M K byte
told_start w source room byte a b c q p = p ∙ rw (a, b, c, q)

-- 17, 15.
module _ (len : ℕ) (over : Group) where
  pub over_handle : all_fit len (handles over) ≡ false → refused_of 17 0 0 0 ≡ admits_over len over
  unfolding admits_over
  over_handle h = rw h

  module _ (h : all_fit len (handles over) ≡ true) {b : Bool} (q : b ≡ small_enough over) where
    pub over_large : b ≡ false → refused_of 15 0 0 0 ≡ admits_over len over
    unfolding admits_over
    over_large e = rw (h, ← q, e)

    pub over_fine : b ≡ true → fine ≡ admits_over len over
    unfolding admits_over
    over_fine e = rw (h, ← q, e)

  pub over_admitted : {v : Verdict} → v ≡ admits_over len over → v ≡ fine → (all_fit len (handles over) ≡ true) × (small_enough over ≡ true)
  over_admitted q e = by (all_fit len (handles over)) (small_enough over) refl refl where
    by : (a b : Bool) → all_fit len (handles over) ≡ a → small_enough over ≡ b → (all_fit len (handles over) ≡ true) × (small_enough over ≡ true)
    by true true p s = (p, s)
    by true false p s = absurd (refused_fine (over_large p refl s ∙ sym q ∙ e))
    by false b p s = absurd (refused_fine (over_handle p ∙ sym q ∙ e))

-- The call: 4, then the outcome in its buffers.
module _ (from : List ℕ) (over : Group) (members table : List ℕ) (start : ℕ) (work inn outw : List ℕ) (room : ℕ) {M : ℕ} (e : M ≡ elements_of (handles over)) where
  pub told_short : maps_right (length table) start (length work) (length inn) (length outw) room 8 M ≡ false
      → subgrouping (Err (numbered 4 0 0 0)) table work inn outw ≡ told_into from over members table start work inn outw room
  unfolding told_into
  told_short z = rw (← e, z)

  module _ (z : maps_right (length table) start (length work) (length inn) (length outw) room 8 M ≡ true) where
    pub told_few : length members < M
        → subgrouping (Err (numbered 4 0 0 0)) table work inn outw ≡ told_into from over members table start work inn outw room
    unfolding told_into
    told_few h = rw (← e, z, lt-leb M (length members) h)

    pub told_built : M ≤ length members → {x d : ℕ} {p : Picks} {made : Counted} {t w i o : List ℕ} {m : Made} {s : Subgrouped}
        → StretchEnd x start (table_need 8 room) (length table) → d ≡ work_need 8 room → made ≡ p.made → m ≡ made_of start room p.generators made
        → s ≡ subgroup_of over m → ChosenOfEight p
        → picked_of p t w i o
        ≡ predicate_in (length (mid_of start (x - start) table)) (take d work) (composes from (handles over)) room (length (take M inn)) (length (take room outw))
        (λ y. get_or members y 0)
        → subgrouping s (put_mid start (x - start) table t) (w ++ drop d work) (i ++ drop M inn) (o ++ drop room outw)
        ≡ told_into from over members table start work inn outw room
    unfolding told_into
    told_built h {x} {d} {p} {made} {t} {w} {i} {o} {m} {s} ends need is made-is sub_is eight q =
        let hi : M ≤ length inn = maps_inn (length table) start (length work) (length inn) (length outw) room 8 M z in
        let ho : room ≤ length outw = maps_outw (length table) start (length work) (length inn) (length outw) room 8 M z in
        let p₁ : length (mid_of start (x - start) table) ≡ table_need 8 room = part_length table start (table_need 8 room) ends in
        let p₂ : length (take M inn) ≡ M = length-take-le M inn hi in
        let p₃ : length (take room outw) ≡ room = length-take-le room outw ho in
        let v : picked_of p t w i o ≡ predicate_in (table_need 8 room) (take (work_need 8 room) work) (composes from (handles over)) room M room (λ y. get_or members y 0) =
        q ∙ rw (p₁, need, p₂, p₃) in
        let l : length (take p.generators p.chosen) ≡ p.generators = length-take-le p.generators p.chosen (rw eight.long eight.few) in
        let u : subgrouping s (put_mid start (x - start) table t) (w ++ drop d work) (i ++ drop M inn) (o ++ drop room outw)
        ≡ maps_back over table start work inn outw M 8 p.generators room (renumbering (built p.made t w) i o) =
        maps_back_lem over table start work inn outw M 8 p.generators room ends need made-is sub_is
        (ap (λ (c : Counted). renumbering (built c t w) i o) is) in
        rw (← e, z, le-leb M (length members) h)
        (u ∙ ap (λ (k : ℕ). maps_back over table start work inn outw M 8 k room (renumbering (built p.made t w) i o)) (sym l)
        ∙ ap (λ (y : Picked). told_back over table start work inn outw M room y) v)
