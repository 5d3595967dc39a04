-- A build of a subgroup in parts of its four buffers: one law for each answer of the call above.
use Prim.Native.Nat.{ℕ, ◌+◌, ◌-◌, ◌≤◌, ◌<◌}
use mathlib.Core.Path.{◌≡◌, refl, ap, ◌∙◌}
use mathlib.Core.Bool.{true, false}
use mathlib.Core.List.{List, ◌++◌}
use borrow.Author.Tests.{lt-ltb, le-ltb}
use borrow.Rule.Slice.PartMut.{mid_of, put_mid}
use lib.ListN.{length, take, drop}
use lib.Seq.{length-take-le}
use Rattle.egg.specs.Answers.{Counted, Made, Reached, Verdict, fine, numbered}
use Rattle.std.specs.Prelude.{Err}
use Rattle.egg.specs.declared.Refusal.{Refusal}
use Rattle.build_lending.specs.Finish.{built}
use Rattle.build_lending.specs.Lending.{table_need, work_need, within, StretchEnd, made_of}
use Rattle.build_lending.proofs.Lending.{part_length, part_back, put_front}
use Rattle.group_handles.specs.declared.Group.{Group}
use Rattle.group_handles.specs.Handles.{handles, elements_of}
use Rattle.build_numbering.specs.Build.{Renumbering, renumbering, renumber_in}
use Rattle.subgroup_rows.specs.Rows.{product_by}
use Rattle.subgroup_build.specs.Answers.{Subgrouped}
use Rattle.factor_walk.specs.Walked.{shown}
use Rattle.subgroup_build.specs.Lent.{subgroup_of, Subgrouping, subgrouping, maps_right, maps_back}
use Rattle.subgroup_build.specs.Generated.{generated_into, if_subgrouping}
use Rattle.subgroup_build.proofs.Admits.{maps_inn, maps_outw}

-- What went on in the four parts, when they are back: lent for k generators, and the factor has n.
module _ (over : Group) (table : List ℕ) (start : ℕ) (work inn outw : List ℕ) (M k n room : ℕ) where
  pub maps_back_lem : {x d : ℕ} {c : Counted} {t w i o : List ℕ} {m : Made} {s : Subgrouped} {b : Renumbering}
      → StretchEnd x start (table_need k room) (length table) → d ≡ work_need k room → m ≡ made_of start room n c → s ≡ subgroup_of over m
      → renumbering (built c t w) i o ≡ b
      → subgrouping s (put_mid start (x - start) table t) (w ++ drop d work) (i ++ drop M inn) (o ++ drop room outw)
      ≡ maps_back over table start work inn outw M k n room b
  maps_back_lem {x} {d} {c} {t} {w} {i} {o} {m} {s} ends need made is q =
      let p₁ : put_mid start (x - start) table t ≡ within table start (start + table_need k room) t = part_back table start (table_need k room) ends t in
      let p₂ : w ++ drop d work ≡ within work 0 (work_need k room) w = put_front work w need in
      let p₃ : i ++ drop M inn ≡ within inn 0 M i = put_front inn i refl in
      let p₄ : o ++ drop room outw ≡ within outw 0 room o = put_front outw o refl in
      let z : s ≡ subgroup_of over (made_of start room n c) = is ∙ ap (λ (y : Made). subgroup_of over y) made in
      let e : subgrouping s (put_mid start (x - start) table t) (w ++ drop d work) (i ++ drop M inn) (o ++ drop room outw)
      ≡ maps_back over table start work inn outw M k n room (renumbering (built c t w) i o) = rw (p₁, p₂, p₃, p₄, z) in
      e ∙ ap (λ (y : Renumbering). maps_back over table start work inn outw M k n room y) q

  -- The parts that were lent are as long as the definition says.
  pub lent_lengths : (source : ℕ → ℕ → Reached) (g : ℕ) {x d : ℕ} {b : Renumbering} → M ≤ length inn → room ≤ length outw
      → StretchEnd x start (table_need k room) (length table) → d ≡ work_need k room
      → b ≡ renumber_in (length (mid_of start (x - start) table)) (take d work) source g room (length (take M inn)) (length (take room outw)) 0
      → b ≡ renumber_in (table_need k room) (take (work_need k room) work) source g room M room 0
  lent_lengths source g {x} {d} hi ho ends need q =
      let p₁ : length (mid_of start (x - start) table) ≡ table_need k room = part_length table start (table_need k room) ends in
      let p₂ : length (take M inn) ≡ M = length-take-le M inn hi in
      let p₃ : length (take room outw) ≡ room = length-take-le room outw ho in
      q ∙ ap (λ (y : ℕ). renumber_in y (take d work) source g room (length (take M inn)) (length (take room outw)) 0) p₁
      ∙ ap (λ (y : ℕ). renumber_in (table_need k room) (take y work) source g room (length (take M inn)) (length (take room outw)) 0) need
      ∙ ap (λ (y : ℕ). renumber_in (table_need k room) (take (work_need k room) work) source g room y (length (take room outw)) 0) p₂
      ∙ ap (λ (y : ℕ). renumber_in (table_need k room) (take (work_need k room) work) source g room M y 0) p₃

module _ (from : List ℕ) (over : Group) (gens table : List ℕ) (start : ℕ) (work inn outw : List ℕ) (room : ℕ) where
  pub generated_many : {k : ℕ} → 8 < length gens → k ≡ shown (length gens)
      → subgrouping (Err (numbered 1 k 0 0)) table work inn outw ≡ generated_into from over gens table start work inn outw room
  unfolding generated_into
  generated_many h p = rw (lt-ltb 8 (length gens) h, p)

  module _ (h : length gens ≤ 8) {M : ℕ} (e : M ≡ elements_of (handles over)) where
    pub generated_short : maps_right (length table) start (length work) (length inn) (length outw) room (length gens) M ≡ false
        → subgrouping (Err (numbered 4 0 0 0)) table work inn outw ≡ generated_into from over gens table start work inn outw room
    unfolding generated_into
    generated_short z = rw (le-ltb 8 (length gens) h, ← e, z)

    pub generated_built : {x d : ℕ} {c : Counted} {t w i o : List ℕ} {m : Made} {s : Subgrouped}
        → maps_right (length table) start (length work) (length inn) (length outw) room (length gens) M ≡ true
        → StretchEnd x start (table_need (length gens) room) (length table) → d ≡ work_need (length gens) room → m ≡ made_of start room (length gens) c
        → s ≡ subgroup_of over m
        → renumbering (built c t w) i o
        ≡ renumber_in (length (mid_of start (x - start) table)) (take d work) (product_by from (handles over) gens) (length gens) room (length (take M inn))
        (length (take room outw)) 0
        → subgrouping s (put_mid start (x - start) table t) (w ++ drop d work) (i ++ drop M inn) (o ++ drop room outw)
        ≡ generated_into from over gens table start work inn outw room
    unfolding generated_into
    generated_built {x} {d} z ends need made is q =
        let hi : M ≤ length inn = maps_inn (length table) start (length work) (length inn) (length outw) room (length gens) M z in
        let ho : room ≤ length outw = maps_outw (length table) start (length work) (length inn) (length outw) room (length gens) M z in
        rw (le-ltb 8 (length gens) h, ← e, z)
        (maps_back_lem over table start work inn outw M (length gens) (length gens) room ends need made is
        (lent_lengths over table start work inn outw M (length gens) (length gens) room (product_by from (handles over) gens) (length gens) hi ho ends need q))

module _ {v w : Verdict} (q : v ≡ w) (table work inn outw : List ℕ) (m : Subgrouping) where
  pub subgrouping_refused : {r : Refusal} → v ≡ Err r → subgrouping (Err r) table work inn outw ≡ if_subgrouping w table work inn outw m
  subgrouping_refused e = rw (← q, e)

  pub subgrouping_fine : v ≡ fine → m ≡ if_subgrouping w table work inn outw m
  subgrouping_fine e = rw (← q, e)
