-- This file states every answer of `from_generators` over factors that are not altered, by document 01's number and places, with the case in which it
-- comes. "The first that applies .. is given, and each is given only then."
use Rattle.std.specs.Prelude.{ℕ, ◌+◌, ◌≤◌, ◌<◌, ◌≡◌, true, false, List, length, get_or}
use Rattle.egg.specs.declared.Refusal.{Refusal}
use Rattle.egg.specs.Factor.{Paper, refusal_paper, verdict_paper}
use Rattle.egg.specs.Answers.{numbered, answer_of}
use Rattle.build_lending.specs.Lending.{table_need, work_need}
use Rattle.build_reading_laws.specs.Read.{Readable, ReadingRefused}
use Rattle.factor_laws.specs.Papers.{value_paper}
use Rattle.promises_refusals.specs.Firsts.{FirstOf}
use Rattle.group_handles.specs.declared.Group.{Group}
use Rattle.group_handles.specs.Handles.{handles, elements_of, all_fit}
use Rattle.promises_group.specs.Products.{direct}
use Rattle.theory.specs.Orbit.{numbered_step, Appearing}
use Rattle.theory.specs.Subgroup.{right_by, FirstIdentity, FirstRepeat}
use Rattle.factor_walk.specs.Walked.{shown}
use Rattle.subgroup_build.specs.Lent.{Subgrouping, subgrouping}
use Rattle.promises_subgroup.specs.Generates.{Acceptable}

-- What a call that makes a subgroup answers, on paper.
abbrev pub subgroup_paper : Subgrouping → Paper
subgroup_paper (subgrouping m t w i o) = verdict_paper (answer_of m)

-- Refusals 17 and 14 are not due: the handles fit, and every entry is an element of the overgroup.
pub record Elements (from : List ℕ) (over : Group) (gens : List ℕ) : Type 0 where
  pub fits : all_fit (length from) (handles over) ≡ true
  pub below : {g : ℕ} → g < length gens → get_or gens g 0 < elements_of (handles over)

-- Refusal 15 is not due: "more than 8 factors, product too large, an overgroup above 65,535 elements".
pub record Numberable (over : Group) : Type 0 where
  pub few : over.count ≤ 8
  pub most : elements_of (handles over) ≤ 65535

-- Refusal 4 is not due: "room 0 or above 65,535, or a lent buffer short".
pub record EnoughWithMaps (over : Group) (n : ℕ) (table : List ℕ) (start : ℕ) (work inn outw : List ℕ) (room : ℕ) : Type 0 where
  pub some_room : 1 ≤ room
  pub most_room : room ≤ 65535
  pub table_long : start + table_need n room ≤ length table
  pub work_long : work_need n room ≤ length work
  pub inn_long : elements_of (handles over) ≤ length inn
  pub outw_long : room ≤ length outw

-- All these are right, and N elements are generated, numbered in order of first appearance as `elt`.
pub record Generating (from : List ℕ) (over : Group) (gens table : List ℕ) (start : ℕ) (work inn outw : List ℕ) (room N : ℕ) (elt : ℕ → ℕ) : Type 0 where
  pub elements : Elements from over gens
  pub small : Numberable over
  pub few : length gens ≤ 8
  pub enough : EnoughWithMaps over (length gens) table start work inn outw room
  pub appearing : Appearing (length gens) (elements_of (handles over)) (right_by (direct from over).op (λ g. get_or gens g 0)) 0 N elt

-- What the call answers on these arguments.
pub data GeneratorsPaper (from : List ℕ) (over : Group) (gens table : List ℕ) (start : ℕ) (work inn outw : List ℕ) (room : ℕ) : Paper → Type 0 where
  -- Before it starts it gives 17, "the handle doesn't fit its buffer"; 14, for the first entry that is no element, with its position; 15; 1, with the
  -- count; 4.
  no_handle : all_fit (length from) (handles over) ≡ false → GeneratorsPaper from over gens table start work inn outw room (refusal_paper (numbered 17 0 0 0))
  no_element : {k : ℕ} → all_fit (length from) (handles over) ≡ true → FirstOf (length gens) (λ g. elements_of (handles over) ≤ get_or gens g 0) k
      → GeneratorsPaper from over gens table start work inn outw room (refusal_paper (numbered 14 (shown k) 0 0))
  too_large : Elements from over gens → ¬ (Numberable over) → GeneratorsPaper from over gens table start work inn outw room (refusal_paper (numbered 15 0 0 0))
  many : Elements from over gens → Numberable over → 8 < length gens
      → GeneratorsPaper from over gens table start work inn outw room (refusal_paper (numbered 1 (shown (length gens)) 0 0))
  short : Elements from over gens → Numberable over → length gens ≤ 8 → ¬ (EnoughWithMaps over (length gens) table start work inn outw room)
      → GeneratorsPaper from over gens table start work inn outw room (refusal_paper (numbered 4 0 0 0))
  -- It gives 5 or 6 where the numbering stops first, at that element and generator.
  stops : {N : ℕ} {elt : ℕ → ℕ} {r : Refusal} → Generating from over gens table start work inn outw room N elt
      → ReadingRefused (numbered_step N elt (right_by (direct from over).op (λ g. get_or gens g 0))) (length gens) room r
      → GeneratorsPaper from over gens table start work inn outw room (refusal_paper r)
  -- Where all are numbered it gives 9 for the first generator that is the identity; where none is, 11 for the first that is as an earlier one; else
  -- 0.
  identity : {N g : ℕ} {elt : ℕ → ℕ} → Generating from over gens table start work inn outw room N elt
      → Readable (numbered_step N elt (right_by (direct from over).op (λ g. get_or gens g 0))) (length gens) room N → FirstIdentity (length gens) (λ g. get_or gens g 0) g
      → GeneratorsPaper from over gens table start work inn outw room (refusal_paper (numbered 9 0 g 0))
  repeated : {N g : ℕ} {elt : ℕ → ℕ} → Generating from over gens table start work inn outw room N elt
      → Readable (numbered_step N elt (right_by (direct from over).op (λ g. get_or gens g 0))) (length gens) room N → FirstRepeat (length gens) (λ g. get_or gens g 0) g
      → GeneratorsPaper from over gens table start work inn outw room (refusal_paper (numbered 11 g 0 0))
  made : {N : ℕ} {elt : ℕ → ℕ} → Generating from over gens table start work inn outw room N elt
      → Acceptable (direct from over).op (length gens) room N (λ g. get_or gens g 0) elt → GeneratorsPaper from over gens table start work inn outw room (value_paper 0)
