-- This file states every answer of `from_predicate` over factors that are not altered, by document 01's number and places, with the case in which it
-- comes. "Rebuilt as 005 does, the first refusal standing".
use Rattle.std.specs.Prelude.{ℕ, ◌≤◌, ◌<◌, ◌≡◌, true, false, List, [], ◌∷◌, length, get_or, take}
use Rattle.egg.specs.declared.Refusal.{Refusal}
use Rattle.egg.specs.Answers.{Verdict, fine}
use Rattle.std.specs.Prelude.{Err}
use Rattle.egg.specs.Scan.{refused_of}
use Rattle.egg.specs.Factor.{Paper, refusal_paper, verdict_paper}
use Rattle.egg.specs.Answers.{numbered}
use Rattle.build_checks_laws.specs.Numbers.{RefusalIn}
use Rattle.build_reading_laws.specs.Read.{ReadingRefused}
use Rattle.group_handles.specs.declared.Group.{Group}
use Rattle.group_handles.specs.Handles.{handles, elements_of, all_fit}
use Rattle.promises_group.specs.Products.{direct}
use Rattle.theory.specs.Orbit.{numbered_step, Appearing}
use Rattle.theory.specs.Subgroup.{right_by}
use Rattle.promises_subgroup_predicate.specs.Predicate.{Reach, Chosen}
use Rattle.promises_subgroup_predicate.specs.Tellable.{Buildable, Tellable}
use Rattle.promises_subgroup.specs.Answers.{Numberable, EnoughWithMaps}

-- What these elements generate, numbered in order of first appearance, cannot be built: it is refused by 5 or 6, where the numbering stops first, at
-- that element and generator.
pub record Stopping (op : ℕ → ℕ → ℕ) (M room : ℕ) (gens : List ℕ) (r : Refusal) : Type 0 where
  pub count : ℕ
  pub elt : ℕ → ℕ
  pub appearing : Appearing (length gens) M (right_by op (λ g. get_or gens g 0)) 0 count elt
  pub refuses : ReadingRefused (numbered_step count elt (right_by op (λ g. get_or gens g 0))) (length gens) room r
  pub number : RefusalIn (5 ∷ 6 ∷ []) r

-- How the choosing ends: all elements are seen, and every build on the way was made; or one build could not be made, by the elements chosen below x,
-- and those before it were; or eight are chosen below x, all builds were made, and x needs a ninth.
pub data Way (op : ℕ → ℕ → ℕ) (byte : ℕ → ℕ) (M room : ℕ) : Verdict → Type 0 where
  told : Tellable op byte M room → Way op byte M room fine
  stops : {r : Refusal} (x : ℕ) (gens : List ℕ) → x ≤ M → Chosen op byte x gens → ((k : ℕ) → k < length gens → Buildable op M room (take k gens))
      → Stopping op M room gens r → Way op byte M room (Err r)
  ninth : (x : ℕ) (gens : List ℕ) → x < M → Chosen op byte x gens → ((k : ℕ) → k ≤ length gens → Buildable op M room (take k gens))
      → length gens ≡ 8 → ¬ (byte x ≡ 0) → ¬ Reach op gens 8 x → Way op byte M room (refused_of 15 0 0 0)

-- Refusal 4 is not due: room and buffers are as for eight generators, and there is a byte for each element of the overgroup.
pub record EnoughWithBytes (over : Group) (members table : List ℕ) (start : ℕ) (work inn outw : List ℕ) (room : ℕ) : Type 0 where
  pub enough : EnoughWithMaps over 8 table start work inn outw room
  pub bytes : elements_of (handles over) ≤ length members

-- What the call answers on these arguments.
pub data PredicatePaper (from : List ℕ) (over : Group) (members table : List ℕ) (start : ℕ) (work inn outw : List ℕ) (room : ℕ) : Paper → Type 0 where
  -- Before it starts it gives 17, "the handle doesn't fit its buffer"; then 15; then 4.
  no_handle : all_fit (length from) (handles over) ≡ false → PredicatePaper from over members table start work inn outw room (refusal_paper (numbered 17 0 0 0))
  too_large : all_fit (length from) (handles over) ≡ true → ¬ (Numberable over)
      → PredicatePaper from over members table start work inn outw room (refusal_paper (numbered 15 0 0 0))
  short : all_fit (length from) (handles over) ≡ true → Numberable over → ¬ (EnoughWithBytes over members table start work inn outw room)
      → PredicatePaper from over members table start work inn outw room (refusal_paper (numbered 4 0 0 0))
  -- Then it answers as the choosing ends: 0, or 5 or 6, or 15.
  chosen : {v : Verdict} → all_fit (length from) (handles over) ≡ true → Numberable over → EnoughWithBytes over members table start work inn outw room
      → Way (direct from over).op (λ x. get_or members x 0) (elements_of (handles over)) room v
      → PredicatePaper from over members table start work inn outw room (verdict_paper v)
