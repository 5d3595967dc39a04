-- This file states every answer of `begin`, `add_successor` and `set_successor`, by document 01's number and places, with the case in which it comes,
-- the builder that is handed back, and what the table holds then. "When an answer is an enum, a definition sets out this paper's number and values
-- for each of its cases. The promises use that definition."
use Rattle.std.specs.Prelude.{ℕ, ◌+◌, ◌≤◌, ◌<◌, ◌≡◌, true, false, List, length, replicate}
use Rattle.egg.specs.declared.Refusal.{Refusal}
use Rattle.egg.specs.declared.GroupElementId.{GroupElementId}
use Rattle.egg.specs.declared.GeneratorId.{GeneratorId}
use Rattle.egg.specs.Table.{length_of}
use Rattle.egg.specs.Factor.{Paper, refusal_paper, verdict_paper, reached_paper, has_room, fits_in, stretch}
use Rattle.build_reading.specs.Build.{set_step, set_word}
use Rattle.std.specs.Prelude.{Ok, Err}
use Rattle.egg.specs.Answers.{numbered, answer_of}
use Rattle.builder.specs.declared.Builder.{Builder}
use Rattle.builder.specs.Answers.{Begun, Storing}
use Rattle.builder.specs.declared.Grown.{Grown}
use Rattle.build_lending.specs.Lending.{table_need, within}
use Rattle.builder.specs.Calls.{stored_paper, Leaving, leaving, with_stretch, builder_of, no_builder}
use Rattle.factor_laws.specs.Papers.{value_paper}
use Rattle.promises.specs.Leaves.{Lent, table_for}
use Rattle.promises_builder.specs.Own.{own_at}

-- What a call comes to that hands a builder back: its answer on paper, the builder, and the table.
pub data Handed : Type 0 where
  handed : Paper → Builder → List ℕ → Handed

-- The builder that `begin` hands back. A refused one hands none back; then the handle stands here that fits no buffer.
abbrev pub begun_builder : Begun → Builder
begun_builder (Ok b) = b
begun_builder (Err r) = no_builder

-- What `begin` comes to.
abbrev pub begun_paper : Leaving Begun → Handed
begun_paper (leaving x t) = handed (verdict_paper (answer_of x)) (begun_builder x) t

-- What `add_successor` comes to.
abbrev pub grown_paper : Leaving Grown → Handed
grown_paper (leaving x t) = handed (reached_paper x.answer) x.builder t

-- What `set_successor` comes to, which hands no builder back.
abbrev pub noted_paper : Leaving Storing → Leaving Paper
noted_paper (leaving x t) = leaving (stored_paper x) t

-- What a call leaves in the table.
abbrev pub left_in : {A : Type 0} → Leaving A → List ℕ
left_in (leaving x t) = t

-- The table's buffer of a call on a builder: t at entry and t' at exit, with the stretch of the builder.
abbrev pub own_lent : List ℕ → Builder → List ℕ → Lent
own_lent t b t' = table_for t b.0.start b.0.generators b.0.room t'

-- `begin` gives 1, "more than 8 generators", with the count; then 4, "room 0 or above 65,535, or a lent buffer short"; else the identity alone, in a
-- stretch of zeros.
pub data BeginAnswer (table : List ℕ) (start room n : ℕ) : Handed → Type 0 where
  many : 8 < n → BeginAnswer table start room n (handed (refusal_paper (numbered 1 n 0 0)) no_builder table)
  short : n ≤ 8 → has_room (length table) start room n ≡ false → BeginAnswer table start room n (handed (refusal_paper (numbered 4 0 0 0)) no_builder table)
  begun : n ≤ 8 → has_room (length table) start room n ≡ true
      → BeginAnswer table start room n
      (handed (value_paper 0) (builder_of start room n 1) (within table start (start + table_need n room) (replicate (table_need n room) 0)))

-- The place (e, g) is refused: by 17, "the handle doesn't fit its buffer", or by 14, "an element, generator or factor argument out of range", with
-- the "position among these from 0".
pub data Misplaced (t : List ℕ) (b : Builder) (e : GroupElementId) (g : GeneratorId) : Refusal → Type 0 where
  no_handle : fits_in (length t) b.0 ≡ false → Misplaced t b e g (numbered 17 0 0 0)
  no_element : fits_in (length t) b.0 ≡ true → b.0.elements ≤ e.0 → Misplaced t b e g (numbered 14 0 0 0)
  no_generator : fits_in (length t) b.0 ≡ true → e.0 < b.0.elements → b.0.generators ≤ g.0 → Misplaced t b e g (numbered 14 1 0 0)

-- The handle fits, and the place is one of the builder's.
pub record RightPlace (t : List ℕ) (b : Builder) (e : GroupElementId) (g : GeneratorId) : Type 0 where
  pub fits : fits_in (length t) b.0 ≡ true
  pub element : e.0 < b.0.elements
  pub generator : g.0 < b.0.generators

-- The step e·g = r stored both ways in the builder's stretch.
abbrev pub with_step : (t : List ℕ) (b : Builder) (e : GroupElementId) (g : GeneratorId) (r : GroupElementId) → List ℕ
with_step t b e g r = with_stretch t b.0 (set_step (stretch t b.0) b.0.generators e g r)

-- `set_successor` leaves the table as it was after 17 in the handle, 14, and 17 where the step that it reads, "a number read from it", leads beyond
-- the elements; else it stores the step and answers 1 where nothing stood at the place, 0 where the step was known.
pub data SetAnswer (t : List ℕ) (b : Builder) (e : GroupElementId) (g : GeneratorId) (r : GroupElementId) : Leaving Paper → Type 0 where
  wrong_place : {x : Refusal} → Misplaced t b e g x → SetAnswer t b e g r (leaving (refusal_paper x) t)
  no_end : RightPlace t b e g → b.0.elements ≤ r.0 → SetAnswer t b e g r (leaving (refusal_paper (numbered 14 2 0 0)) t)
  beyond : RightPlace t b e g → r.0 < b.0.elements → b.0.elements < own_at t b.0 e.0 g.0
      → SetAnswer t b e g r (leaving (refusal_paper (numbered 17 0 0 0)) t)
  new : RightPlace t b e g → r.0 < b.0.elements → own_at t b.0 e.0 g.0 ≡ 0 → SetAnswer t b e g r (leaving (value_paper 1) (with_step t b e g r))
  known : RightPlace t b e g → r.0 < b.0.elements → 0 < own_at t b.0 e.0 g.0 → own_at t b.0 e.0 g.0 ≤ b.0.elements
      → SetAnswer t b e g r (leaving (value_paper 0) (with_step t b e g r))

-- The recorded length of the word of e.
abbrev pub own_length : List ℕ → Builder → GroupElementId → ℕ
own_length t b e = length_of (stretch t b.0) b.0.generators e.0

-- The table after a refusal that ends the build: "Once it has started, any refusal .. leaves the needed stretch of table .. zero".
abbrev pub zero_stretch : List ℕ → Builder → List ℕ
zero_stretch t b = with_stretch t b.0 (replicate (table_need b.0.generators b.0.room) 0)

-- The table with the new element, which has the count for its number: its word is that of e and g, and its step is stored.
abbrev pub with_element : List ℕ → Builder → GroupElementId → GeneratorId → List ℕ
with_element t b e g =
    with_stretch t b.0
    (set_step (set_word (stretch t b.0) b.0.generators (record { 0 = b.0.elements }) e g (own_length t b e + 1)) b.0.generators e g
    (record { 0 = b.0.elements }))

-- `add_successor` leaves table and builder as they were after 17 in the handle and 14. Then it gives 5, "an element is needed beyond the room"; 17
-- where the length that is read is out of range; 6, "its word would pass 4,096"; else the new element, and a builder that knows one more.
pub data AddAnswer (t : List ℕ) (b : Builder) (e : GroupElementId) (g : GeneratorId) : Handed → Type 0 where
  misplaced : {x : Refusal} → Misplaced t b e g x → AddAnswer t b e g (handed (refusal_paper x) b t)
  no_room : RightPlace t b e g → b.0.room ≤ b.0.elements
      → AddAnswer t b e g (handed (refusal_paper (numbered 5 e.0 g.0 0)) no_builder (zero_stretch t b))
  altered : RightPlace t b e g → b.0.elements < b.0.room → 4096 < own_length t b e
      → AddAnswer t b e g (handed (refusal_paper (numbered 17 0 0 0)) no_builder (zero_stretch t b))
  long_word : RightPlace t b e g → b.0.elements < b.0.room → own_length t b e ≡ 4096
      → AddAnswer t b e g (handed (refusal_paper (numbered 6 e.0 g.0 0)) no_builder (zero_stretch t b))
  added : RightPlace t b e g → b.0.elements < b.0.room → own_length t b e < 4096
      → AddAnswer t b e g
      (handed (value_paper b.0.elements) (builder_of b.0.start b.0.room b.0.generators (b.0.elements + 1)) (with_element t b e g))
