-- This file states every answer of `build`, by document 01's number and places, with the case in which it comes. "The first that applies .. is given,
-- and each is given only then."
use Rattle.std.specs.Prelude.{ℕ, ◌<◌, ◌≡◌, true, false, List, length}
use Rattle.egg.specs.declared.Refusal.{Refusal}
use Rattle.egg.specs.Factor.{Paper, refusal_paper, fits_in}
use Rattle.egg.specs.Answers.{numbered}
use Rattle.builder.specs.declared.Builder.{Builder}
use Rattle.build_lending.specs.Lending.{work_need}
use Rattle.build_reading.specs.Reading.{composed_at}
use Rattle.theory.specs.Numbering.{Numbered}
use Rattle.build_checks_laws.specs.Numbers.{RefusalIn, late_numbers}
use Rattle.build_reading_laws.specs.Read.{Readable, ReadingRefused}
use Rattle.factor_laws.specs.Papers.{value_paper}
use Rattle.build_laws.specs.Taken.{Taken}
use Rattle.promises_refusals.specs.Faults.{Fault}
use Rattle.promises_builder.specs.Own.{own_at, own_number, own_refusal, own_rows, Filled}
use Rattle.promises_builder.specs.Refusals.{BuilderLacks}
use Rattle.promises_builder.specs.Builds.{BuildRight}

-- What `build` answers to the builder b in the table t, with the work w.
pub data BuildPaper (t : List ℕ) (b : Builder) (w : List ℕ) : Paper → Type 1 where
  -- Before it starts it gives 17, "the handle doesn't fit its buffer", then 4, "a lent buffer short".
  no_handle : fits_in (length t) b.0 ≡ false → BuildPaper t b w (refusal_paper (numbered 17 0 0 0))
  short : fits_in (length t) b.0 ≡ true → length w < work_need b.0.generators b.0.room → BuildPaper t b w (refusal_paper (numbered 4 0 0 0))
  -- It gives 17, 7 or 6 where the reading of the builder's rows stops first.
  stops : {r : Refusal} → BuildRight t b w → ReadingRefused (own_number b.0.elements (own_at t b.0)) b.0.generators b.0.room r
      → BuildPaper t b w (refusal_paper (own_refusal b.0.elements r))
  nowhere : BuildRight t b w → b.0.generators ≡ 0 → 1 < b.0.elements → BuildPaper t b w (refusal_paper (numbered 17 0 0 0))
  -- It gives 8 at the first place that is lacking, where c elements are reached.
  lacks : {r : Refusal} (c : ℕ) → BuildRight t b w → Readable (own_number b.0.elements (own_at t b.0)) b.0.generators b.0.room c
      → BuilderLacks (own_at t b.0) b.0.generators b.0.elements c r → BuildPaper t b w (refusal_paper r)
  -- Where all is there and all is reached, it gives 9 to 12 by the fault of the rows, or 0, where some group has them.
  late : {r : Refusal} → BuildRight t b w → Filled t b.0 → Numbered b.0.generators b.0.elements (composed_at (own_rows t b.0) b.0.generators)
      → Fault (composed_at (own_rows t b.0) b.0.generators) b.0.generators b.0.room r → RefusalIn late_numbers r → BuildPaper t b w (refusal_paper r)
  taken : BuildRight t b w → Filled t b.0 → Taken (composed_at (own_rows t b.0) b.0.generators) b.0.generators b.0.room b.0.elements
      → BuildPaper t b w (value_paper 0)
