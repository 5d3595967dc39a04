-- This file defines what the calls that make a factor answer, as document 01 sets it out: "a definition sets out this paper's number and values for
-- each of its cases. The promises use that definition."
use Rattle.egg.specs.Answers.{answer_of}
use Rattle.egg.specs.Factor.{Paper, verdict_paper}
use Rattle.build_lending.specs.Lending.{Making, making}

-- The answer of such a call: 0, or the refusal's number and its three places.
abbrev pub made_paper : Making → Paper
made_paper (making m t w) = verdict_paper (answer_of m)
