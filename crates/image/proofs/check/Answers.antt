-- The number of the verdict.
use mathlib.Core.Path.{sym, ap, ◌∙◌}
use Rattle.image_check.specs.Short.{verdict_number}
use Rattle.image.proofs.Checking.{verdict_number_lem}
use lib.ListN.{length}
use Rattle.image.proofs.check.Goals as goal

pub returns-in-Ok : goal.returns-in-Ok
returns-in-Ok c = (ap verdict_number (sym c.in-Ok.is ∙ c.verdict.ensures.0) ∙ verdict_number_lem c.args.image.now (length c.args.work.now), c.verdict.ensures.1)

pub returns-in-Err : goal.returns-in-Err
returns-in-Err c = (c.number.ensures ∙ ap verdict_number (sym c.in-Err.is ∙ c.verdict.ensures.0) ∙ verdict_number_lem c.args.image.now (length c.args.work.now), c.verdict.ensures.1)
