-- A product of one factor is asked as the factor is. Else the verdict of `admit_one` decides, and the work's own contract is the answer.
use Rattle.egg.proofs.Refusing.{handed_on}
use lib.ListN.{length}
use mathlib.Core.Path.{◌∙◌, refl, sym}
use Rattle.group.specs.Questions.{write_answer, written}
use Rattle.group_handles.specs.Handles.{handles}
use Rattle.group_words.proofs.Spelling.{wrote}
use Rattle.factor.proofs.Admits.{count_refused, count_fine}
use Rattle.group_handles.proofs.Admitted.{ready}
use Rattle.group.proofs.OneFactor.{one_write, one_written}
use Rattle.group.proofs.write_word.Goals as goal

pub returns-then-alone : goal.returns-then-alone
returns-then-alone c = (c.write_word.ensures.0 ∙ one_write c.args.table.now c.args.g _ (c.alone.ensures c.if-alone.true).counted (c.alone.ensures c.if-alone.true).listed c.args.e (length c.args.out.now), c.write_word.ensures.1 ∙ one_written c.args.table.now c.args.g _ (c.alone.ensures c.if-alone.true).counted (c.alone.ensures c.if-alone.true).listed c.args.e c.args.out.now)

pub write_in-requires : goal.write_in-requires
write_in-requires c = (ready (length c.args.table.now) c.args.g _ _ _ _ c.admit_one.ensures c.in_ok-admit_one.was).0

pub returns-in_err-admit_one : goal.returns-in_err-admit_one
unfolding write_answer written
returns-in_err-admit_one c = wrote c.args.table.now (handles c.args.g) c.args.e.0 c.args.out.now (sym (count_refused c.admit_one.ensures _ c.in_err-admit_one.was)) (handed_on c.from_residual.ensures) refl

pub returns : goal.returns
unfolding write_answer written
returns c = wrote c.args.table.now (handles c.args.g) c.args.e.0 c.args.out.now (sym (count_fine c.admit_one.ensures _ c.in_ok-admit_one.was)) c.write_in.ensures.0 c.write_in.ensures.1
