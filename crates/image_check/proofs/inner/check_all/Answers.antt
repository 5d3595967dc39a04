-- The verdict on the table decides, else that of 12.
use Rattle.egg.proofs.Refusing.{handed_on}
use lib.ListN.{take, drop}
use Rattle.image_cells.specs.Cells.{cells}
use Rattle.image_check.proofs.Parts.{rest_long}
use Rattle.image_check.proofs.Turns.{short_refused, short_rest_lem}
use Rattle.image_check.proofs.inner.check_all.Goals as goal

pub returns-in_err-check_table : goal.returns-in_err-check_table
returns-in_err-check_table c = rw (handed_on c.from_residual.ensures, ← c.in_err-check_table.was) (short_refused (cells (take c.args.at c.args.b.now)) (cells (drop c.args.at c.args.b.now))
    (cells (take c.args.at c.check_table.new.b)) c.args.n c.args.count c.check_table.ensures c.in_err-check_table.was)

pub returns : goal.returns
returns c = short_rest_lem (cells (take c.args.at c.args.b.now)) (cells (drop c.args.at c.args.b.now))
    (cells (take c.args.at c.check_table.new.b)) c.args.n c.args.count c.check_table.ensures
    (cells (drop c.args.at c.check_table.new.b)) (cells (drop c.args.at c.check12.new.b))
    c.in_ok-check_table.was (rest_long c.args.at c.args.b.now c.check_table.new.b c.check_table.auto.b) c.check12.ensures
