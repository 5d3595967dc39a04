-- The first verdict that refuses decides, with the table as it is then.
use Rattle.egg.proofs.Refusing.{handed_on}
use mathlib.Core.Path.{sym}
use lib.Seq.{length-take-le}
use Rattle.image_check.specs.Short.{short_table}
use Rattle.image_check.proofs.inner.check_table.Goals as goal

pub slice_bounds-missing-end-2 : goal.slice_bounds-missing-end-2
slice_bounds-missing-end-2 c = sym (length-take-le c.args.at c.args.b.now c.requires)

pub returns-in_err-missing : goal.returns-in_err-missing
unfolding short_table
returns-in_err-missing c = rw (handed_on c.from_residual.ensures, ← c.missing.ensures, c.in_err-missing.was)

pub slice_bounds-wrong-end-2 : goal.slice_bounds-wrong-end-2
slice_bounds-wrong-end-2 c = sym (length-take-le c.args.at c.args.b.now c.requires)

pub returns-in_err-wrong : goal.returns-in_err-wrong
unfolding short_table
returns-in_err-wrong c = rw (handed_on c.from_residual-in_err-wrong.ensures, ← c.missing.ensures, c.in_ok-missing.was, ← c.wrong.ensures, c.in_err-wrong.was)

pub slice_bounds-inverses_right-end-2 : goal.slice_bounds-inverses_right-end-2
slice_bounds-inverses_right-end-2 c = sym (length-take-le c.args.at c.write_inverses.new.b (rw c.write_inverses.auto.b c.requires))

pub returns-in_err-inverses_right : goal.returns-in_err-inverses_right
unfolding short_table
returns-in_err-inverses_right c = rw (handed_on c.from_residual-in_err-inverses_right.ensures, ← c.missing.ensures, c.in_ok-missing.was, ← c.wrong.ensures, c.in_ok-wrong.was, ← c.write_inverses.ensures, ← c.inverses_right.ensures, c.in_err-inverses_right.was)

pub slice_bounds-identity_row-end-2 : goal.slice_bounds-identity_row-end-2
slice_bounds-identity_row-end-2 c = sym (length-take-le c.args.at c.write_inverses.new.b (rw c.write_inverses.auto.b c.requires))

pub returns : goal.returns
unfolding short_table
returns c = rw (← c.missing.ensures, c.in_ok-missing.was, ← c.wrong.ensures, c.in_ok-wrong.was, ← c.write_inverses.ensures, ← c.inverses_right.ensures, c.in_ok-inverses_right.was, ← c.identity_row.ensures)
