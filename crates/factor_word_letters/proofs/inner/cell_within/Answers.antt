-- One law for each test.
use native.Mathlib.Omega.{arith}
use Rattle.factor_word_letters.proofs.Letters.{cell_first, cell_second, cell_third, cell_fourth, cell_fifth, cell_element}
use Rattle.factor_word_letters.proofs.inner.cell_within.Goals as goal

pub returns-then-m-c : goal.returns-then-m-c
returns-then-m-c c = cell_first c.args.n c.args.count c.args.c (omega (arith, c.if-m-c.true))

pub returns-then-m-c-2 : goal.returns-then-m-c-2
returns-then-m-c-2 c = cell_second c.args.n c.args.count c.args.c c.if-m-c.false (omega (arith, c.if-m-c-2.true))

pub returns-then-m-c-3 : goal.returns-then-m-c-3
returns-then-m-c-3 c = cell_third c.args.n c.args.count c.args.c c.if-m-c.false c.if-m-c-2.false (omega (arith, c.if-m-c-3.true))

pub returns-then-m-c-4 : goal.returns-then-m-c-4
returns-then-m-c-4 c = cell_fourth c.args.n c.args.count c.args.c c.if-m-c.false c.if-m-c-2.false c.if-m-c-3.false (omega (arith, c.if-m-c-4.true))

pub returns-then-m-c-5 : goal.returns-then-m-c-5
returns-then-m-c-5 c = cell_fifth c.args.n c.args.count c.args.c c.if-m-c.false c.if-m-c-2.false c.if-m-c-3.false c.if-m-c-4.false (omega (arith, c.if-m-c-5.true))

pub returns : goal.returns
returns c = cell_element c.args.n c.args.count c.args.c c.if-m-c.false c.if-m-c-2.false c.if-m-c-3.false c.if-m-c-4.false c.if-m-c-5.false
