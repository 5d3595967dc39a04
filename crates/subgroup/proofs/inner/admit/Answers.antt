-- One law for each answer.
use mathlib.Core.Path.{sym, ◌∙◌}
use borrow.Author.Tests.{not-true, not-false}
use Rattle.subgroup.proofs.Outlines.{admit_handle, admit_map, admit_argument, admit_large, admit_fine}
use Rattle.subgroup.proofs.inner.admit.Goals as goal

pub returns-then-not-o : goal.returns-then-not-o
returns-then-not-o c = admit_handle c.args.o c.args.map c.args.need c.args.a c.args.la (not-true _ c.if-not-o.true)

pub returns-then-map-need : goal.returns-then-map-need
returns-then-map-need c = admit_map c.args.o c.args.map c.args.need c.args.a c.args.la (not-false _ c.if-not-o.false) c.if-map-need.true

pub returns-then-la-a : goal.returns-then-la-a
returns-then-la-a c = admit_argument c.args.o c.args.map c.args.need c.args.a c.args.la (not-false _ c.if-not-o.false) c.if-map-need.false c.if-la-a.true

pub returns-then-not-limited : goal.returns-then-not-limited
returns-then-not-limited c = admit_large c.args.o c.args.map c.args.need c.args.a c.args.la (not-false _ c.if-not-o.false) c.if-map-need.false c.if-la-a.false (sym c.limited.ensures ∙ c.if-not-limited.true)

pub returns : goal.returns
returns c = admit_fine c.args.o c.args.map c.args.need c.args.a c.args.la (not-false _ c.if-not-o.false) c.if-map-need.false c.if-la-a.false (sym c.limited.ensures ∙ c.if-not-limited.false)
