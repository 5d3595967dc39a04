-- The handle is tested, and then the place's row answers; or the place is asked.
use Rattle.lists.proofs.Answers.{one_reached, only_place}
use Rattle.lists_factor.proofs.Sides.{rows_there, inverse_right}
use Rattle.lists_factor.specs.Each.{inverse_at}
use mathlib.Core.Path.{refl, sym, ◌∙◌}
use Rattle.lists_factor.proofs.inner.inverse_one.Goals as goal

pub part-s-requires : goal.part-s-requires
part-s-requires c = sym (c.fits.ensures) ∙ c.if-not-fits.false

pub inverse_number-inverse-requires : goal.inverse_number-inverse-requires
inverse_number-inverse-requires c = rows_there (c.args.table.now) (c.args.f) (sym (c.fits.ensures) ∙ c.if-not-fits.false) (c.part-s.ensures)

pub returns-then-inverse-f : goal.returns-then-inverse-f
returns-then-inverse-f c =
    let R = c.inverse_number-inverse.ensures (c.if-inverse-f.true) in
    let right = inverse_right (c.args.table.now) (c.args.f) (sym (c.fits.ensures) ∙ c.if-not-fits.false) (c.part-s.ensures) R.0 R.1 (c.if-inverse-f.true) in
    only_place (c.args.out.now) (inverse_at (c.args.table.now) (c.args.f) (c.args.a.now)) (c.requires.0) refl (one_reached (c.args.out.now) right (c.requires.1 ∙ c.requires.0))
