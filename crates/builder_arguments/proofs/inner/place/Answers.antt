-- One law for each answer, from what `fits` ensures and the tests.
use mathlib.Core.Path.{sym, ◌∙◌}
use lib.ListN.{length}
use Rattle.builder_arguments.proofs.Places.{place_handle, place_element, place_generator, place_fine}
use Rattle.builder_arguments.proofs.inner.place.Goals as goal

pub returns-then-not-fits : goal.returns-then-not-fits
returns-then-not-fits c = let a = c.args in
    place_handle (length a.table.now) a.f a.e a.g (sym c.fits.ensures ∙ c.if-not-fits.true)

pub returns-then-f-e : goal.returns-then-f-e
returns-then-f-e c = let a = c.args in
    place_element (length a.table.now) a.f a.e a.g (sym c.fits.ensures ∙ c.if-not-fits.false) c.if-f-e.true

pub returns-then-f-g : goal.returns-then-f-g
returns-then-f-g c = let a = c.args in
    place_generator (length a.table.now) a.f a.e a.g (sym c.fits.ensures ∙ c.if-not-fits.false) c.if-f-e.false c.if-f-g.true

pub returns : goal.returns
returns c = let a = c.args in
    place_fine (length a.table.now) a.f a.e a.g (sym c.fits.ensures ∙ c.if-not-fits.false) c.if-f-e.false c.if-f-g.false
