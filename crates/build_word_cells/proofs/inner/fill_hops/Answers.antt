use mathlib.Core.Path.{refl, ◌∙◌}
use Rattle.build_word_cells.proofs.Storing.{hop_stored, none_left}
use Rattle.build_word_cells.proofs.inner.fill_hops.Goals as goal

pub loop-e-init : goal.loop-e-init
loop-e-init c = refl

pub loop-e-preserved : goal.loop-e-preserved
loop-e-preserved c = hop_stored c.loop-e.t _ _ c.loop-e-test.true refl c.hop_of-h.ensures c.hop_at.ensures.at c.put.ensures ∙ c.loop-e.invariant

pub returns : goal.returns
returns c = none_left _ _ _ c.loop-e-test.false c.loop-e.invariant
