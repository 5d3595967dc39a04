-- The five letters as the rows have them.
use Rattle.build_word_cells.specs.Hops.{hop_from}
use Rattle.build_word_cells.proofs.inner.hop_of.Goals as goal

pub returns : goal.returns
unfolding hop_from
returns c = cc
