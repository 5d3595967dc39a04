use Rattle.image_check_reading.proofs.inner.table.last.Goals as goal

pub returns : goal.returns
returns c = rw (c.get.ensures, c.hop_at.ensures.at)
