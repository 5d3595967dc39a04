-- A place of the part that is handed back.
use Rattle.capi_names.proofs.hg_joined_part.Goals as goal

pub returns : goal.returns
returns c = rw (c.letter_of.ensures, c.joined-part.ensures, c.named_product-g.ensures)
