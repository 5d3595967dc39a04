-- A place of the part that is handed back.
use Rattle.capi_factor_words.proofs.hg_part.Goals as goal

pub returns : goal.returns
returns c = rw (c.letter_of.ensures, c.word-part.ensures, c.factor_of-f.ensures)
