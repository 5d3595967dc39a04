-- The call's own answer, as one number.
use Rattle.capi_factor_words.proofs.hg_length.Goals as goal

pub returns : goal.returns
returns c = rw (c.counted_code.ensures, c.word_length.ensures, c.factor_of.ensures)
