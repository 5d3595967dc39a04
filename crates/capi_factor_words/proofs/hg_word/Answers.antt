-- The call's own answer, as one number, and its buffer.
use mathlib.Core.Path.{refl}
use Rattle.capi_factor_words.proofs.hg_word.Goals as goal

pub returns : goal.returns
returns c = rw (← c.factor_of-f.ensures) (rw (c.counted_code.ensures, c.write_word.ensures.0) refl, c.write_word.ensures.1)
