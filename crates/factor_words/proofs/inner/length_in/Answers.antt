-- One law for each answer, from the length that was read.
use Rattle.factor_words.proofs.Words.{length_long, length_count}
use Rattle.factor_words.proofs.inner.length_in.Goals as goal

pub returns-then-len-gt4096 : goal.returns-then-len-gt4096
returns-then-len-gt4096 c = let a = c.args in length_long a.s.now a.n a.e.0 c.word_length-len.ensures c.if-len-gt4096.true

pub returns : goal.returns
returns c = let a = c.args in length_count a.s.now a.n a.e.0 c.word_length-len.ensures c.if-len-gt4096.false
