-- One law for each answer, from the lengths, the letters and the inverse that were read.
use Rattle.egg.proofs.Refusing.{handed_on}
use mathlib.Core.Path.{◌∙◌}
use native.Mathlib.Omega.{arith}
use Rattle.egg.proofs.Laws.{got}
use Rattle.factor_questions.specs.Walks.{inverse_in}
use Rattle.factor_word_walks.proofs.Walks.{on_refused, on_element_lem}
use Rattle.factor_questions.proofs.Walks.{compose_short, compose_long, compose_beyond, compose_first, compose_other, compose_back}
use Rattle.factor_questions.proofs.inner.compose_with_care.Goals as goal

pub along-requires : goal.along-requires
along-requires c = omega (arith, c.if-len-le5.true)

pub returns-then-len-le5 : goal.returns-then-len-le5
returns-then-len-le5 c = (c.along.ensures) ∙ compose_short (c.args.s.now) (c.args.n) (c.args.count) (c.args.a.0) (c.args.b.0) (c.word_length-len.ensures) (c.if-len-le5.true)

pub returns-then-len-gt4096 : goal.returns-then-len-gt4096
returns-then-len-gt4096 c = compose_long (c.args.s.now) (c.args.n) (c.args.count) (c.args.a.0) (c.args.b.0) (c.word_length-len.ensures) (c.if-len-gt4096.true)

pub returns-then-count-i : goal.returns-then-count-i
returns-then-count-i c = compose_beyond (c.args.s.now) (c.args.n) (c.args.count) (c.args.a.0) (c.args.b.0) (c.word_length-len.ensures) (c.if-len-le5.false) (c.if-len-gt4096.false) (got (c.args.s.now) (c.get-i.ensures) (c.inverse_at.ensures.at)) (c.if-count-i.true)

pub returns-in_err-x : goal.returns-in_err-x
returns-in_err-x c = handed_on c.from_residual.ensures ∙ on_refused (c.back_along.ensures) (inverse_in (c.args.s.now) (c.args.n) (c.args.count)) (c.in_err-x.was) ∙ compose_first (c.args.s.now) (c.args.n) (c.args.count) (c.args.a.0) (c.args.b.0) (c.word_length-len.ensures) (c.if-len-le5.false) (c.if-len-gt4096.false) (got (c.args.s.now) (c.get-i.ensures) (c.inverse_at.ensures.at)) (c.if-count-i.false) (c.word_length-own.ensures) (c.if-own-len.true)

pub returns-then-own-len : goal.returns-then-own-len
returns-then-own-len c = (c.inverse_in.ensures) ∙ on_element_lem (c.back_along.ensures) (inverse_in (c.args.s.now) (c.args.n) (c.args.count)) (c.in_ok-x.was) ∙ compose_first (c.args.s.now) (c.args.n) (c.args.count) (c.args.a.0) (c.args.b.0) (c.word_length-len.ensures) (c.if-len-le5.false) (c.if-len-gt4096.false) (got (c.args.s.now) (c.get-i.ensures) (c.inverse_at.ensures.at)) (c.if-count-i.false) (c.word_length-own.ensures) (c.if-own-len.true)

pub returns-then-back-gt4096 : goal.returns-then-back-gt4096
returns-then-back-gt4096 c = compose_other (c.args.s.now) (c.args.n) (c.args.count) (c.args.a.0) (c.args.b.0) (c.word_length-len.ensures) (c.if-len-le5.false) (c.if-len-gt4096.false) (got (c.args.s.now) (c.get-i.ensures) (c.inverse_at.ensures.at)) (c.if-count-i.false) (c.word_length-own.ensures) (c.if-own-len.false) (omega arith) (c.word_length-back.ensures) ((omega (arith, c.if-back-gt4096.true)))

pub returns : goal.returns
returns c = (c.back_along-2.ensures) ∙ compose_back (c.args.s.now) (c.args.n) (c.args.count) (c.args.a.0) (c.args.b.0) (c.word_length-len.ensures) (c.if-len-le5.false) (c.if-len-gt4096.false) (got (c.args.s.now) (c.get-i.ensures) (c.inverse_at.ensures.at)) (c.if-count-i.false) (c.word_length-own.ensures) (c.if-own-len.false) (omega arith) (c.word_length-back.ensures) (omega arith)
