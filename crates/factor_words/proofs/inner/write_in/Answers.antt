-- One law for each answer; `wrote` says it of the answer and of the buffer together.
use mathlib.Core.Path.{refl, sym, ◌∙◌}
use lib.ListN.{length}
use Rattle.factor_words.proofs.Words.{write_long, write_short, write_unread, write_count_lem, wrote}
use Rattle.factor_words.proofs.inner.write_in.Goals as goal

pub returns-then-letters-gt4096 : goal.returns-then-letters-gt4096
returns-then-letters-gt4096 c = wrote (c.args.s.now) (c.args.n) (c.args.e.0) (c.args.out.now) (write_long (c.args.s.now) (c.args.n) (c.args.count) (c.args.e.0) (length (c.args.out.now)) (c.word_length-letters.ensures) (c.if-letters-gt4096.true)) refl refl

pub returns-then-out-letters : goal.returns-then-out-letters
returns-then-out-letters c = wrote (c.args.s.now) (c.args.n) (c.args.e.0) (c.args.out.now) (write_short (c.args.s.now) (c.args.n) (c.args.count) (c.args.e.0) (length (c.args.out.now)) (c.word_length-letters.ensures) (c.if-letters-gt4096.false) (c.if-out-letters.true)) refl refl

pub returns-then-write_short : goal.returns-then-write_short
returns-then-write_short c = wrote (c.args.s.now) (c.args.n) (c.args.e.0) (c.args.out.now) (write_count_lem (c.args.s.now) (c.args.n) (c.args.count) (c.args.e.0) (length (c.args.out.now)) (c.word_length-letters.ensures) (c.if-letters-gt4096.false) (c.if-out-letters.false) (sym (c.write_short.ensures.0) ∙ c.if-write_short.true)) refl (c.write_short.ensures.1 ∙ rw (c.if-write_short.true))

pub returns-then-letters-le64 : goal.returns-then-letters-le64
returns-then-letters-le64 c = wrote (c.args.s.now) (c.args.n) (c.args.e.0) (c.args.out.now) (write_unread (c.args.s.now) (c.args.n) (c.args.count) (c.args.e.0) (length (c.args.out.now)) (c.word_length-letters.ensures) (c.if-letters-gt4096.false) (c.if-out-letters.false) (sym (c.write_short.ensures.0) ∙ c.if-write_short.false)) refl (c.write_short.ensures.1 ∙ rw (c.if-write_short.false))

pub returns-then-write_long : goal.returns-then-write_long
returns-then-write_long c = wrote (c.args.s.now) (c.args.n) (c.args.e.0) (c.args.out.now) (write_count_lem (c.args.s.now) (c.args.n) (c.args.count) (c.args.e.0) (length (c.args.out.now)) (c.word_length-letters.ensures) (c.if-letters-gt4096.false) (c.if-out-letters.false) (sym (c.write_long.ensures.0) ∙ c.if-write_long.true)) refl (c.write_long.ensures.1 ∙ rw (c.if-write_long.true))

pub returns : goal.returns
returns c = wrote (c.args.s.now) (c.args.n) (c.args.e.0) (c.args.out.now) (write_unread (c.args.s.now) (c.args.n) (c.args.count) (c.args.e.0) (length (c.args.out.now)) (c.word_length-letters.ensures) (c.if-letters-gt4096.false) (c.if-out-letters.false) (sym (c.write_long.ensures.0) ∙ c.if-write_long.false)) refl (c.write_long.ensures.1 ∙ rw (c.if-write_long.false))
