-- What was gathered are the word's letters, and they are walked.
use mathlib.Core.Path.{◌∙◌}
use borrow.Author.Rules.{rules}
use lib.ListN.{replicate}
use Rattle.factor_word_walks.proofs.Walks.{along_unread, along_read}
use Rattle.factor_word_walks.proofs.inner.along_long.Goals as goal

pub returns-then-not-gather : goal.returns-then-not-gather
returns-then-not-gather c = along_unread (c.args.s.now) (c.args.n) (c.args.count) (c.args.from.0) (c.args.e.0) (c.args.len) (c.gather.ensures.0) c.if-not-gather.true

pub returns : goal.returns
returns c = c.follow.ensures ∙ along_read (c.args.s.now) (c.args.n) (c.args.count) (c.args.from.0) (c.args.e.0) (c.args.len) (c.gather.ensures.0) c.if-not-gather.false (replicate 4100 0) (search rules) (c.gather.ensures.1 c.if-not-gather.false)
