-- What was gathered spells the word wherever it is copied to.
use mathlib.Core.Path.{refl, sym, ◌∙◌}
use lib.ListN.{replicate}
use Rattle.factor_words.proofs.Words.{spell_copied}
use borrow.Author.Rules.{rules}
use Rattle.factor_words.proofs.inner.write_long.Goals as goal

pub returns-then-not-gather : goal.returns-then-not-gather
returns-then-not-gather c = (sym c.if-not-gather.true ∙ c.gather.ensures.0, refl)

pub returns : goal.returns
returns c = (sym c.if-not-gather.false ∙ c.gather.ensures.0, spell_copied c.args.s.now c.args.n c.args.len c.args.e.0 (replicate 4100 0) c.args.out.now (search rules) c.requires.1 (c.gather.ensures.1 c.if-not-gather.false) c.copy_from_slice.ensures.after)
