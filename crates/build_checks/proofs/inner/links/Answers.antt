-- Each way through the tests decides the picks of `links_of`.
use borrow.Author.Tests.{lt-ltb, le-ltb, eq-eqb, ne_eqb, le-leb, lt-leb}
use Rattle.build_checks.specs.Checks.{links_of}
use Rattle.build_checks.proofs.inner.links.Goals as goal

pub returns-then-word_length-gt4096 : goal.returns-then-word_length-gt4096
unfolding links_of
returns-then-word_length-gt4096 c = rw (← c.word_length.ensures) (simp (lt-ltb _ _ c.if-word_length-gt4096.true))

pub returns-then-e-eq0 : goal.returns-then-e-eq0
unfolding links_of
returns-then-e-eq0 c = rw (← c.word_length.ensures) (simp (le-ltb _ _ c.if-word_length-gt4096.false, eq-eqb _ _ c.if-e-eq0.true))

pub returns-then-e-parent : goal.returns-then-e-parent
unfolding links_of
returns-then-e-parent c = rw (← c.word_length.ensures, ← c.parent.ensures) (simp (le-ltb _ _ c.if-word_length-gt4096.false, ne_eqb _ _ c.if-e-eq0.false, le-leb _ _ c.if-e-parent.true))

pub returns-then-n-last : goal.returns-then-n-last
unfolding links_of
returns-then-n-last c = rw (← c.word_length.ensures, ← c.parent.ensures, ← c.last.ensures) (simp (le-ltb _ _ c.if-word_length-gt4096.false, ne_eqb _ _ c.if-e-eq0.false, lt-leb _ _ c.if-e-parent.false, le-leb _ _ c.if-n-last.true))

pub returns : goal.returns
unfolding links_of
returns c = rw (← c.word_length.ensures, ← c.parent.ensures, ← c.last.ensures) (simp (le-ltb _ _ c.if-word_length-gt4096.false, ne_eqb _ _ c.if-e-eq0.false, lt-leb _ _ c.if-e-parent.false, lt-leb _ _ c.if-n-last.false))
