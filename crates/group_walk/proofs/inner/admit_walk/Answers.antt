use Rattle.egg.proofs.Refusing.{handed_on}
use mathlib.Core.Path.{◌∙◌, ap}
use Rattle.group_handles.specs.declared.inner.Seen.{Seen}
use borrow.Author.Tests.{not-true, not-false}
use Rattle.group_handles.proofs.Admitted.{seen_fit, seen_few, seen_many, limited_many}
use Rattle.group_walk.proofs.Admits.{walk_handle, walk_start, walk_letter, walk_large, walk_fine, start_beyond, start_within, seen_letters}
use borrow.Author.Rules.{rules}
use Rattle.group_walk.proofs.inner.admit_walk.Goals as goal

pub returns-then-not-s : goal.returns-then-not-s
returns-then-not-s c = λ len q. walk_handle len c.args.g c.args.e c.args.word.now (seen_fit len c.args.g q (not-true _ c.if-not-s.true))

pub returns-then-s-e : goal.returns-then-s-e
returns-then-s-e c = λ len q. walk_start len c.args.g c.args.e c.args.word.now (seen_fit len c.args.g q (not-false _ c.if-not-s.false)) (start_beyond len c.args.g q (search rules) (not-false _ c.if-not-s.false) c.if-s-e.true)

pub returns-in_err-letters_right : goal.returns-in_err-letters_right
returns-in_err-letters_right c = λ len q. handed_on c.from_residual.ensures ∙ walk_letter len c.args.g c.args.e c.args.word.now (seen_fit len c.args.g q (not-false _ c.if-not-s.false)) (start_within len c.args.g q (search rules) (not-false _ c.if-not-s.false) c.if-s-e.false) (seen_letters len c.args.g q c.args.word.now c.letters_right.ensures) c.in_err-letters_right.was

pub returns-then-g-gt8 : goal.returns-then-g-gt8
returns-then-g-gt8 c = λ len q. walk_large len c.args.g c.args.e c.args.word.now (seen_fit len c.args.g q (not-false _ c.if-not-s.false)) (start_within len c.args.g q (search rules) (not-false _ c.if-not-s.false) c.if-s-e.false) (seen_letters len c.args.g q c.args.word.now c.letters_right.ensures) c.in_ok-letters_right.was (limited_many c.args.g c.if-g-gt8.true)

pub returns-then-s-gt4294967295 : goal.returns-then-s-gt4294967295
returns-then-s-gt4294967295 c = λ len q. walk_large len c.args.g c.args.e c.args.word.now (seen_fit len c.args.g q (not-false _ c.if-not-s.false)) (start_within len c.args.g q (search rules) (not-false _ c.if-not-s.false) c.if-s-e.false) (seen_letters len c.args.g q c.args.word.now c.letters_right.ensures) c.in_ok-letters_right.was (seen_many c.args.g (ap (λ (s : Seen). s.elements) q) c.if-g-gt8.false c.if-s-gt4294967295.true)

pub returns : goal.returns
returns c = λ len q. walk_fine len c.args.g c.args.e c.args.word.now (seen_fit len c.args.g q (not-false _ c.if-not-s.false)) (start_within len c.args.g q (search rules) (not-false _ c.if-not-s.false) c.if-s-e.false) (seen_letters len c.args.g q c.args.word.now c.letters_right.ensures) c.in_ok-letters_right.was (seen_few c.args.g (ap (λ (s : Seen). s.elements) q) c.if-g-gt8.false c.if-s-gt4294967295.false)
