-- The front is lent to the builds, and then the whole is cleared.
use mathlib.Core.Path.{sym}
use lib.ListN.{length, get_or}
use lib.Seq.{length-take-le}
use Rattle.group_handles.specs.Handles.{handles}
use Rattle.group_digits.specs.Digits.{composes}
use Rattle.subgroup_predicate.proofs.Front.{cleared_whole, told_front}
use Rattle.subgroup_predicate.proofs.inner.told_in_front.Goals as goal

pub slice_bounds-told_in-end-2 : goal.slice_bounds-told_in-end-2
slice_bounds-told_in-end-2 c = sym (length-take-le _ c.args.w.now c.requires.1.1)

pub returns : goal.returns
returns c = let a = c.args in (told_front (length a.t.now) (composes a.from.now (handles a.over)) a.room (length a.inn.now) (length a.outw.now) (λ y. get_or a.members.now y 0) a.w.now c.told_in-p.result c.requires.1.0 c.requires.1.1 (cleared_whole a.w.now a.room c.told_in-p.new.w c.told_in-p.auto.w c.clear.ensures) c.told_in-p.ensures.0, c.told_in-p.ensures.1)
