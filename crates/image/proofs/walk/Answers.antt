-- One law for each answer, from the head to the walk along the word.
use Rattle.image.proofs.Heads.{head_limit, right_number, bad_answer, refused_number}
use mathlib.Core.Path.{refl, sym, ◌∙◌}
use native.Mathlib.Omega.{arith}
use Rattle.image.proofs.ReadLaws.{whole_image}
use Rattle.image.proofs.WalkLaws.{walk_head, walk_start, walk_letter, walk_follows}
use Rattle.image.proofs.walk.Goals as goal

pub overflow_add-result : goal.overflow_add-result
overflow_add-result c = omega (arith, head_limit c.args.image.now, c.number.ensures, refused_number c.args.image.now (sym c.head.ensures ∙ c.in-Err.is))

pub returns-in-Err : goal.returns-in-Err
returns-in-Err c = let e = sym c.head.ensures ∙ c.in-Err.is in
    let q = c.number.ensures ∙ refused_number c.args.image.now e in
    walk_head c.args.image.now c.args.start.0 c.args.word.now q (λ z. (bad_answer c.args.image.now e).0 (sym q ∙ z))

pub returns-then-count-start : goal.returns-then-count-start
returns-then-count-start c = walk_start c.args.image.now c.args.start.0 c.args.word.now (right_number c.args.image.now (sym c.head.ensures ∙ c.in_default.is)) refl c.generators-n.ensures c.elements-count.ensures.at c.if-count-start.true

pub returns-then-not-letters_below : goal.returns-then-not-letters_below
returns-then-not-letters_below c = walk_letter c.args.image.now c.args.start.0 c.args.word.now (right_number c.args.image.now (sym c.head.ensures ∙ c.in_default.is)) refl c.generators-n.ensures c.elements-count.ensures.at c.if-count-start.false (sym c.letters_below.ensures ∙ c.if-not-letters_below.true)

pub slice_bounds-follow-count : goal.slice_bounds-follow-count
slice_bounds-follow-count c = omega (arith, whole_image c.args.image.now (right_number c.args.image.now (sym c.head.ensures ∙ c.in_default.is)) refl)

pub slice_bounds-follow-start : goal.slice_bounds-follow-start
slice_bounds-follow-start c = omega (arith, whole_image c.args.image.now (right_number c.args.image.now (sym c.head.ensures ∙ c.in_default.is)) refl)

pub returns : goal.returns
returns c = walk_follows c.args.image.now c.args.start.0 c.args.word.now (right_number c.args.image.now (sym c.head.ensures ∙ c.in_default.is)) refl c.generators-n.ensures c.elements-count.ensures.at c.if-count-start.false (sym c.letters_below.ensures ∙ c.if-not-letters_below.false) c.follow.ensures
