-- The lists are refused; or one place is asked; or each, with a short list of our own or a long one.
use Rattle.lists.proofs.Answers.{lists_wrong, lists_right, only_place}
use Rattle.lists.proofs.Lengths.{right_lengths}
use Rattle.lists_factor.specs.Each.{powi_each}
use mathlib.Core.Path.{sym, ◌∙◌}
use native.Mathlib.Omega.{arith}
use Rattle.group_powers.proofs.Signs.{read_is}
use Rattle.group_powers.specs.Powers.{powi_alone}
use lib.IntN.{ℤ}
use lib.ListN.{get_or}
use Rattle.lists.proofs.Places.{exponent_there}
use borrow.Author.Rules.{rules}
use Rattle.lists_factor.proofs.powi_each.Goals as goal

pub returns-then-not-lengths_right : goal.returns-then-not-lengths_right
unfolding powi_each
returns-then-not-lengths_right c = lists_wrong (c.lengths_right.ensures) _ _ _ (c.if-not-lengths_right.true) (c.lists_refused.ensures)

pub exponent-k-requires : goal.exponent-k-requires
exponent-k-requires c = let l = right_lengths _ _ _ (sym (c.lengths_right.ensures) ∙ c.if-not-lengths_right.false) in omega (arith, l.0, c.if-a-eq1.true)

pub hand_over_one-requires : goal.hand_over_one-requires
hand_over_one-requires c = let l = right_lengths _ _ _ (sym (c.lengths_right.ensures) ∙ c.if-not-lengths_right.false) in sym l.1.0 ∙ c.if-a-eq1.true

pub returns-then-a-eq1 : goal.returns-then-a-eq1
unfolding powi_each
returns-then-a-eq1 c = lists_right (c.lengths_right.ensures) _ _ _ (c.if-not-lengths_right.false) (only_place (c.args.out.now) _ (c.if-a-eq1.true) (exponent_there (λ (z : ℤ). powi_alone (c.args.table.now) (c.args.f) (record { 0 = get_or (c.args.a.now) 0 0 }) z) (c.powi-said.ensures) (read_is (c.exponent-k.result) (record { sfits = c.exponent-k.type_inv }) ∙ c.exponent-k.ensures)) (c.hand_over_one.ensures))

pub powi_by-requires : goal.powi_by-requires
powi_by-requires c = let l = right_lengths _ _ _ (sym (c.lengths_right.ensures) ∙ c.if-not-lengths_right.false) in (sym l.0, (sym l.1.0, search rules))

pub returns-then-a-le64 : goal.returns-then-a-le64
unfolding powi_each
returns-then-a-le64 c = lists_right (c.lengths_right.ensures) _ _ _ (c.if-not-lengths_right.false) (c.powi_by.ensures)

pub powi_by-requires-2 : goal.powi_by-requires-2
powi_by-requires-2 c = let l = right_lengths _ _ _ (sym (c.lengths_right.ensures) ∙ c.if-not-lengths_right.false) in (sym l.0, (sym l.1.0, l.1.1))

pub returns : goal.returns
unfolding powi_each
returns c = lists_right (c.lengths_right.ensures) _ _ _ (c.if-not-lengths_right.false) (c.powi_by-2.ensures)
