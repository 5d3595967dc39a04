-- By the answer of what is behind: only where it is fine is there anything to copy.
use Rattle.egg.proofs.Refusing.{handed_on}
use Rattle.lists.proofs.Places.{refused_right}
use Rattle.lists.proofs.Pieces.{piece_waits, piece_over}
use borrow.Rule.Slice.PartMut.{mid_len}
use mathlib.Core.Path.{sym, ap, ◌∙◌}
use Prim.Native.Nat.{ℕ}
use lib.ListN.{take}
use Rattle.lists.proofs.inner.hand_over_piece.Goals as goal

pub returns-in_err-later : goal.returns-in_err-later
returns-in_err-later c = (handed_on c.from_residual.ensures ∙ sym c.in_err-later.was, piece_waits _ _ _ _ (λ h. refused_right (sym c.in_err-later.was ∙ h)))

pub returns : goal.returns
returns c = let long = mid_len (c.args.i) (c.args.end) (c.args.out.now) (c.requires.1.0) in
    (sym (c.in_ok-later.was), piece_over _ _ (c.args.piece.now) _ (c.in_ok-later.was) (c.requires.0) (c.requires.1.0) (c.copy_front.auto.out ∙ long) (c.copy_front.ensures ∙ ap (λ (n : ℕ). take n (c.args.piece.now)) long))
