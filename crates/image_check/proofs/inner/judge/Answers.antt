-- The reading's answer decides, then the count, then the checks.
use Rattle.egg.proofs.Refusing.{handed_on}
use mathlib.Core.Path.{refl, sym, ap, ◌∙◌}
use mathlib.Core.List.{List, ◌++◌}
use Prim.Native.Nat.{ℕ, ◌/◌}
use lib.ListN.{drop}
use lib.Seq.{length-take-le}
use Rattle.image_cells.specs.Cells.{cells, halves}
use Rattle.build_reading.specs.Reading.{read_all, composed_at}
use Rattle.image_check.proofs.Parts.{front_take, front_drop, front_count, front_more, front_zero}
use Rattle.image_check.proofs.Turns.{judged_refused, judged_fewer, judged_whole}
use Rattle.image_check.proofs.inner.judge.Goals as goal

pub slice_bounds-clear-end-2 : goal.slice_bounds-clear-end-2
slice_bounds-clear-end-2 c = sym (length-take-le c.args.at c.args.b.now c.requires)

pub slice_bounds-read_rows-end-2 : goal.slice_bounds-read_rows-end-2
slice_bounds-read_rows-end-2 c = front_count c.args.b.now c.args.at c.requires c.clear.new.s c.clear.auto.s

pub returns-then-k-room : goal.returns-then-k-room
returns-then-k-room c = judged_fewer (c.args.at / 4) (cells (drop c.args.at c.args.b.now)) (halves c.args.rows.now) c.args.n c.args.room (cells c.read_rows.new.t) (c.read_rows.ensures ∙ ap (λ (z : List ℕ). read_all (composed_at (halves c.args.rows.now) c.args.n) c.args.n c.args.room z) (front_zero c.args.b.now c.args.at c.requires c.clear.new.s c.clear.auto.s c.clear.ensures)) c.in_ok-k.was c.if-k-room.true refl

pub returns-in_err-k : goal.returns-in_err-k
returns-in_err-k c = rw (handed_on c.from_residual.ensures)
    (judged_refused (c.args.at / 4) (cells (drop c.args.at c.args.b.now)) (halves c.args.rows.now) c.args.n c.args.room (cells c.read_rows.new.t) (c.read_rows.ensures ∙ ap (λ (z : List ℕ). read_all (composed_at (halves c.args.rows.now) c.args.n) c.args.n c.args.room z) (front_zero c.args.b.now c.args.at c.requires c.clear.new.s c.clear.auto.s c.clear.ensures)) c.in_err-k.was)

pub returns : goal.returns
returns c = judged_whole (c.args.at / 4) (cells (drop c.args.at c.args.b.now)) (halves c.args.rows.now) c.args.n c.args.room (cells c.read_rows.new.t) (c.read_rows.ensures ∙ ap (λ (z : List ℕ). read_all (composed_at (halves c.args.rows.now) c.args.n) c.args.n c.args.room z) (front_zero c.args.b.now c.args.at c.requires c.clear.new.s c.clear.auto.s c.clear.ensures)) c.in_ok-k.was c.if-k-room.false (rw (front_take (c.clear.new.s ++ drop c.args.at c.args.b.now) c.args.at (front_more c.args.b.now c.args.at c.requires c.clear.new.s c.clear.auto.s) c.read_rows.new.t c.read_rows.auto.t, front_drop (c.clear.new.s ++ drop c.args.at c.args.b.now) c.args.at (front_more c.args.b.now c.args.at c.requires c.clear.new.s c.clear.auto.s) c.read_rows.new.t c.read_rows.auto.t, front_drop c.args.b.now c.args.at c.requires c.clear.new.s c.clear.auto.s) at c.check_all.ensures)
