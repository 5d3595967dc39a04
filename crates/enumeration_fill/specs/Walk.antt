-- A walk of one end of a row, as the code does it: both loops of 000's `fill` are walks along two columns of the table in turn. That they are is
-- proved; what a row comes to is defined by `backed` and `forwarded`.
use Rattle.std.specs.Prelude.{ℕ, zero, suc, ◌+◌, ◌-◌, List, ◌==◌, slice_index}
use Rattle.egg.specs.Table.{pick, start_of}
use Rattle.enumeration_fill.specs.declared.inner.Walked.{Walked}
use Rattle.enumeration_fill.specs.declared.inner.Leg.{Leg}

-- A walk that stands at e with so many steps left.
abbrev pub walk_of : ℕ → ℕ → Walked
walk_of e left = record { element = record { 0 = e }; left = left }

-- The walk from e by column a, then b, then a again, and so on, at most k steps, until a step is not known.
unfoldable pub walk_from : (k : ℕ) (t : List ℕ) (n e a b : ℕ) → Walked
walk_from zero t n e a b = walk_of e 0
walk_from (suc k) t n e a b =
    pick (slice_index t (start_of n e + a) == 0) (walk_of e (suc k)) (walk_from k t n (slice_index t (start_of n e + a) - 1) b a)

-- What a walk comes to from the end of a leg, that is of a part of it: it goes on by the same columns where there is more of it, else it has ended
-- there.
abbrev pub onward : (t : List ℕ) (n a b : ℕ) (l : Leg) → Walked
onward t n a b l = pick l.more (walk_from l.left t n l.element.0 a b) (walk_of l.element.0 l.left)
