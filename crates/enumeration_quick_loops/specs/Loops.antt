-- What the pair relations say of a step that is not known: a relation through it of which all other steps are known, a closed loop, says where it
-- leads.
use Rattle.std.specs.Prelude.{ℕ, zero, suc, ◌+◌, ◌*◌, ◌-◌, List, get_or, ltb, eqb}
use Rattle.egg.specs.Table.{pick, start_of, length_of}
use Rattle.egg.specs.Pairs.{pair_count}
use Rattle.enumeration_fill.specs.declared.inner.Walked.{Walked}
use Rattle.enumeration_fill.specs.Walk.{walk_from}

-- The order of the pair of two generators, from the list of "Pairs in the order (0,1),(0,2),(1,2),(0,3)..".
unfoldable pub order_for : List ℕ → ℕ → ℕ → ℕ
order_for o g h = pick (ltb g h) (get_or o (pair_count h + g) 0) (get_or o (pair_count g + h) 0)

-- What such a walk says: where it went all its way, to an element whose step by g is not known, that element's number + 1; else 0, for nothing.
abbrev pub end_by : (t : List ℕ) (n g : ℕ) → Walked → ℕ
end_by t n g x = pick (eqb x.left 0) (pick (eqb (get_or t (start_of n x.element.0 + g) 0) 0) (x.element.0 + 1) 0) 0

-- Where the relation of g and h says that e·g leads: to the end of h g h .. from e, all letters of the relation but one. A relation of order m is not
-- asked at an element whose word has fewer than m - 1 letters, which saves long walks. It should not be able to say anything there; that is no
-- theorem, and only time rests on it.
unfoldable pub loop_by : (t o : List ℕ) (n e g h : ℕ) → ℕ
loop_by t o n e g h =
    pick (eqb h g) 0
    (pick (ltb (length_of t n e + 1) (order_for o g h)) 0 (end_by t n g (walk_from (2 * order_for o g h - 1) t n e h g)))

-- What the first relation says that says anything, of f generators from h on.
unfoldable pub loop_from : (f : ℕ) (t o : List ℕ) (n e g h : ℕ) → ℕ
loop_from zero t o n e g h = 0
loop_from (suc f) t o n e g h = pick (eqb (loop_by t o n e g h) 0) (loop_from f t o n e g (h + 1)) (loop_by t o n e g h)
