-- Facts, which are steps that are newly known, and the rows that they wake, as a machine over the table and the work, to be read beside
-- todd_coxeter.rs (000).
use Rattle.std.specs.Prelude.{ℕ, zero, suc, ◌+◌, ◌-◌, List, get_or, length, eqb}
use Rattle.egg.specs.Table.{pick, put_at}
use Rattle.enumeration_rows.specs.declared.inner.SideOfGap.TheVariants.{Left, Right}
use Rattle.enumeration_wake.specs.Waking.{State, state, below_at, wakes_all}

-- 000's `mem::take`: the work with both lists of a place emptied, and its link of the fact stack.
unfoldable pub emptied : List ℕ → ℕ → List ℕ
emptied w place =
    put_at
    (put_at
    (put_at (put_at (put_at (put_at (put_at w place 0) (place + 1) 0) (place + 2) 0) (place + 3) 0) (place + 4) 0)
    (place + 5)
    0)
    (place + 6)
    0

-- 000's `update_with_fact`: both lists are taken from the place, with their counts, and the place is emptied; "A fact wakes left rows, then right
-- rows, each in waiting order".
unfoldable pub updated : ℕ → ℕ → State → State
updated n place s =
    wakes_all (get_or s.work (place + 5) 0) n (get_or s.work (place + 3) 0) Right
    (wakes_all (get_or s.work (place + 2) 0) n (get_or s.work place 0) Left
    (state s.table (emptied s.work place) s.top))

-- 000's `while let Some(fact) = facts.pop()`: "New ones are taken last in, first out". At most k facts are taken.
unfoldable pub settle_from : ℕ → ℕ → State → State
settle_from zero n s = s
settle_from (suc k) n s =
    pick (eqb s.top 0) s
    (settle_from k n
    (updated n (s.top - 1) (state s.table s.work (get_or s.work (below_at (s.top - 1)) 0))))

-- What is left when no fact is. The bound is the length of the work: a place becomes a fact once at most, and there are fewer places than numbers of
-- work.
abbrev pub settled : ℕ → State → State
settled n s = settle_from (length s.work) n s
