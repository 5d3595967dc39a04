-- How far the waking of a list has come, where copies that stand alike are moved on together. 000 has nothing of the kind: what waking a list comes
-- to is `wakes_all`.
use Rattle.std.specs.Prelude.{ℕ}
use Rattle.enumeration_rows.specs.declared.inner.SideOfGap.{SideOfGap}
use Rattle.enumeration_wake.specs.declared.inner.Carried.{Carried}
use Rattle.enumeration_wake.specs.Waking.{State, wakes_all}

-- What waking the list comes to from there.
abbrev pub wakes_rest : Carried → ℕ → SideOfGap → State → State
wakes_rest c n side s = wakes_all c.left n c.at side s
