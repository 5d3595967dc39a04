-- One law for each answer.
use Rattle.subgroup_build.proofs.Admits.{maps_short, maps_inward, maps_outward}
use Rattle.subgroup_build.proofs.inner.maps_right.Goals as goal

pub returns-then-not-lent_right : goal.returns-then-not-lent_right
returns-then-not-lent_right c = let a = c.args in maps_short a.table a.start a.work a.inn a.outw a.room a.n a.m c.lent_right.ensures c.if-not-lent_right.true

pub returns-then-inn-m : goal.returns-then-inn-m
returns-then-inn-m c = let a = c.args in maps_inward a.table a.start a.work a.inn a.outw a.room a.n a.m c.lent_right.ensures c.if-not-lent_right.false c.if-inn-m.true

pub returns : goal.returns
returns c = let a = c.args in maps_outward a.table a.start a.work a.inn a.outw a.room a.n a.m c.lent_right.ensures c.if-not-lent_right.false c.if-inn-m.false
