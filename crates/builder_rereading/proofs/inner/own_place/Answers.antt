-- One law for each answer.
use mathlib.Core.Path.{◌∙◌}
use Rattle.builder_rereading.proofs.Owning.{own_missing, own_outside, own_read}
use Rattle.builder_rereading.proofs.inner.own_place.Goals as goal

pub returns-then-x-eq0 : goal.returns-then-x-eq0
returns-then-x-eq0 c = let a = c.args in
    own_missing a.t.now a.n a.room a.elements a.count a.e.0 a.g.0 a.x c.if-x-eq0.true

pub returns-then-elements-x : goal.returns-then-elements-x
returns-then-elements-x c = let a = c.args in
    own_outside a.t.now a.n a.room a.elements a.count a.e.0 a.g.0 a.x c.if-x-eq0.false c.if-elements-x.true

pub returns : goal.returns
returns c = let a = c.args in
    c.place.ensures ∙ own_read a.t.now a.n a.room a.elements a.count a.e.0 a.g.0 a.x c.if-x-eq0.false c.if-elements-x.false
