-- One law for each answer.
use Rattle.egg.proofs.Refusing.{handed_on}
use Rattle.builder_rereading.proofs.Owning.{reached_refused, reached_whole, reached_none, reached_missing, reached_fine}
use Rattle.builder_rereading.proofs.inner.reached_all.Goals as goal

pub returns-in_err-count : goal.returns-in_err-count
returns-in_err-count c = let a = c.args in
    rw (handed_on c.from_residual.ensures, ← c.in_err-count.was) (reached_refused a.t.now a.n a.elements c.in_err-count.was)

pub returns-then-elements-count : goal.returns-then-elements-count
returns-then-elements-count c = let a = c.args in
    reached_whole a.t.now a.n a.elements c.in_ok-count.was c.if-elements-count.true

pub returns-then-n-eq0 : goal.returns-then-n-eq0
returns-then-n-eq0 c = let a = c.args in
    reached_none a.t.now a.n a.elements c.in_ok-count.was c.if-elements-count.false c.if-n-eq0.true

pub returns-in_err-check8 : goal.returns-in_err-check8
returns-in_err-check8 c = let a = c.args in
    rw (handed_on c.from_residual-in_err-check8.ensures) (reached_missing a.t.now a.n a.elements c.in_ok-count.was c.if-elements-count.false c.if-n-eq0.false c.check8.ensures c.in_err-check8.was)

pub returns : goal.returns
returns c = let a = c.args in
    reached_fine a.t.now a.n a.elements c.in_ok-count.was c.if-elements-count.false c.if-n-eq0.false c.check8.ensures c.in_ok-check8.was
