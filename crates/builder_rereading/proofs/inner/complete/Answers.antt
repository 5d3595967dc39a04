-- What is read from the copy is what stood in the stretch.
use Rattle.builder_rereading.proofs.Owning.{own_built}
use Rattle.builder_rereading.proofs.inner.complete.Goals as goal

pub returns : goal.returns
returns c = let a = c.args in
    own_built a.t.now a.w.now a.n a.room a.elements c.requires c.copy_rows.ensures c.clear.ensures c.own_rows-read.ensures c.reached_all-whole.ensures c.finish.ensures
