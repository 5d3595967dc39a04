-- The steps of the build, put together by `renumber_in_lem`.
use lib.ListN.{length}
use Rattle.group_handles.specs.Handles.{handles}
use Rattle.subgroup_rows.specs.Rows.{product_by}
use Rattle.build_numbering.proofs.BuildLaws.{renumber_in_lem}
use Rattle.subgroup_build.proofs.inner.generated_in.Goals as goal

pub rows_of-read-requires : goal.rows_of-read-requires
rows_of-read-requires c = c.requires

pub returns : goal.returns
returns c = let a = c.args in renumber_in_lem (length a.t.now) a.w.now (product_by a.from.now (handles a.over) a.gens.now) a.n a.room (length a.inn.now) (length a.outw.now) 0 c.clear.ensures c.start.ensures.0 c.start.ensures.1 c.rows_of-read.ensures c.finish-made.ensures c.settle.ensures.0 c.settle.ensures.1.0 c.settle.ensures.1.1
