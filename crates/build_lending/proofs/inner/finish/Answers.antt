-- One law for each way in which a build ends, from what `check_group`, `fill_hops` and `clear` ensure.
use Rattle.build_lending.proofs.Finishing.{finish_refused, finish_unfit, finish_fit}
use Rattle.build_lending.proofs.inner.finish.Goals as goal

pub returns-in-Err : goal.returns-in-Err
returns-in-Err c = let a = c.args in
    finish_refused _ a.t.now a.w.now c.in-Err.is c.clear.ensures c.clear-in-Err.ensures

pub returns-in-Err-check_group : goal.returns-in-Err-check_group
returns-in-Err-check_group c = let a = c.args in
    finish_unfit _ a.t.now a.w.now c.in-Ok.is c.check_group.ensures c.in-Err-check_group.is c.clear-in-Err-check_group.ensures c.clear-in-Err-check_group-2.ensures

pub returns-in-Ok-check_group : goal.returns-in-Ok-check_group
returns-in-Ok-check_group c = let a = c.args in
    finish_fit _ a.t.now a.w.now c.in-Ok.is c.check_group.ensures c.in-Ok-check_group.is c.fill_hops.ensures c.clear-in-Ok-check_group.ensures
