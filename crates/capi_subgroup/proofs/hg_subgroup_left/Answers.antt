-- The call's own verdict, written.
use Rattle.egg.specs.Answers.{answer_of}
use mathlib.Core.Path.{ap, ◌∙◌}
use Rattle.subgroup_build.specs.Answers.{Subgrouped}
use Rattle.capi_values.proofs.Laws.{verdict_told_lem, out_long, out_short}
use Rattle.capi_subgroup.proofs.hg_subgroup_left.Goals as goal

pub returns-then-out-lt4 : goal.returns-then-out-lt4
returns-then-out-lt4 c = out_short 4 c.args.out.now _ _ c.if-out-lt4.true

pub returns : goal.returns
returns c = out_long 4 _ _ _ c.if-out-lt4.false (rw (← c.product_of-g.ensures, ← c.subgroup_from-s.ensures) (verdict_told_lem c.args.out.now (c.verdict_of-v.ensures ∙ ap (λ (m : Subgrouped). answer_of m) c.product_left.ensures) c.write_verdict.ensures))
