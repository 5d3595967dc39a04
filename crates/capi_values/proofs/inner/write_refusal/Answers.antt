-- Four stores.
use mathlib.Core.Path.{◌∙◌}
use Rattle.capi_values.proofs.Laws.{paper_refused}
use Rattle.capi_values.proofs.inner.write_refusal.Goals as goal

pub returns : goal.returns
returns c = (c.number-number.ensures, paper_refused c.args.r c.args.out.now (c.put.ensures ∙ rw c.number-number.ensures) (c.put-2.ensures ∙ rw c.places-places.ensures) (c.put-3.ensures ∙ rw c.places-places.ensures) (c.put-4.ensures ∙ rw c.places-places.ensures))
