-- As what is made.
use mathlib.Core.Path.{◌∙◌}
use Rattle.capi_names.proofs.Told.{as_made_told}
use Rattle.capi_names.proofs.inner.write_named_begun.Goals as goal

pub returns : goal.returns
returns c = let told = as_made_told c.args.b c.args.out.now c.as_made.ensures (c.write_named.ensures.0, c.write_named.ensures.1) in
    (told.0, told.1, c.write_named.ensures.2 ∙ rw (c.as_made.ensures))
