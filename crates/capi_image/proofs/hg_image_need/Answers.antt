-- The call's own answer, as one number.
use mathlib.Core.Path.{ap, ◌∙◌}
use Rattle.capi_values.specs.Bridge.{counted_code}
use Rattle.capi_image.proofs.hg_image_need.Goals as goal

pub returns : goal.returns
returns c = c.counted_code.ensures ∙ ap counted_code c.need.ensures
