-- A handle from its numbers.
use Rattle.capi_builder.proofs.builder_of.Goals as goal

pub returns : goal.returns
returns c = rw c.factor_of.ensures
