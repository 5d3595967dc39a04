-- The quick walk has found the one product, or the place is asked as several are.
use Rattle.lists.proofs.Answers.{one_reached, only_place}
use Rattle.lists_factor.specs.Each.{compose_at}
use mathlib.Core.Path.{refl, ◌∙◌}
use Rattle.lists_factor.proofs.inner.compose_one.Goals as goal

pub returns-then-product-f : goal.returns-then-product-f
returns-then-product-f c = only_place (c.args.out.now) (compose_at (c.args.table.now) (c.args.f) (c.args.a.now) (c.args.b.now)) (c.requires.0) refl (one_reached (c.args.out.now) (c.product_at_once-product.ensures (c.if-product-f.true)) (c.requires.1.1 ∙ c.requires.0))
