-- One handle, or the rows of a product.
use mathlib.Core.Path.{sym, ap, ◌∙◌}
use mathlib.Core.List.{List}
use lib.ListN.{length}
use Rattle.egg.specs.declared.Factor.{Factor}
use Rattle.group_handles.specs.Handles.{handles}
use Rattle.build_numbering.specs.Renumber.{map_rows}
use Rattle.subgroup_rows.specs.Rows.{product_by}
use Rattle.subgroup_rows.proofs.OneFactor.{one_handle, one_fits}
use Rattle.subgroup_rows.proofs.inner.rows_of.Goals as goal

pub factor_rows-requires : goal.factor_rows-requires
factor_rows-requires c = one_fits (length c.args.from.now) c.requires.0 (one_handle (handles c.args.over) c.listed.ensures.0 c.if-listed-eq1.true c.handle-f.ensures)

pub returns-then-listed-eq1 : goal.returns-then-listed-eq1
returns-then-listed-eq1 c = let a = c.args in c.factor_rows.ensures ∙ ap (λ (hs : List Factor). map_rows a.room (product_by a.from.now hs a.gens.now) a.n a.room 0 1 a.t.now a.inn.now a.outw.now) (sym (one_handle (handles a.over) c.listed.ensures.0 c.if-listed-eq1.true c.handle-f.ensures))
