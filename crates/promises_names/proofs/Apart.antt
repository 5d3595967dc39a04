-- No other question looks at a name.
use mathlib.Core.Path.{◌≡◌, refl, sym, ap, ◌∙◌}
use mathlib.Core.List.{List}
use Rattle.std.specs.Prelude.{Ok, Err}
use Rattle.group_handles.specs.Answers.{Grouped}
use Rattle.names_values.specs.declared.Name.{Name}
use Rattle.names_values.specs.Answers.{unnamed_grouped}
use Rattle.builder.specs.declared.Builder.{Builder}
use Rattle.builder.specs.Calls.{builds}
use Rattle.names.specs.Making.{named_flat}
use Rattle.names.specs.Products.{grouped_with, named_joins}
use Rattle.promises_names.specs.Apart.{NamesApart}
use Rattle.promises_names.proofs.Alike.{same_handle, same_product, same_builder, factor_alike, product_alike, builder_alike}
use Rattle.promises_names.proofs.Making.{composed_as_before, enumerate_as_before, begin_as_before, build_as_before, read_as_before, flat_as_before}

grouped_aside : (x : Grouped) (ms : List Name) → unnamed_grouped (grouped_with x ms) ≡ x
grouped_aside (Ok g) ms = refl
grouped_aside (Err r) ms = refl

pub names_apart : NamesApart
unfolding named_joins named_flat
names_apart = record {
  factors = λ f g S. factor_alike (same_handle f.factor g.factor S);
  products = λ g h p q. product_alike (same_product g.group h.group p q);
  builders = λ b c S. builder_alike (same_builder b.builder c.builder S);
  joined = λ len a b. grouped_aside _ _;
  joined_alike = λ len a b c d p q. grouped_aside _ _ ∙ rw (p, q) (sym (grouped_aside _ _));
  built = λ t b w. (build_as_before t b w).as_before;
  built_alike = λ t b c w p. (build_as_before t b w).as_before ∙ ap (λ (x : Builder). builds t x w) p ∙ sym (build_as_before t c w).as_before;
  flattened = λ from g table start work room. (flat_as_before from g table start work room).as_before;
  flat_alike = λ from g h table start work room p. rw p;
  read_back = λ image table start work. (read_as_before image table start work).as_before;
  from_rows = λ name s table start work rows n room. (composed_as_before name s table start work rows n room).as_before;
  from_orders = λ name s table start work orders n room. (enumerate_as_before name s table start work orders n room).as_before;
  from_begin = λ name s table start room n. (begin_as_before name s table start room n).as_before;
}
