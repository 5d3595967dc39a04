-- No other question looks at a name. Order 1: "Two factors that differ only in name answer every other question alike."
use Rattle.std.specs.Prelude.{ℕ, ◌≤◌, ◌≡◌, List, length}
use Rattle.builder.specs.Calls.{begins, builds}
use Rattle.factor.specs.Composed.{composed}
use Rattle.enumeration.specs.Calls.{enumerates}
use Rattle.image.specs.Read.{read_image}
use Rattle.group_handles.specs.Handles.{joins}
use Rattle.group_flatten.specs.Flat.{flat}
use Rattle.names_values.specs.declared.Named.{Named}
use Rattle.names_values.specs.declared.NamedBuilder.{NamedBuilder}
use Rattle.names_values.specs.declared.NamedGroup.{NamedGroup}
use Rattle.names_values.specs.Answers.{unnamed_grouped}
use Rattle.names.specs.Making.{named_composed, named_enumerates, named_begins, named_builds, named_read, named_flat}
use Rattle.names.specs.Products.{named_joins}
use Rattle.promises_names.specs.Aside.{name_aside, begun_aside}
use Rattle.promises_names.specs.Alike.{SameNumbers, FactorAlike, ProductAlike, BuilderAlike}

-- Of two records whose handles have the same numbers, whatever stands in their names, every answer and every buffer is the same; and the calls that make
-- factors make, name aside, what they made before. The calls on subgroups are given a `Subgroup`, which the calls that make one (`generated`, `chosen` and so
-- on) answer alike, handles and all. No call below could do otherwise: tools/layers.py lets no crate there name this layer, where the types with a name
-- stand. `write_joined` and `joined` are the ones that look.
pub record NamesApart : Type 0 where
  -- Every call on a factor, by the four numbers of its handle.
  pub factors : (f g : Named) → SameNumbers f.factor g.factor → FactorAlike f.factor g.factor
  -- Every call on a product, by its handles and their count.
  pub products : (g h : NamedGroup) → g.group.factors ≡ h.group.factors → g.group.count ≡ h.group.count → ProductAlike g.group h.group
  -- Every call on a build that is under way, by the four numbers of its handle.
  pub builders : (b c : NamedBuilder) → SameNumbers b.builder.0 c.builder.0 → BuilderAlike b.builder c.builder
  -- `product`, names aside, is that of the handles, so that it is refused or made by them alone.
  pub joined : (len : ℕ) (a b : NamedGroup) → unnamed_grouped (named_joins len a b) ≡ joins len a.group b.group
  pub joined_alike : (len : ℕ) (a b c d : NamedGroup) → a.group ≡ c.group → b.group ≡ d.group
      → unnamed_grouped (named_joins len a b) ≡ unnamed_grouped (named_joins len c d)
  -- `build`, name aside, makes what it made before, by the builder alone.
  pub built : (t : List ℕ) (b : NamedBuilder) (w : List ℕ) → name_aside (named_builds t b w) ≡ builds t b.builder w
  pub built_alike : (t : List ℕ) (b c : NamedBuilder) (w : List ℕ) → b.builder ≡ c.builder → name_aside (named_builds t b w) ≡ name_aside (named_builds t c w)
  -- `flatten` too, by the handles alone; and its factor has the same name, the empty one.
  pub flattened : (from : List ℕ) (g : NamedGroup) (table : List ℕ) (start : ℕ) (work : List ℕ) (room : ℕ)
      → name_aside (named_flat from g table start work room) ≡ flat from g.group table start work room
  pub flat_alike : (from : List ℕ) (g h : NamedGroup) (table : List ℕ) (start : ℕ) (work : List ℕ) (room : ℕ) → g.group ≡ h.group
      → named_flat from g table start work room ≡ named_flat from h table start work room
  -- `read` is given no name, and makes what it made before.
  pub read_back : (image table : List ℕ) (start : ℕ) (work : List ℕ) → name_aside (named_read image table start work) ≡ read_image image table start work
  -- `from_composed`, `enumerate` and `begin` make what they made before, whatever the name, unless it is over 32 bytes.
  pub from_rows : (name : List ℕ) → length name ≤ 32 → (table : List ℕ) (start : ℕ) (work rows : List ℕ) (n room : ℕ)
      → name_aside (named_composed table start work rows n room name) ≡ composed table start work rows n room
  pub from_orders : (name : List ℕ) → length name ≤ 32 → (table : List ℕ) (start : ℕ) (work orders : List ℕ) (n room : ℕ)
      → name_aside (named_enumerates table start work orders n room name) ≡ enumerates table start work orders n room
  pub from_begin : (name : List ℕ) → length name ≤ 32 → (table : List ℕ) (start room n : ℕ)
      → begun_aside (named_begins table start room n name) ≡ begins table start room n
