-- The calls that make factors make, name aside, what they made before, and their records have the name that was given, or the empty one.
use Prim.Native.Nat.{ℕ, ◌≤◌}
use mathlib.Core.Path.{◌≡◌, refl, sym}
use mathlib.Core.List.{List}
use borrow.Author.Tests.{le-leb}
use lib.ListN.{length}
use Rattle.std.specs.Prelude.{Ok, Err}
use Rattle.egg.proofs.Scans.{refused_fine}
use Rattle.build_lending.specs.Lending.{Making, making}
use Rattle.builder.specs.Answers.{Begun}
use Rattle.builder.specs.Calls.{Leaving, leaving, begins, builds}
use Rattle.factor.specs.Composed.{composed}
use Rattle.enumeration.specs.Calls.{enumerates}
use Rattle.image.specs.Read.{read_image}
use Rattle.group_flatten.specs.Flat.{flat}
use Rattle.names_values.specs.declared.Name.{Name}
use Rattle.names_values.specs.declared.NamedBuilder.{NamedBuilder}
use Rattle.names_values.specs.declared.NamedGroup.{NamedGroup}
use Rattle.subgroup_build.specs.declared.Subgroup.{Subgroup}
use Rattle.names_values.specs.Names.{name_of, no_name, unnamed_of}
use Rattle.names.specs.Making.{with_name, named_composed, named_enumerates, named_begun, named_begins, named_builds, named_read, named_flat}
use Rattle.promises_names.specs.Aside.{AsBefore, BegunAsBefore}

made_with : (m : Name) (made : Making) → AsBefore m made (with_name m made)
made_with m (making (Ok f) t w) = record { as_before = refl; accepted = λ h. refl; refused = λ h. absurd (refused_fine (sym h)) }
made_with m (making (Err r) t w) = record { as_before = refl; accepted = λ h. absurd (refused_fine h); refused = λ h. refl }

begun_with_lem : (m : Name) (b : Leaving Begun) → BegunAsBefore m b (named_begun m b)
begun_with_lem m (leaving (Ok b) t) = record { as_before = refl; accepted = λ h. refl; refused = λ h. absurd (refused_fine (sym h)) }
begun_with_lem m (leaving (Err r) t) = record { as_before = refl; accepted = λ h. absurd (refused_fine h); refused = λ h. refl }

-- With a name of at most 32 bytes.
module _ (name : List ℕ) (short : length name ≤ 32) where
  pub composed_as_before : (table : List ℕ) (start : ℕ) (work rows : List ℕ) (n room : ℕ)
      → AsBefore (name_of name) (composed table start work rows n room) (named_composed table start work rows n room name)
  unfolding named_composed
  composed_as_before table start work rows n room = rw (le-leb (length name) 32 short) (made_with (name_of name) (composed table start work rows n room))

  pub enumerate_as_before : (table : List ℕ) (start : ℕ) (work orders : List ℕ) (n room : ℕ)
      → AsBefore (name_of name) (enumerates table start work orders n room) (named_enumerates table start work orders n room name)
  unfolding named_enumerates
  enumerate_as_before table start work orders n room = rw (le-leb (length name) 32 short) (made_with (name_of name) (enumerates table start work orders n room))

  pub begin_as_before : (table : List ℕ) (start room n : ℕ) → BegunAsBefore (name_of name) (begins table start room n) (named_begins table start room n name)
  unfolding named_begins
  begin_as_before table start room n = rw (le-leb (length name) 32 short) (begun_with_lem (name_of name) (begins table start room n))

-- With the name that the build was begun with, whatever stands there.
pub build_as_before : (t : List ℕ) (b : NamedBuilder) (w : List ℕ) → AsBefore b.name (builds t b.builder w) (named_builds t b w)
unfolding named_builds
build_as_before t b w = made_with b.name (builds t b.builder w)

-- These two have no name to keep: "an image read back, a flattened table and a subgroup have the empty name".
pub read_as_before : (image table : List ℕ) (start : ℕ) (work : List ℕ) → AsBefore no_name (read_image image table start work) (named_read image table start work)
unfolding named_read
read_as_before image table start work = made_with no_name (read_image image table start work)

pub flat_as_before : (from : List ℕ) (g : NamedGroup) (table : List ℕ) (start : ℕ) (work : List ℕ) (room : ℕ)
    → AsBefore no_name (flat from g.group table start work room) (named_flat from g table start work room)
unfolding named_flat
flat_as_before from g table start work room = made_with no_name (flat from g.group table start work room)

-- A subgroup's factor has it too: the calls on subgroups hand a factor out within a `Subgroup`, and `unnamed` makes its record.
pub subgroup_unnamed : (s : Subgroup) → ((unnamed_of s.factor).factor ≡ s.factor) × ((unnamed_of s.factor).name ≡ no_name)
subgroup_unnamed s = (refl, refl)
