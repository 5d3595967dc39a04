-- A C function with a name leaves, the record aside, what the one without a name leaves.
use Prim.Native.Nat.{ℕ, ◌≤◌}
use mathlib.Core.Path.{◌≡◌, refl}
use mathlib.Core.List.{List}
use borrow.Author.Tests.{le-leb}
use lib.ListN.{length}
use Rattle.std.specs.Prelude.{Ok, Err}
use Rattle.build_lending.specs.Lending.{Making, making}
use Rattle.builder.specs.Answers.{Begun}
use Rattle.builder.specs.Calls.{Leaving, leaving, begins}
use Rattle.factor.specs.Composed.{composed}
use Rattle.enumeration.specs.Calls.{enumerates}
use Rattle.capi_values.specs.Bridge.{bridged}
use Rattle.capi_builder.specs.Answers.{begun_told}
use Rattle.names_values.specs.declared.Name.{Name}
use Rattle.names_values.specs.Names.{name_of}
use Rattle.names.specs.Making.{with_name, named_composed, named_enumerates, named_begun, named_begins}
use Rattle.capi_names.specs.Told.{named_told, named_begun_told}
use Rattle.promises_capi.specs.Records.{record_aside}

made_aside : (m : Name) (x : Making) (out kept : List ℕ) → record_aside 2 (named_told (with_name m x) out kept) ≡ bridged x out
made_aside m (making (Ok f) t w) out kept = refl
made_aside m (making (Err r) t w) out kept = refl

begun_aside_lem : (m : Name) (x : Leaving Begun) (out kept : List ℕ) → record_aside 1 (named_begun_told (named_begun m x) out kept) ≡ begun_told x out
begun_aside_lem m (leaving (Ok b) t) out kept = refl
begun_aside_lem m (leaving (Err r) t) out kept = refl

module _ (name : List ℕ) (short : length name ≤ 32) (out kept : List ℕ) where
  pub hg_composed_aside : (table : List ℕ) (start : ℕ) (work rows : List ℕ) (n room : ℕ)
      → record_aside 2 (named_told (named_composed table start work rows n room name) out kept) ≡ bridged (composed table start work rows n room) out
  unfolding named_composed
  hg_composed_aside table start work rows n room = rw (le-leb (length name) 32 short) (made_aside (name_of name) (composed table start work rows n room) out kept)

  pub hg_enumerate_aside : (table : List ℕ) (start : ℕ) (work orders : List ℕ) (n room : ℕ)
      → record_aside 2 (named_told (named_enumerates table start work orders n room name) out kept) ≡ bridged (enumerates table start work orders n room) out
  unfolding named_enumerates
  hg_enumerate_aside table start work orders n room = rw (le-leb (length name) 32 short) (made_aside (name_of name) (enumerates table start work orders n room) out kept)

  pub hg_begin_aside : (table : List ℕ) (start room n : ℕ) → record_aside 1 (named_begun_told (named_begins table start room n name) out kept) ≡ begun_told (begins table start room n) out
  unfolding named_begins
  hg_begin_aside table start room n = rw (le-leb (length name) 32 short) (begun_aside_lem (name_of name) (begins table start room n) out kept)
