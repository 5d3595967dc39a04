-- The names of a product as a C host passes them: records one after another, each as a call with a name has written it.
use Rattle.std.specs.Prelude.{ℕ, ◌≡◌, List, [], ◌∷◌, ◌++◌, length, take}
use Rattle.capi_values.specs.Bridge.{Telling, telling}
use Rattle.names_values.specs.declared.Name.{Name}
use Rattle.capi_names.specs.Names.{record_of}

-- The records, in the order of the factors.
unfoldable pub records_of : List Name → List ℕ
records_of [] = []
records_of (m ∷ ms) = record_of m ++ records_of ms

-- Each name has its 32 bytes, as the type of the value says.
pub data Whole : List Name → Type 0 where
  none : Whole []
  more : {m : Name} {ms : List Name} → length m.bytes ≡ 32 → Whole ms → Whole (m ∷ ms)

-- What a C function with a name leaves, the record aside: of the k lists before it, as the function without a name has them.
abbrev pub record_aside : ℕ → Telling → Telling
record_aside k (telling r out lent) = telling r out (take k lent)
