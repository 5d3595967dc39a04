-- Numbering in order of first appearance, into a table and two maps. Document 01, module 6: "Numbering in order of first appearance; two maps";
-- orders 12 and 13 ask for the same. The source is a step on a set outside, whose elements are numbered, or a refusal (17) where it reads a number
-- that is out of range.
use Rattle.std.specs.Prelude.{ℕ, zero, suc, ◌+◌, List, get_or, replicate, ltb, eqb}
use Rattle.egg.specs.Answers.{Reached}
use Rattle.std.specs.Prelude.{Ok, Err}
use Rattle.egg.specs.Table.{pick, put_at}
use Rattle.build_reading.specs.Build.{set_step, adds}
use Rattle.build_reading.specs.Reading.{Placed, placed}

-- "`Not in the subgroup` is 4,294,967,295 in the map, which is no element number."
abbrev pub no_number : ℕ
no_number = 4294967295

-- What a numbering comes to: what a reading comes to, the map `inn` from outside to the numbers, and the map `outw` from the numbers to outside.
pub data Mapped : Type 0 where
  mapped : Placed → List ℕ → List ℕ → Mapped

-- What comes after it: f goes on from a count with its table and maps, and a refusal stands.
abbrev pub then_mapped : Mapped → (ℕ → List ℕ → List ℕ → List ℕ → Mapped) → Mapped
then_mapped (mapped (placed (Ok c) t) inn outw) f = f c t inn outw
then_mapped (mapped (placed (Err r) t) inn outw) f = mapped (placed (Err r) t) inn outw

-- What the outside element x comes to that was to be added, by what adding it answered: it has the count for its number, in both maps.
abbrev pub on_new : Reached → List ℕ → List ℕ → List ℕ → ℕ → ℕ → Mapped
on_new (Ok e) t inn outw count x = mapped (placed (Ok (count + 1)) t) (put_at inn x count) (put_at outw count x)
on_new (Err r) t inn outw count x = mapped (placed (Err r) t) inn outw

-- One place (e, g), from which the source leads to the outside element x, with `count` elements known: where x has a number, that is set, else x gets
-- the next.
unfoldable pub map_place : (t inn outw : List ℕ) (n room count e g x : ℕ) → Mapped
map_place t inn outw n room count e g x =
    pick (eqb (get_or inn x 0) no_number)
    (on_new (adds t n room count (record { 0 = e }) (record { 0 = g })).answer (adds t n room count (record { 0 = e }) (record { 0 = g })).table inn outw count x)
    (mapped (placed (Ok count) (set_step t n (record { 0 = e }) (record { 0 = g }) (record { 0 = get_or inn x 0 }))) inn outw)

-- The same by what the source has answered: a refusal stands.
abbrev pub map_from : Reached → List ℕ → List ℕ → List ℕ → ℕ → ℕ → ℕ → ℕ → ℕ → Mapped
map_from (Ok x) t inn outw n room count e g = map_place t inn outw n room count e g x.0
map_from (Err r) t inn outw n room count e g = mapped (placed (Err r) t) inn outw

-- The k places of row e from generator g on, in order.
unfoldable pub map_row : (k : ℕ) (source : ℕ → ℕ → Reached) (n room e g count : ℕ) (t inn outw : List ℕ) → Mapped
map_row zero source n room e g count t inn outw = mapped (placed (Ok count) t) inn outw
map_row (suc k) source n room e g count t inn outw =
    then_mapped (map_from (source (get_or outw e 0) g) t inn outw n room count e g) (λ c t' inn' outw'. map_row k source n room e (g + 1) c t' inn' outw')

-- The rows from e on, while e is an element that is known; k of them at most.
unfoldable pub map_rows : (k : ℕ) (source : ℕ → ℕ → Reached) (n room e count : ℕ) (t inn outw : List ℕ) → Mapped
map_rows zero source n room e count t inn outw = mapped (placed (Ok count) t) inn outw
map_rows (suc k) source n room e count t inn outw =
    pick (ltb e count)
    (then_mapped (map_row n source n room e 0 count t inn outw) (λ c t' inn' outw'. map_rows k source n room (e + 1) c t' inn' outw'))
    (mapped (placed (Ok count) t) inn outw)

-- The whole numbering, from x₀ alone, which is element 0, with maps of M and K numbers: before it no other outside element has a number, and the
-- other map is zero.
abbrev pub map_all : (source : ℕ → ℕ → Reached) (n room M K x₀ : ℕ) (t : List ℕ) → Mapped
map_all source n room M K x₀ t = map_rows room source n room 0 1 t (put_at (replicate M no_number) x₀ 0) (put_at (replicate K 0) 0 x₀)
