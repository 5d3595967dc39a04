-- Reading a table of composed numbers. Document 01, module 3: "at (e,g), in order, a number below the count is set, the count itself is a new element,
-- more is 7." "During reading the order at one place is 7, 5, 6." The source of numbers is a function of element and generator.
use Rattle.std.specs.Prelude.{ℕ, zero, suc, ◌+◌, ◌*◌, List, get_or, ltb}
use Rattle.egg.specs.Answers.{Counted, Reached}
use Rattle.std.specs.Prelude.{Ok, Err}
use Rattle.egg.specs.Table.{pick}
use Rattle.build_reading.specs.Build.{set_step, adds}
use Rattle.egg.specs.Answers.{numbered}

-- What a reading comes to: the count of elements, or a refusal; and the table.
pub data Placed : Type 0 where
  placed : Counted → List ℕ → Placed

-- What comes after it: f goes on from a count and its table, and a refusal stands.
abbrev pub then_placed : Placed → (ℕ → List ℕ → Placed) → Placed
then_placed (placed (Ok c) t) f = f c t
then_placed (placed (Err r) t) f = placed (Err r) t

-- What a reading comes to where an element was to be added, by what adding it answered.
abbrev pub on_adds : ℕ → Reached → List ℕ → Placed
on_adds count (Ok e) t = placed (Ok (count + 1)) t
on_adds count (Err r) t = placed (Err r) t

-- One place (e, g), where the source has the number v, with `count` elements known.
unfoldable pub read_place : (t : List ℕ) (n room count e g v : ℕ) → Placed
read_place t n room count e g v =
    pick (ltb count v) (placed (Err (numbered 7 e g v)) t)
    (pick (ltb v count) (placed (Ok count) (set_step t n (record { 0 = e }) (record { 0 = g }) (record { 0 = v })))
    (on_adds count (adds t n room count (record { 0 = e }) (record { 0 = g })).answer (adds t n room count (record { 0 = e }) (record { 0 = g })).table))

-- The k places of row e from generator g on, in order.
unfoldable pub read_row : (k : ℕ) (src : ℕ → ℕ → ℕ) (n room e g count : ℕ) (t : List ℕ) → Placed
read_row zero src n room e g count t = placed (Ok count) t
read_row (suc k) src n room e g count t =
    then_placed (read_place t n room count e g (src e g)) (λ c t'. read_row k src n room e (g + 1) c t')

-- The rows from e on, while e is an element that is known; k of them at most. "Rows never reached are not read."
unfoldable pub read_from : (k : ℕ) (src : ℕ → ℕ → ℕ) (n room e count : ℕ) (t : List ℕ) → Placed
read_from zero src n room e count t = placed (Ok count) t
read_from (suc k) src n room e count t =
    pick (ltb e count) (then_placed (read_row n src n room e 0 count t) (λ c t'. read_from k src n room (e + 1) c t')) (placed (Ok count) t)

-- The whole reading, from the identity alone; the room bounds the rows, since it bounds the count.
abbrev pub read_all : (ℕ → ℕ → ℕ) → ℕ → ℕ → List ℕ → Placed
read_all src n room t = read_from room src n room 0 1 t

-- A lent list as a source: rows of n numbers, one after the other. "A composed list needs Rn entries."
abbrev pub composed_at : List ℕ → ℕ → ℕ → ℕ → ℕ
composed_at rows n e g = get_or rows (e * n + g) 0
