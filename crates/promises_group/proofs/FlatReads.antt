-- Reading by the product's steps goes as reading from the numbers that are read does, whatever the factors' stretches hold, up to the first step that cannot be
-- read: there the one is refused by 17, and the other by 7.
use Prim.Native.Nat.{ℕ, zero, suc, ◌+◌, ◌-◌, ◌/◌, ◌%◌, ◌≤◌, ◌<◌}
use mathlib.Core.Path.{◌≡◌, refl, sym, ap, ◌∙◌, subst}
use mathlib.Core.Bool.{Bool, true, false}
use mathlib.Core.List.{List, [], ◌∷◌}
use native.Mathlib.Omega.{arith}
use borrow.Author.Tests.{ltb-false, leb-false}
use lib.Dec.{eqb, ltb, leb}
use lib.ListN.{length, get_or, replicate, length-replicate}
use Rattle.egg.specs.declared.Refusal.{Refusal}
use Rattle.egg.specs.declared.Factor.{Factor}
use Rattle.egg.specs.declared.GroupElementId.{GroupElementId}
use Rattle.egg.specs.declared.GeneratorId.{GeneratorId}
use Rattle.egg.specs.Answers.{Reached}
use Rattle.std.specs.Prelude.{Ok, Err}
use Rattle.egg.specs.Table.{pick, start_of, length_of}
use Rattle.egg.specs.Factor.{stretch, refused_reach, read_step}
use Rattle.build_reading.specs.Build.{set_step, set_word, Adds, adds}
use Rattle.egg.specs.Answers.{numbered, on_reached}
use Rattle.build_reading.specs.Reading.{Placed, placed, then_placed, on_adds, read_place, read_row, read_from, read_all}
use Rattle.build_reading_laws.proofs.ReadingState.{place_skip}
use Rattle.build_lending.specs.Finish.{built, zeroed, finished, finished_placed}
use Rattle.factor_laws.specs.Accepted.{reach}
use Rattle.promises.proofs.ReadLengths.{placed_table, place_length}
use Rattle.group_handles.specs.Handles.{generators_of}
use Rattle.group_digits.specs.Digits.{step_in}
use Rattle.group_flatten.specs.Flat.{place_by, row_by, rows_by, flat_in}
use Rattle.promises_group.specs.Flattening.{number_read, step_number, StepsAnswered}

-- An answer that is no refusal but 17, which has no places.
data Only17 : Reached → Type 0 where
  element : (e : GroupElementId) → Only17 (Ok e)
  refusal : Only17 (refused_reach 17 0)

on_17 : {f : ℕ → Reached} {r : Reached} → Only17 r → ((y : ℕ) → Only17 (f y)) → Only17 (on_reached r f)
on_17 (element e) h = h e.0
on_17 refusal h = refusal

pick_17 : (b : Bool) {x y : Reached} → Only17 x → Only17 y → Only17 (pick b x y)
pick_17 true p q = p
pick_17 false p q = q

read_17 : (s : List ℕ) (n count e g : ℕ) → Only17 (read_step s n count e g)
unfolding read_step
read_17 s n count e g =
    pick_17 (eqb (get_or s (start_of n e + g) 0) 0) refusal
    (pick_17 (ltb count (get_or s (start_of n e + g) 0)) refusal (element _))

-- A step by one of the product's generators.
step_17 : (t : List ℕ) (hs : List Factor) (e x : ℕ) → x < generators_of hs → Only17 (step_in t hs e x)
unfolding step_in
step_17 t [] e x k = absurd (omega arith)
step_17 t (h ∷ hs) e x k = by (λ z. step_17 t hs (e / h.elements) (x - h.generators) z) (ltb x h.generators) refl where
  by : (x - h.generators < generators_of hs → Only17 (step_in t hs (e / h.elements) (x - h.generators))) → (b : Bool) → ltb x h.generators ≡ b
      → Only17 (step_in t (h ∷ hs) e x)
  by i true q = rw q (on_17 (read_17 (stretch t h) h.generators h.elements (e % h.elements) x) (λ y. element _))
  by i false q = let z : h.generators ≤ x = ltb-false x h.generators q in rw q (on_17 (i (omega arith)) (λ y. element _))

module _ (from : List ℕ) (hs : List Factor) (room size : ℕ) where
  -- The count is within the room and the table as long as it was; a refusal by 7 has the product's own number.
  abbrev Fair : Placed → Type 0
  Fair (placed (Ok c) t) = (c ≤ room) × (length t ≡ size)
  Fair (placed (Err r) t) = StepsAnswered from hs r

  -- Two readings go the same way; or the first is stopped by 17, where the second meets a number beyond every count.
  data Came (p q : Placed) : Type 0 where
    same : p ≡ q → Fair q → Came p q
    stopped : (t : List ℕ) (e x : ℕ) → p ≡ placed (Err (numbered 17 0 0 0)) t → q ≡ placed (Err (numbered 7 e x 65536)) t
        → step_in from hs e x ≡ refused_reach 17 0 → length t ≡ size → Came p q

  came_then : (p : Placed) {f f' : ℕ → List ℕ → Placed} → Fair p → ((c : ℕ) (t : List ℕ) → c ≤ room → length t ≡ size → Came (f c t) (f' c t))
      → Came (then_placed p f) (then_placed p f')
  came_then (placed (Ok c) t) h rest = rest c t h.0 h.1
  came_then (placed (Err r) t) h rest = same refl h

  came_both : {p q : Placed} {f f' : ℕ → List ℕ → Placed} → Came p q → ((c : ℕ) (t : List ℕ) → c ≤ room → length t ≡ size → Came (f c t) (f' c t))
      → Came (then_placed p f) (then_placed q f')
  came_both {p} {q} {f} {f'} (same e h) rest = subst (λ (x : Placed). Came (then_placed x f) (then_placed q f')) (sym e) (came_then q h rest)
  came_both {f = f} {f'} (stopped t e x a b s l) rest =
      stopped t e x (ap (λ (y : Placed). then_placed y f) a) (ap (λ (y : Placed). then_placed y f') b) s l

  came_pick : (b : Bool) {p q p' q' : Placed} → Came p q → Came p' q' → Came (pick b p p') (pick b q q')
  came_pick true a b = a
  came_pick false a b = b

  -- One place whose number was answered.
  Told : Placed → Type 0
  Told (placed (Ok c) t) = c ≤ room
  Told (placed (Err r) t) = StepsAnswered from hs r

  told_fair : (p : Placed) → length (placed_table p) ≡ size → Told p → Fair p
  unfolding Told
  told_fair (placed (Ok c) t) l h = (h, l)
  told_fair (placed (Err r) t) l h = h

  place_told : (t : List ℕ) (n count e x v : ℕ) → count ≤ room → step_in from hs e x ≡ reach v → Told (read_place t n room count e x v)
  unfolding Told read_place adds
  place_told t n count e x v h s = by (ltb count v) (ltb v count) (leb room count) refl (leb 4096 (length_of t n e)) where
    ident : GroupElementId
    ident = record { 0 = e }

    gen : GeneratorId
    gen = record { 0 = x }

    new : GroupElementId
    new = record { 0 = count }

    by : (a b c : Bool) → leb room count ≡ c → (d : Bool)
        → Told (pick {A = Placed} a (placed (Err (numbered 7 e x v)) t)
        (pick b (placed (Ok count) (set_step t n ident gen (record { 0 = v })))
        (on_adds count
        (pick {A = Adds} c (record { answer = Err (numbered 5 e x 0); table = t })
        (pick d (record { answer = Err (numbered 6 e x 0); table = t })
        (record { answer = Ok new; table = set_step (set_word t n new ident gen (length_of t n e + 1)) n ident gen new }))).answer
        (pick {A = Adds} c (record { answer = Err (numbered 5 e x 0); table = t })
        (pick d (record { answer = Err (numbered 6 e x 0); table = t })
        (record { answer = Ok new; table = set_step (set_word t n new ident gen (length_of t n e + 1)) n ident gen new }))).table)))
    by true b c q d = λ k. s
    by false true c q d = h
    by false false true q d = λ k. absurd (omega arith)
    by false false false q true = λ k. absurd (omega arith)
    by false false false q false = let m = leb-false room count q in omega arith

  module _ (hi : room ≤ 65535) where
    came_place : (t : List ℕ) (n count e x : ℕ) → count ≤ room → length t ≡ size → {s : Reached} → Only17 s → step_in from hs e x ≡ s → {f f' : ℕ → List ℕ → Placed}
        → ((c : ℕ) (l : List ℕ) → c ≤ room → length l ≡ size → Came (f c l) (f' c l))
        → Came (then_placed (place_by t n room count e x s) f) (then_placed (read_place t n room count e x (number_read s)) f')
    came_place t n count e x h long (element v) q rest =
        came_then (read_place t n room count e x v.0)
        (told_fair (read_place t n room count e x v.0) (place_length t n room count e x v.0 ∙ long) (place_told t n count e x v.0 h q)) rest
    came_place t n count e x h long refusal q {f} {f'} rest =
        stopped t e x refl (ap (λ (y : Placed). then_placed y f') (place_skip t n room count e x 65536 (omega arith))) q long

    came_row : (k e g count : ℕ) (t : List ℕ) → g + k ≤ generators_of hs → count ≤ room → length t ≡ size
        → Came (row_by k (step_in from hs) (generators_of hs) room e g count t) (read_row k (step_number from hs) (generators_of hs) room e g count t)
    unfolding row_by read_row
    came_row zero e g count t h c long = same refl (c, long)
    came_row (suc k) e g count t h c long =
        came_place t (generators_of hs) count e g c long (step_17 from hs e g (omega arith)) refl
        (λ d l y z. came_row k e (g + 1) d l (omega arith) y z)

    came_rows : (k e count : ℕ) (t : List ℕ) → count ≤ room → length t ≡ size
        → Came (rows_by k (step_in from hs) (generators_of hs) room e count t) (read_from k (step_number from hs) (generators_of hs) room e count t)
    unfolding rows_by read_from
    came_rows zero e count t c long = same refl (c, long)
    came_rows (suc k) e count t c long =
        came_pick (ltb e count)
        (came_both (came_row (generators_of hs) e 0 count t (omega arith) c long) (λ d l y z. came_rows k (e + 1) d l y z))
        (same refl (c, long))

-- The build is that of the numbers that are read, and where these are refused by 7 the number is the product's own; or a step is refused by 17, where the numbers
-- are refused by 7, and all is zero.
pub data Reads (from : List ℕ) (hs : List Factor) (room size : ℕ) (w : List ℕ) : Type 0 where
  by_numbers : flat_in size w from hs (generators_of hs) room ≡ finished_placed (read_all (step_number from hs) (generators_of hs) room (replicate size 0)) (generators_of hs) w
      → ((r : Refusal) (t : List ℕ) → read_all (step_number from hs) (generators_of hs) room (replicate size 0) ≡ placed (Err r) t → StepsAnswered from hs r)
      → Reads from hs room size w
  not_read : (e x : ℕ) (t : List ℕ) → step_in from hs e x ≡ refused_reach 17 0
      → read_all (step_number from hs) (generators_of hs) room (replicate size 0) ≡ placed (Err (numbered 7 e x 65536)) t
      → flat_in size w from hs (generators_of hs) room ≡ built (Err (numbered 17 0 0 0)) (replicate size 0) (zeroed w) → Reads from hs room size w

pub reads : (from : List ℕ) (hs : List Factor) (room size : ℕ) (w : List ℕ) → 1 ≤ room → room ≤ 65535 → Reads from hs room size w
unfolding flat_in finished
reads from hs room size w lo hi = by (came_rows from hs room size hi room 0 1 (replicate size 0) lo (length-replicate size 0)) where
  by : Came from hs room size (rows_by room (step_in from hs) (generators_of hs) room 0 1 (replicate size 0)) (read_all (step_number from hs) (generators_of hs) room (replicate size 0))
      → Reads from hs room size w
  by (same e h) = by_numbers (ap (λ (p : Placed). finished_placed p (generators_of hs) w) e) (λ r t q. subst (Fair from hs room size) q h)
  by (stopped t e x a b s long) =
      not_read e x t s b (ap (λ (p : Placed). finished_placed p (generators_of hs) w) a ∙ ap (λ (k : ℕ). built (Err (numbered 17 0 0 0)) (replicate k 0) (zeroed w)) long)
