-- What a place leaves as it was: an element that has a number keeps it, and there are no fewer.
use Prim.Native.Nat.{ℕ, ◌≤◌, ◌<◌}
use mathlib.Core.Path.{◌≡◌, refl, sym, ap, ◌∙◌}
use mathlib.Core.Bool.{Bool, true, false}
use mathlib.Core.List.{List}
use native.Mathlib.Omega.{arith}
use lib.ListN.{get_or}
use lib.Dec.{eqb}
use Rattle.egg.specs.Answers.{Counted, Reached}
use Rattle.std.specs.Prelude.{Ok, Err}
use Rattle.egg.specs.Table.{pick}
use Rattle.egg.proofs.Cells.{put_other}
use Rattle.build_reading.specs.Build.{set_step, adds}
use Rattle.build_reading.specs.Reading.{placed}
use Rattle.build_numbering.specs.Renumber.{no_number, Mapped, mapped, on_new, map_place}

abbrev outside_of : Mapped → List ℕ
outside_of (mapped p inn outw) = outw

-- The count, or d where it was refused.
abbrev count_or : ℕ → Mapped → ℕ
count_or d (mapped (placed (Ok c) t) inn outw) = c
count_or d (mapped (placed (Err r) t) inn outw) = d

module _ (t inn outw : List ℕ) (count x : ℕ) where
  new_keeps : (e : ℕ) (r : Reached) → e < count → get_or (outside_of (on_new r t inn outw count x)) e 0 ≡ get_or outw e 0
  new_keeps e (Ok y) h = put_other outw count x (λ q. omega arith)
  new_keeps e (Err r) h = refl

  new_more : (r : Reached) → count ≤ count_or count (on_new r t inn outw count x)
  new_more (Ok y) = omega arith
  new_more (Err r) = omega arith

module _ (t inn outw : List ℕ) (n room count e g x : ℕ) where
  keeps : e < count → get_or (outside_of (map_place t inn outw n room count e g x)) e 0 ≡ get_or outw e 0
  unfolding map_place
  keeps h = by (eqb (get_or inn x 0) no_number) where
    by : (b : Bool) → get_or (outside_of (pick b
        (on_new (adds t n room count (record { 0 = e }) (record { 0 = g })).answer (adds t n room count (record { 0 = e }) (record { 0 = g })).table inn outw count x)
        (mapped (placed (Ok count) (set_step t n (record { 0 = e }) (record { 0 = g }) (record { 0 = get_or inn x 0 }))) inn outw))) e 0 ≡ get_or outw e 0
    by true = new_keeps _ inn outw count x e (adds t n room count (record { 0 = e }) (record { 0 = g })).answer h
    by false = refl

  more : count ≤ count_or count (map_place t inn outw n room count e g x)
  unfolding map_place
  more = by (eqb (get_or inn x 0) no_number) where
    by : (b : Bool) → count ≤ count_or count (pick b
        (on_new (adds t n room count (record { 0 = e }) (record { 0 = g })).answer (adds t n room count (record { 0 = e }) (record { 0 = g })).table inn outw count x)
        (mapped (placed (Ok count) (set_step t n (record { 0 = e }) (record { 0 = g }) (record { 0 = get_or inn x 0 }))) inn outw))
    by true = new_more _ inn outw count x (adds t n room count (record { 0 = e }) (record { 0 = g })).answer
    by false = omega arith

  module _ {c : Counted} {t' inn' outw' : List ℕ} (q : mapped (placed c t') inn' outw' ≡ map_place t inn outw n room count e g x) where
    pub place_keeps : {at : ℕ} → e < count → at ≡ get_or outw e 0 → at ≡ get_or outw' e 0
    place_keeps h p = p ∙ sym (ap (λ (m : Mapped). get_or (outside_of m) e 0) q ∙ keeps h)

    pub place_more : {k : ℕ} → e < count → c ≡ Ok k → e < k
    place_more {k} h p =
        let q' : mapped (placed (Ok k) t') inn' outw' ≡ map_place t inn outw n room count e g x = rw (← p) q in
        let z : k ≡ count_or count (map_place t inn outw n room count e g x) = ap (count_or count) q' in
        let m : count ≤ count_or count (map_place t inn outw n room count e g x) = more in
        omega arith
