-- Laws of a numbering: one for each way in which a place ends, and one for each way in which a turn over a row's places and over the rows ends.
use Prim.Native.Nat.{ℕ, suc, ◌+◌, ◌-◌, ◌≤◌, ◌<◌}
use mathlib.Core.Path.{◌≡◌}
use mathlib.Core.List.{List}
use native.Mathlib.Omega.{arith}
use borrow.Author.Tests.{lt-ltb, le-ltb, eq-eqb, ne_eqb}
use lib.ListN.{get_or}
use Rattle.egg.specs.declared.Refusal.{Refusal}
use Rattle.egg.specs.declared.GroupElementId.{GroupElementId}
use Rattle.egg.specs.Answers.{Counted, Reached}
use Rattle.std.specs.Prelude.{Ok, Err}
use Rattle.egg.specs.Table.{put_at}
use Rattle.build_reading.specs.Build.{set_step, adds}
use Rattle.build_reading.specs.Reading.{placed}
use Rattle.build_numbering.specs.Renumber.{no_number, mapped, map_place, map_row, map_rows}

module _ (t inn outw : List ℕ) (n room count e g x : ℕ) {v : ℕ} (is : v ≡ get_or inn x 0) where
  -- It has a number.
  pub map_known : (v ≡ no_number → ⊥)
      → mapped (placed (Ok count) (set_step t n (record { 0 = e }) (record { 0 = g }) (record { 0 = v }))) inn outw ≡ map_place t inn outw n room count e g x
  unfolding map_place
  map_known f = rw (← is) (simp (ne_eqb v no_number f))

  module _ (no_number_lem : v ≡ no_number) {a : Reached} {l : List ℕ}
      (q : a ≡ (adds t n room count (record { 0 = e }) (record { 0 = g })).answer)
      (p : l ≡ (adds t n room count (record { 0 = e }) (record { 0 = g })).table)
    where
      -- It has none, and there is no room, or the word would be too long.
      pub map_refused : {r : Refusal} → a ≡ Err r → mapped (placed (Err r) l) inn outw ≡ map_place t inn outw n room count e g x
      unfolding map_place
      map_refused s = rw (← is) (simp (eq-eqb v no_number no_number_lem) (rw (← q, ← p, s)))

      -- It has none, and gets the next.
      pub map_new : {y : GroupElementId} → a ≡ Ok y
          → mapped (placed (Ok (count + 1)) l) (put_at inn x count) (put_at outw count x) ≡ map_place t inn outw n room count e g x
      unfolding map_place
      map_new s = rw (← is) (simp (eq-eqb v no_number no_number_lem) (rw (← q, ← p, s)))

-- A row of a source, in a loop: `whole` is what comes back from here on.
module _ (source : ℕ → ℕ → Reached) (n room e g count : ℕ) (t inn outw : List ℕ) where
  module _ (h : g < n) {a : Reached} (w : a ≡ source (get_or outw e 0) g) where
    -- The source has refused.
    pub map_source_stop : {r : Refusal} → a ≡ Err r → mapped (placed (Err r) t) inn outw ≡ map_row (n - g) source n room e g count t inn outw
    unfolding map_row
    map_source_stop s = let d : n - g ≡ suc (n - (g + 1)) = omega arith in rw (d, ← w, s)

    module _ {x : GroupElementId} (s : a ≡ Ok x) {c : Counted} {t' inn' outw' : List ℕ}
        (m : mapped (placed c t') inn' outw' ≡ map_place t inn outw n room count e g x.0) where
      pub map_row_next : {k : ℕ} → c ≡ Ok k
          → map_row (n - g) source n room e g count t inn outw ≡ map_row (n - (g + 1)) source n room e (g + 1) k t' inn' outw'
      unfolding map_row
      map_row_next q = let d : n - g ≡ suc (n - (g + 1)) = omega arith in rw (d, ← w, s, ← m, q)

      pub map_row_stop : {r : Refusal} → c ≡ Err r → mapped (placed c t') inn' outw' ≡ map_row (n - g) source n room e g count t inn outw
      unfolding map_row
      map_row_stop q = let d : n - g ≡ suc (n - (g + 1)) = omega arith in rw (d, ← w, s, ← m, q)

  pub map_row_end : n ≤ g → mapped (placed (Ok count) t) inn outw ≡ map_row (n - g) source n room e g count t inn outw
  unfolding map_row
  map_row_end h = let d : n - g ≡ 0 = omega arith in rw d

module _ (source : ℕ → ℕ → Reached) (n room e count : ℕ) (t inn outw : List ℕ) where
  module _ (h : e < room) where
    pub map_rows_done : count ≤ e → mapped (placed (Ok count) t) inn outw ≡ map_rows (room - e) source n room e count t inn outw
    unfolding map_rows
    map_rows_done z = let d : room - e ≡ suc (room - (e + 1)) = omega arith in rw d (simp (le-ltb _ _ z))

    module _ (z : e < count) {c : Counted} {t' inn' outw' : List ℕ}
        (s : mapped (placed c t') inn' outw' ≡ map_row n source n room e 0 count t inn outw) where
      pub map_rows_next : {k : ℕ} → c ≡ Ok k
          → map_rows (room - e) source n room e count t inn outw ≡ map_rows (room - (e + 1)) source n room (e + 1) k t' inn' outw'
      unfolding map_rows
      map_rows_next q = let d : room - e ≡ suc (room - (e + 1)) = omega arith in rw d (simp (lt-ltb _ _ z) (rw (← s, q)))

      pub map_rows_stop : {r : Refusal} → c ≡ Err r → mapped (placed c t') inn' outw' ≡ map_rows (room - e) source n room e count t inn outw
      unfolding map_rows
      map_rows_stop q = let d : room - e ≡ suc (room - (e + 1)) = omega arith in rw d (simp (lt-ltb _ _ z) (rw (← s, q)))

  pub map_rows_end : room ≤ e → mapped (placed (Ok count) t) inn outw ≡ map_rows (room - e) source n room e count t inn outw
  unfolding map_rows
  map_rows_end h = let d : room - e ≡ 0 = omega arith in rw d

-- What a source was asked, by the numbers that were read for it.
pub asked : (f : ℕ → ℕ → Reached) {a : Reached} {x x' y y' : ℕ} → x ≡ x' → y ≡ y' → a ≡ f x y → a ≡ f x' y'
asked f p q h = rw (← p, ← q) h
