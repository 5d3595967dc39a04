-- Laws of a reading: one for each way in which a place ends, and one for each way in which a turn over a row's places and over the rows ends.
use Prim.Native.Nat.{ℕ, suc, ◌+◌, ◌-◌, ◌≤◌, ◌<◌}
use mathlib.Core.Path.{◌≡◌, refl, sym}
use mathlib.Core.Bool.{Bool, true, false}
use mathlib.Core.List.{List}
use native.Mathlib.Omega.{arith}
use borrow.Author.Tests.{lt-ltb, le-ltb, leb-true, leb-false}
use lib.Dec.{leb}
use Rattle.egg.specs.declared.Refusal.{Refusal}
use Rattle.egg.specs.declared.GroupElementId.{GroupElementId}
use Rattle.egg.specs.declared.GeneratorId.{GeneratorId}
use Rattle.egg.specs.Answers.{Counted, Reached}
use Rattle.std.specs.Prelude.{Ok, Err}
use Rattle.build_reading.specs.Build.{set_step, adds}
use Rattle.egg.specs.Answers.{numbered}
use Rattle.build_reading.proofs.Laws.{adds_full, parts}
use Rattle.build_reading.specs.Reading.{Placed, placed, then_placed, read_place, read_row, read_from}

-- What goes on alike comes to the same.
pub then_same : (p : Placed) {f f' : ℕ → List ℕ → Placed} → ((c : ℕ) (t : List ℕ) → f c t ≡ f' c t) → then_placed p f ≡ then_placed p f'
then_same (placed (Ok c) t) h = h c t
then_same (placed (Err r) t) h = refl

-- An element is added only within the room.
pub added_within : (t : List ℕ) (n room count : ℕ) (e : GroupElementId) (g : GeneratorId) {a : Reached} {x : GroupElementId}
    → a ≡ (adds t n room count e g).answer → a ≡ Ok x → count < room
added_within t n room count e g {a} {x} q s = by (leb room count) refl where
  by : (b : Bool) → leb room count ≡ b → count < room
  by false h = leb-false _ _ h
  by true h =
      let p : (adds t n room count e g).answer ≡ Err (numbered 5 e.0 g.0 0) = sym (parts (adds_full t n room count e g (leb-true _ _ h))).0 in
      let z : ◌≡◌ {A = ℕ} 0 1 = cc in
      absurd (omega arith)

module _ (t : List ℕ) (n room count e g v : ℕ) where
  pub place_beyond : count < v → placed (Err (numbered 7 e g v)) t ≡ read_place t n room count e g v
  unfolding read_place
  place_beyond h = simp (lt-ltb _ _ h)

  pub place_known : v < count
      → placed (Ok count) (set_step t n (record { 0 = e }) (record { 0 = g }) (record { 0 = v })) ≡ read_place t n room count e g v
  unfolding read_place
  place_known h = let k : v ≤ count = omega arith in simp (le-ltb _ _ k, lt-ltb _ _ h)

  module _ (h : v ≤ count) (k : count ≤ v) {a : Reached} {l : List ℕ}
      (q : a ≡ (adds t n room count (record { 0 = e }) (record { 0 = g })).answer)
      (p : l ≡ (adds t n room count (record { 0 = e }) (record { 0 = g })).table)
    where
      pub place_refused : {r : Refusal} → a ≡ Err r → placed (Err r) l ≡ read_place t n room count e g v
      unfolding read_place
      place_refused s = simp (le-ltb _ _ h, le-ltb _ _ k) (rw (← q, ← p, s))

      pub place_new : {x : GroupElementId} → a ≡ Ok x → placed (Ok (count + 1)) l ≡ read_place t n room count e g v
      unfolding read_place
      place_new s = simp (le-ltb _ _ h, le-ltb _ _ k) (rw (← q, ← p, s))

module _ (src : ℕ → ℕ → ℕ) (n room e g count : ℕ) (t : List ℕ) where
  module _ (h : g < n) {v : ℕ} (w : v ≡ src e g) {c : Counted} {l : List ℕ} (s : placed c l ≡ read_place t n room count e g v) where
    pub row_next : {k : ℕ} → c ≡ Ok k → read_row (n - g) src n room e g count t ≡ read_row (n - (g + 1)) src n room e (g + 1) k l
    unfolding read_row
    row_next q = let d : n - g ≡ suc (n - (g + 1)) = omega arith in rw (d, ← w, ← s, q)

    pub row_stop : {r : Refusal} → c ≡ Err r → placed c l ≡ read_row (n - g) src n room e g count t
    unfolding read_row
    row_stop q = let d : n - g ≡ suc (n - (g + 1)) = omega arith in rw (d, ← w, ← s, q)

  pub row_end : n ≤ g → placed (Ok count) t ≡ read_row (n - g) src n room e g count t
  unfolding read_row
  row_end h = let d : n - g ≡ 0 = omega arith in rw d

module _ (src : ℕ → ℕ → ℕ) (n room e count : ℕ) (t : List ℕ) where
  module _ (h : e < room) where
    pub rows_done : count ≤ e → placed (Ok count) t ≡ read_from (room - e) src n room e count t
    unfolding read_from
    rows_done z = let d : room - e ≡ suc (room - (e + 1)) = omega arith in rw d (simp (le-ltb _ _ z))

    module _ (z : e < count) {c : Counted} {l : List ℕ} (s : placed c l ≡ read_row n src n room e 0 count t) where
      pub rows_next : {k : ℕ} → c ≡ Ok k → read_from (room - e) src n room e count t ≡ read_from (room - (e + 1)) src n room (e + 1) k l
      unfolding read_from
      rows_next q = let d : room - e ≡ suc (room - (e + 1)) = omega arith in rw d (simp (lt-ltb _ _ z) (rw (← s, q)))

      pub rows_stop : {r : Refusal} → c ≡ Err r → placed c l ≡ read_from (room - e) src n room e count t
      unfolding read_from
      rows_stop q = let d : room - e ≡ suc (room - (e + 1)) = omega arith in rw d (simp (lt-ltb _ _ z) (rw (← s, q)))

  pub rows_end : room ≤ e → placed (Ok count) t ≡ read_from (room - e) src n room e count t
  unfolding read_from
  rows_end h = let d : room - e ≡ 0 = omega arith in rw d
