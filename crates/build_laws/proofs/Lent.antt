-- What a call lends and gets back: a stretch of the table buffer and one of the work. What holds of the build in its stretches holds of the call.
use Rattle.egg.specs.Answers.{answer_of}
use Prim.Native.Nat.{ℕ, ◌+◌, ◌-◌, ◌≤◌, ◌<◌}
use mathlib.Core.Path.{◌≡◌, refl, sym, ap, ◌∙◌}
use mathlib.Core.Logic.{◌⊎◌, inl, inr}
use mathlib.Core.Bool.{true}
use mathlib.Core.List.{List, ◌++◌}
use native.Mathlib.Nat.{min-le_left, le_refl}
use native.Mathlib.Omega.{arith}
use borrow.Author.Tests.{le-leb, leb-true}
use lib.ListN.{length, get_or, take, drop, length-append, length-take, length-drop, get_or-append}
use lib.Seq.{length-take-le, take_at, drop_at, get_or-take, get_or-drop, get_or-append-add, ext_get_or}
use Rattle.egg.specs.declared.Refusal.{Refusal}
use Rattle.egg.specs.declared.Factor.{Factor}
use Rattle.egg.specs.Answers.{Made, fine}
use Rattle.std.specs.Prelude.{Ok, Err}
use Rattle.egg.specs.Factor.{has_room, fits_in, stretch}
use Rattle.egg.proofs.Rooms.{within_length}
use Rattle.build_lending.specs.Finish.{Built, built}
use Rattle.build_lending.specs.Lending.{table_need, work_need, lent_right, within, making, lent_back}
use Rattle.build_lending.proofs.Lending.{lent_enough}

-- Past the end of the first list.
append_past : (p q : List ℕ) (k j : ℕ) → length p ≡ k → get_or (p ++ q) (k + j) 0 ≡ get_or q j 0
append_past p q k j h = rw (← h) (get_or-append-add p q j 0)

-- A list with a part of itself replaced by one as long: its length, the part, and the part's numbers.
module _ (l : List ℕ) (a k : ℕ) (fits : a + k ≤ length l) (p : List ℕ) (size : length p ≡ k) where
  pub within_long : length (within l a (a + k) p) ≡ length l
  unfolding within
  within_long = simp (length-append, length-drop, length-take-le a l (omega arith)) (omega arith)

  pub within_part : take k (drop a (within l a (a + k) p)) ≡ p
  unfolding within
  within_part =
      rw (drop_at (take a l) (p ++ drop (a + k) l) a (length-take-le a l (omega arith))) (take_at p (drop (a + k) l) k size)

  pub within_cell : (i : ℕ) → i < k → get_or (within l a (a + k) p) (a + i) 0 ≡ get_or p i 0
  within_cell i h =
      sym (get_or-drop a (within l a (a + k) p) i 0) ∙ sym (get_or-take k (drop a (within l a (a + k) p)) i 0 h)
      ∙ ap (λ (x : List ℕ). get_or x i 0) within_part

  -- The cells before and after it, and any stretch that does not overlap it, are as they were.
  pub within_before : (i : ℕ) → i < a → get_or (within l a (a + k) p) i 0 ≡ get_or l i 0
  unfolding within
  within_before i h =
      let long : length (take a l) ≡ a = length-take-le a l (omega arith) in
      get_or-append (take a l) (p ++ drop (a + k) l) 0 i (rw long h) ∙ get_or-take a l i 0 h

  pub within_after : (i : ℕ) → a + k ≤ i → get_or (within l a (a + k) p) i 0 ≡ get_or l i 0
  unfolding within
  within_after i h =
      let j = i - (a + k) in
      let e : i ≡ a + (k + j) = omega arith in
      let d : a + k + j ≡ a + (k + j) = omega arith in
      rw e (append_past (take a l) (p ++ drop (a + k) l) a (k + j) (length-take-le a l (omega arith))
      ∙ append_past p (drop (a + k) l) k j size ∙ get_or-drop (a + k) l j 0 ∙ ap (λ (x : ℕ). get_or l x 0) d)

  -- A stretch that does not overlap the part is as it was.
  pub within_apart : (b m : ℕ) → (a + k ≤ b) ⊎ (b + m ≤ a) → take m (drop b (within l a (a + k) p)) ≡ take m (drop b l)
  within_apart b m apart = ext_get_or 0 (take m (drop b (within l a (a + k) p))) (take m (drop b l)) long cells where
    whole : length (within l a (a + k) p) ≡ length l
    whole = within_long

    long : length (take m (drop b (within l a (a + k) p))) ≡ length (take m (drop b l))
    long = simp (length-take, length-drop, whole)

    cell : (i : ℕ) → i < m → get_or (within l a (a + k) p) (b + i) 0 ≡ get_or l (b + i) 0
    cell i h = by apart where
      by : (a + k ≤ b) ⊎ (b + m ≤ a) → get_or (within l a (a + k) p) (b + i) 0 ≡ get_or l (b + i) 0
      by (inl q) = within_after (b + i) (omega arith)
      by (inr q) = within_before (b + i) (omega arith)

    cells : (i : ℕ) → i < length (take m (drop b (within l a (a + k) p))) → get_or (take m (drop b (within l a (a + k) p))) i 0 ≡ get_or (take m (drop b l)) i 0
    cells i h =
        let hm : i < m = omega (arith, length-take m (drop b (within l a (a + k) p)), min-le_left m (length (drop b (within l a (a + k) p)))) in
        get_or-take m (drop b (within l a (a + k) p)) i 0 hm ∙ get_or-drop b (within l a (a + k) p) i 0 ∙ cell i hm
        ∙ sym (get_or-drop b l i 0) ∙ sym (get_or-take m (drop b l) i 0 hm)

abbrev pub handle : ℕ → ℕ → ℕ → ℕ → Factor
handle start n room N = record { start = start; room = room; generators = n; elements = N }

abbrev pub lent_table : List ℕ → ℕ → ℕ → ℕ → List ℕ → List ℕ
lent_table table start n room s = within table start (start + table_need n room) s

-- The part of the work that is lent is as long as is needed.
module _ (table : List ℕ) (start : ℕ) (work : List ℕ) (n room : ℕ) (lent : lent_right (length table) start (length work) room n ≡ true) where
  pub work_taken : length (take (work_need n room) work) ≡ work_need n room
  work_taken = length-take-le (work_need n room) work (leb-true _ _ (lent_enough (length table) start (length work) room n lent))

  pub taken_enough : work_need n room ≤ length (take (work_need n room) work)
  taken_enough = rw work_taken (le_refl (work_need n room))

module _ (table : List ℕ) (start n room : ℕ) (has : has_room (length table) start room n ≡ true) (s : List ℕ) (size : length s ≡ table_need n room) (N : ℕ) where
  end_fits : start + table_need n room ≤ length table
  end_fits = within_length (length table) start room n has

  pub stretch_part : stretch (lent_table table start n room s) (handle start n room N) ≡ s
  unfolding stretch
  stretch_part = within_part table start (table_need n room) end_fits s size

  pub stretch_cell : (i : ℕ) → i < table_need n room → get_or (lent_table table start n room s) (start + i) 0 ≡ get_or s i 0
  stretch_cell = within_cell table start (table_need n room) end_fits s size

  pub fits_still : 1 ≤ N → N ≤ room → fits_in (length (lent_table table start n room s)) (handle start n room N) ≡ true
  unfolding fits_in
  fits_still one most = rw (within_long table start (table_need n room) end_fits s size) (simp (le-leb _ _ one, le-leb _ _ most, has))

-- A verdict that is a refusal is no acceptance.
pub refused_making_lem : {r : Refusal} {f : Factor} {t t' w w' : List ℕ} → making (Err r) t w ≡ making (Ok f) t' w' → ⊥
refused_making_lem {r} {f} h =
    let m : ◌≡◌ {A = Made} (Err r) (Ok f) = cc in
    let a : Err r ≡ fine = ap (λ (x : Made). answer_of x) m in
    let z : ◌≡◌ {A = ℕ} 0 1 = cc in
    omega arith

module _ (table : List ℕ) (start : ℕ) (work : List ℕ) (n room : ℕ) where
  -- An accepted call is an accepted build.
  pub by_build : (b : Built) {f : Factor} {t w : List ℕ}
      → lent_back table start work n room b ≡ making (Ok f) t w
      → (N : ℕ) × (s : List ℕ) × (v : List ℕ)
      × ((b ≡ built (Ok N) s v) × ((f ≡ handle start n room N)
      × ((t ≡ within table start (start + table_need n room) s) × (w ≡ within work 0 (work_need n room) v))))
  by_build (built (Ok N) s v) {f} q =
      let m : ◌≡◌ {A = Made} (Ok (handle start n room N)) (Ok f) = cc in
      let e : f ≡ handle start n room N = cc in
      (N, s, v, (refl, (e, (cc, cc))))
  by_build (built (Err r) s v) q = absurd (refused_making_lem q)

  -- And a refused call whose stretches were lent is a refused build.
  pub by_refused : (b : Built) {r : Refusal} {t w : List ℕ}
      → lent_back table start work n room b ≡ making (Err r) t w
      → (s : List ℕ) × (v : List ℕ) × (b ≡ built (Err r) s v)
      × (t ≡ within table start (start + table_need n room) s) × (w ≡ within work 0 (work_need n room) v)
  by_refused (built (Ok N) s v) q = absurd (refused_making_lem (sym q))
  by_refused (built (Err s) t₁ v) {r} q =
      let m : ◌≡◌ {A = Made} (Err s) (Err r) = cc in
      let e : s ≡ r = cc in
      (t₁, v, ap (λ (x : Refusal). built (Err x) t₁ v) e, cc, cc)
