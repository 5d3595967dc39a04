-- Laws of the reading by a source that may refuse, of its counts, and of the call above it.
use Prim.Native.Nat.{ℕ, zero, suc, ◌+◌, ◌-◌, ◌≤◌, ◌<◌}
use mathlib.Core.Path.{◌≡◌, refl, sym, ap, ◌∙◌, subst}
use mathlib.Core.Bool.{Bool, true, false}
use mathlib.Core.List.{List, ◌++◌}
use native.Mathlib.Omega.{arith}
use borrow.Author.Tests.{lt-ltb, le-ltb, ltb-false}
use borrow.Rule.Slice.PartMut.{mid_of, put_mid}
use lib.ListN.{length, take, drop, replicate}
use lib.Dec.{ltb}
use Rattle.egg.specs.declared.Factor.{Factor}
use Rattle.egg.specs.Answers.{Counted, Made, Reached, Verdict, fine}
use Rattle.std.specs.Prelude.{Ok, Err}
use Rattle.egg.specs.declared.Refusal.{Refusal}
use Rattle.egg.specs.declared.GroupElementId.{GroupElementId}
use Rattle.egg.specs.Table.{pick}
use Rattle.build_reading.specs.Build.{adds}
use Rattle.build_lending.specs.Finish.{Built, built, finished, finished_placed}
use Rattle.build_lending.specs.Lending.{table_need, work_need, lent_right, StretchEnd, refused_made, made_of, Making, making}
use Rattle.build_lending.proofs.Lending.{part_length, build_back}
use Rattle.build_reading.specs.Reading.{Placed, placed, then_placed, on_adds, read_place}
use Rattle.group_handles.specs.Handles.{generators_of}
use Rattle.group_digits.specs.Digits.{step_in}
use Rattle.group_flatten.specs.Flat.{place_by, row_by, rows_by, flat_in, flat_into, if_making}
use Rattle.group_digits.proofs.Walks.{Below, element, refusal}

module _ (src : ℕ → ℕ → Reached) (n room e g count : ℕ) (t : List ℕ) where
  module _ (h : g < n) {r : Reached} (w : r ≡ src e g) where
    pub row_refused : {why : Refusal} → r ≡ Err why → placed (Err why) t ≡ row_by (n - g) src n room e g count t
    unfolding row_by
    row_refused q = let d : n - g ≡ suc (n - (g + 1)) = omega arith in rw (d, ← w, q)

    module _ {v : GroupElementId} (q : r ≡ Ok v) {c : Counted} {l : List ℕ} (s : placed c l ≡ read_place t n room count e g v.0) where
      pub row_next : {k : ℕ} → c ≡ Ok k → row_by (n - g) src n room e g count t ≡ row_by (n - (g + 1)) src n room e (g + 1) k l
      unfolding row_by
      row_next p = let d : n - g ≡ suc (n - (g + 1)) = omega arith in rw (d, ← w, q, ← s, p)

      pub row_stop : {why : Refusal} → c ≡ Err why → placed (Err why) l ≡ row_by (n - g) src n room e g count t
      unfolding row_by
      row_stop p = let d : n - g ≡ suc (n - (g + 1)) = omega arith in rw (d, ← w, q, ← s, p)

  pub row_end : n ≤ g → placed (Ok count) t ≡ row_by (n - g) src n room e g count t
  unfolding row_by
  row_end h = let d : n - g ≡ 0 = omega arith in rw d

module _ (src : ℕ → ℕ → Reached) (n room e count : ℕ) (t : List ℕ) where
  module _ (h : e < room) where
    pub rows_done : count ≤ e → placed (Ok count) t ≡ rows_by (room - e) src n room e count t
    unfolding rows_by
    rows_done z = let d : room - e ≡ suc (room - (e + 1)) = omega arith in rw d (simp (le-ltb _ _ z))

    module _ (z : e < count) {c : Counted} {l : List ℕ} (s : placed c l ≡ row_by n src n room e 0 count t) where
      pub rows_next : {k : ℕ} → c ≡ Ok k → rows_by (room - e) src n room e count t ≡ rows_by (room - (e + 1)) src n room (e + 1) k l
      unfolding rows_by
      rows_next q = let d : room - e ≡ suc (room - (e + 1)) = omega arith in rw d (simp (lt-ltb _ _ z) (rw (← s, q)))

      pub rows_stop : {why : Refusal} → c ≡ Err why → placed (Err why) l ≡ rows_by (room - e) src n room e count t
      unfolding rows_by
      rows_stop q = let d : room - e ≡ suc (room - (e + 1)) = omega arith in rw d (simp (lt-ltb _ _ z) (rw (← s, q)))

  pub rows_end : room ≤ e → placed (Ok count) t ≡ rows_by (room - e) src n room e count t
  unfolding rows_by
  rows_end h = let d : room - e ≡ 0 = omega arith in rw d

-- There are never more elements than the source has.
pub data Counts (M : ℕ) : Placed → Type 0 where
  counts : {k : ℕ} {t : List ℕ} → k ≤ M → Counts M (placed (Ok k) t)
  refuses : {r : Refusal} {t : List ℕ} → Counts M (placed (Err r) t)

counts_pick : {M : ℕ} {x y : Placed} (b : Bool) → (b ≡ true → Counts M x) → (b ≡ false → Counts M y) → Counts M (pick b x y)
counts_pick true p q = p refl
counts_pick false p q = q refl

counts_then : {M : ℕ} (p : Placed) {f : ℕ → List ℕ → Placed} → Counts M p → ((k : ℕ) (t : List ℕ) → k ≤ M → Counts M (f k t)) → Counts M (then_placed p f)
counts_then (placed (Ok k) t) (counts h) f = f k t h
counts_then (placed (Err r) t) refuses f = refuses

counts_adds : {M : ℕ} (count : ℕ) (r : Reached) (t : List ℕ) → count + 1 ≤ M → Counts M (on_adds count r t)
counts_adds count (Ok e) t h = counts h
counts_adds count (Err r) t h = refuses

place_counts : {M : ℕ} (t : List ℕ) (n room count e g v : ℕ) → count ≤ M → v < M → Counts M (read_place t n room count e g v)
unfolding read_place
place_counts t n room count e g v h k =
    counts_pick (ltb count v) (λ p. refuses)
    (λ p. counts_pick (ltb v count) (λ q. counts h)
    (λ q. counts_adds count (adds t n room count (record { 0 = e }) (record { 0 = g })).answer (adds t n room count (record { 0 = e }) (record { 0 = g })).table
    (omega (arith, ltb-false count v p, ltb-false v count q))))

place_by_counts : {M : ℕ} (t : List ℕ) (n room count e g : ℕ) (r : Reached) → count ≤ M → Below M r → Counts M (place_by t n room count e g r)
place_by_counts t n room count e g (Ok v) h (element k) = place_counts t n room count e g v.0 h k
place_by_counts t n room count e g (Err r) h refusal = refuses

pub row_counts : {M : ℕ} (src : ℕ → ℕ → Reached) (n room e : ℕ) → ((x : ℕ) → Below M (src e x)) → (k g count : ℕ) (t : List ℕ) → count ≤ M
    → Counts M (row_by k src n room e g count t)
unfolding row_by
row_counts src n room e b zero g count t h = counts h
row_counts src n room e b (suc k) g count t h =
    counts_then (place_by t n room count e g (src e g)) (place_by_counts t n room count e g (src e g) h (b g)) (λ c l z. row_counts src n room e b k (g + 1) c l z)

counted_of : {M k : ℕ} {t : List ℕ} → Counts M (placed (Ok k) t) → k ≤ M
counted_of (counts h) = h

pub row_counted : {M : ℕ} (src : ℕ → ℕ → Reached) (n room e count : ℕ) (t : List ℕ) → ((x : ℕ) → Below M (src e x)) → count ≤ M
    → {c : Counted} {l : List ℕ} {k : ℕ} → placed c l ≡ row_by n src n room e 0 count t → c ≡ Ok k → k ≤ M
row_counted {M} src n room e count t b h {c} {l} q p =
    counted_of (subst (Counts M) (sym q ∙ ap (λ (x : Counted). placed x l) p) (row_counts src n room e b n 0 count t h))

-- The call.
pub flat_is : (size : ℕ) (w from : List ℕ) (hs : List Factor) (n room : ℕ) {c : Counted} {t : List ℕ} {b : Built}
    → placed c t ≡ rows_by room (step_in from hs) n room 0 1 (replicate size 0) → b ≡ finished c n t w → b ≡ flat_in size w from hs n room
unfolding flat_in
flat_is size w from hs n room {c} {t} {b} q p = p ∙ ap (λ (x : Placed). finished_placed x n w) q

module _ (from : List ℕ) (hs : List Factor) (table : List ℕ) (start : ℕ) (work : List ℕ) (room : ℕ) {k : ℕ} (q : k ≡ generators_of hs) where
  pub flat_generators : {m : Made} → 8 < k → m ≡ refused_made 1 k → making m table work ≡ flat_into from hs table start work room
  unfolding flat_into
  flat_generators h p = rw (← q) (simp (lt-ltb _ _ h) (rw p))

  module _ {n : ℕ} (e : n ≡ k) (h : k ≤ 8) where
    pub flat_short : {m : Made} → lent_right (length table) start (length work) room n ≡ false → m ≡ refused_made 4 0
        → making m table work ≡ flat_into from hs table start work room
    unfolding flat_into
    flat_short z p = let y : n ≡ generators_of hs = e ∙ q in let x : generators_of hs ≤ 8 = rw (← q) h in rw (le-ltb 8 (generators_of hs) x, ← y, z, p)

    pub flat_built : {x d : ℕ} {c : Counted} {t w : List ℕ} {m : Made} → lent_right (length table) start (length work) room n ≡ true
        → StretchEnd x start (table_need n room) (length table) → d ≡ work_need n room → m ≡ made_of start room n c
        → built c t w ≡ flat_in (length (mid_of start (x - start) table)) (take d work) from hs n room
        → making m (put_mid start (x - start) table t) (w ++ drop d work) ≡ flat_into from hs table start work room
    unfolding flat_into
    flat_built {x} {d} {c} {t} {w} {m} z ends need made b =
        let y : n ≡ generators_of hs = e ∙ q in
        let u : generators_of hs ≤ 8 = rw (← q) h in
        let v : built c t w ≡ flat_in (table_need n room) (take (work_need n room) work) from hs n room =
        b ∙ ap (λ (l : ℕ). flat_in l (take d work) from hs n room) (part_length table start (table_need n room) ends)
        ∙ ap (λ (l : ℕ). flat_in (table_need n room) (take l work) from hs n room) need in
        rw (le-ltb 8 (generators_of hs) u, ← y, z) (build_back table start work n room ends need made v)

module _ {v w : Verdict} (q : v ≡ w) (table work : List ℕ) (m : Making) where
  pub making_refused : {r : Refusal} {x : Made} → v ≡ Err r → x ≡ Err r → making x table work ≡ if_making w table work m
  making_refused e p = rw (← q, e, p)

  pub making_fine : v ≡ fine → m ≡ if_making w table work m
  making_fine e = rw (← q, e)
