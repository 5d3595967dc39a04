-- Laws of the quick walks: where a row's cells stand, and a walk by stored numbers.
use Prim.Native.Nat.{ℕ, zero, suc, ◌+◌, ◌*◌, ◌-◌, ◌/◌, ◌%◌, ◌^◌, ◌≤◌, ◌<◌}
use mathlib.Core.Path.{◌≡◌, refl, sym, ap, ◌∙◌}
use mathlib.Core.Bool.{Bool, true, false}
use mathlib.Core.List.{List, [], ◌∷◌, ◌++◌}
use native.Mathlib.Nat.{mul-le-mul_right}
use native.Mathlib.Omega.{arith}
use borrow.Author.Tests.{eqb-true, eqb-false, lt-ltb, lt-leb, ltb-true, ltb-false, leb-false}
use lib.ListN.{get_or}
use lib.Dec.{eqb, ltb, leb}
use lib.Pow.{shr-shr}
use Rattle.egg.specs.declared.Refusal.{Refusal}
use Rattle.egg.specs.Answers.{Reached}
use Rattle.std.specs.Prelude.{Ok, Err}
use Rattle.egg.specs.Table.{pick, start_of, hop_of}
use Rattle.egg.specs.Factor.{refused_reach, read_step}
use Rattle.egg.proofs.Answers.{read_element}
use Rattle.egg.proofs.Cells.{inside}
use Rattle.egg.proofs.Rooms.{and_first, and_second}
use Rattle.build_word_cells.specs.Hops.{without}
use Rattle.build_word_cells.proofs.Hops.{five_off}
use Rattle.factor_word_letters.specs.Spell.{cell_by, cell_within, readable, letters_by, letters}
use Rattle.factor_word_letters.proofs.Letters.{readable_end, readable_last}
use Rattle.factor_word_walks.specs.Letters.{LettersBack}
use Rattle.factor_word_walks.specs.Walks.{follow, along, back_by, back_along}
use Rattle.egg.specs.Answers.{on_reached}
use Rattle.factor_word_walks.proofs.Walks.{row_last}
use Rattle.factor_quick_walks.specs.Letters.{ahead, Onward}

-- The numbers behind the steps of the rows of all elements stand in a stretch that is long enough.
pub recorded_inside : (n : ℕ) {count len : ℕ} → count * (2 * n + 4) ≤ len → {e k r : ℕ} → r ≡ start_of n e → e < count → k < 4 → r + 2 * n + k < len
unfolding start_of
recorded_inside n h {e} {k} q he hk = let j : 2 * n + k < 2 * n + 4 = omega arith in rw q (omega (arith, inside {w = 2 * n + 4} he j))

-- A cell of the element that is stored as y is so many places before the next row.
module _ (n : ℕ) {y r : ℕ} (q : r ≡ start_of n y) (pos : 0 < y) where
  row_before : r ≡ start_of n (y - 1) + (2 * n + 4)
  unfolding start_of
  row_before = q ∙ ap (λ (z : ℕ). z * (2 * n + 4)) (omega arith) ∙ by (y - 1) where
    by : (z : ℕ) → (z + 1) * (2 * n + 4) ≡ z * (2 * n + 4) + (2 * n + 4)
    by z = omega arith

  module _ {behind : ℕ} (h : behind ≤ 2 * n + 4) where
    pub stored_before : behind ≤ r
    stored_before = omega (arith, row_before)

    pub stored_inside : {count len : ℕ} → count * (2 * n + 4) ≤ len → y ≤ count → 0 < behind → r - behind < len
    unfolding start_of
    stored_inside {count} {len} k l some =
        let m : r ≤ len = rw q (omega (arith, mul-le-mul_right (2 * n + 4) l)) in
        omega (arith, stored_before)

    pub stored_place : {place : ℕ} → place + behind ≡ start_of n (y - 1) + (2 * n + 4) → r - behind ≡ place
    stored_place e = omega (arith, row_before)

-- What is left of a cell, letter by letter.
module _ (n m c : ℕ) where
  pub cell_end : {k : ℕ} → k ≤ 0 → c < m → cell_by k n m c ≡ true
  cell_end {k} h l = let d : k ≡ 0 = omega arith in rw d (lt-ltb _ _ l)

  pub cell_more : {k : ℕ} → 0 < k → c % 8 < n → cell_by (k - 1) n m (c / 8) ≡ true → cell_by k n m c ≡ true
  cell_more {k} h l t = let d : k ≡ suc (k - 1) = omega arith in ap (λ (j : ℕ). cell_by j n m c) d ∙ rw (lt-ltb (c % 8) n l) t

-- Above its letters a cell that is in range has an element.
cell_above : (k n m c : ℕ) → cell_by k n m c ≡ true → without k c < m
unfolding without
cell_above zero n m c t = ltb-true _ _ t
cell_above (suc k) n m c t = cell_above k n m (c / 8) (and_second (ltb (c % 8) n) (cell_by k n m (c / 8)) t)

pub five_above : (n m c : ℕ) → cell_within n m c ≡ true → c / 32768 < m
five_above n m c t = rw (five_off c) at (cell_above 5 n m c t)

-- A cell that has nothing above the letters of a word is in range if these are.
cell_zeros : (j : ℕ) {n m : ℕ} → 0 < n → 0 < m → cell_by j n m 0 ≡ true
cell_zeros zero hn hm = lt-ltb _ _ hm
cell_zeros (suc j) {n} {m} hn hm = rw (lt-ltb 0 n hn) (cell_zeros j hn hm)

cell_longer : (k j n m c : ℕ) → 0 < n → 0 < m → cell_by k n 1 c ≡ true → cell_by (k + j) n m c ≡ true
cell_longer zero j n m c hn hm t = let l : c < 1 = ltb-true _ _ t in let d : c ≡ 0 = omega arith in let e : 0 + j ≡ j = omega arith in rw (d, e) (cell_zeros j hn hm)
cell_longer (suc k) j n m c hn hm t =
    let e : suc k + j ≡ suc (k + j) = omega arith in
    let f : ltb (c % 8) n ≡ true = and_first (ltb (c % 8) n) (cell_by k n 1 (c / 8)) t in
    let g : cell_by (k + j) n m (c / 8) ≡ true = cell_longer k j n m (c / 8) hn hm (and_second (ltb (c % 8) n) (cell_by k n 1 (c / 8)) t) in
    ap (λ (i : ℕ). cell_by i n m c) e ∙ rw (f, g)

cell_whole : (n count c : ℕ) {k : ℕ} → 0 < k → k ≤ 5 → 0 < count → cell_by k n 1 c ≡ true → cell_within n count c ≡ true
cell_whole n count c {k} some l h t =
    let d : k ≡ suc (k - 1) = omega arith in
    let u : cell_by (suc (k - 1)) n 1 c ≡ true = ap (λ (j : ℕ). cell_by j n 1 c) (sym d) ∙ t in
    let f : c % 8 < n = ltb-true _ _ (and_first (ltb (c % 8) n) (cell_by (k - 1) n 1 (c / 8)) u) in
    let hn : 0 < n = omega arith in
    let e : k + (5 - k) ≡ 5 = omega arith in
    rw e at (cell_longer k (5 - k) n count c hn h t)

-- Along the letters in a number.
module _ (s : List ℕ) (n count from c : ℕ) where
  pub ahead_none : {k : ℕ} → k ≡ 0 → Ok (record { 0 = from }) ≡ ahead k s n count from c
  unfolding ahead
  ahead_none z = rw z

  ahead_more : {k : ℕ} → (k ≡ 0 → ⊥) → c % 8 < n → on_reached (ahead (k - 1) s n count from (c / 8)) (λ x. read_step s n count x (c % 8)) ≡ ahead k s n count from c
  unfolding ahead
  ahead_more {k} some z =
      let d : k ≡ suc (k - 1) = omega arith in
      sym (ap (λ (l : ℕ). ahead l s n count from c) d ∙ simp (lt-leb _ _ z))

-- A refusal is no element.
never_both : {r : Refusal} {y : ℕ} → ◌≡◌ {A = Reached} (Err r) (Ok (record { 0 = y })) → ⊥
never_both q = let z : ◌≡◌ {A = ℕ} 0 1 = cc in omega arith

-- One letter more.
follow_snoc : (s : List ℕ) (n count from : ℕ) (w : List ℕ) (g : ℕ)
    → follow s n count from (w ++ (g ∷ [])) ≡ on_reached (follow s n count from w) (λ x. read_step s n count x g)
unfolding follow
follow_snoc s n count from [] g = no_more (read_step s n count from g) where
  no_more : (r : Reached) → on_reached r (λ x. Ok (record { 0 = x })) ≡ r
  no_more (Ok x) = refl
  no_more (Err r) = refl
follow_snoc s n count from (h ∷ w) g = by (read_step s n count from h) (λ x. follow_snoc s n count x w g) where
  by : (v : Reached) → ((x : ℕ) → follow s n count x (w ++ (g ∷ [])) ≡ on_reached (follow s n count x w) (λ y. read_step s n count y g))
      → on_reached v (λ x. follow s n count x (w ++ (g ∷ []))) ≡ on_reached (on_reached v (λ x. follow s n count x w)) (λ x. read_step s n count x g)
  by (Ok x) more = more x.0
  by (Err r) more = refl

-- Where the letters in a number lead to an element, they are generators, and the list of them leads there.
pub record Shown (s : List ℕ) (n count from c k j y : ℕ) : Type 0 where
  pub leads : follow s n count from (letters_by k j s n c) ≡ Ok (record { 0 = y })
  pub below : (m : ℕ) → without k c < m → cell_by k n m c ≡ true

ahead_shows : (k j : ℕ) (s : List ℕ) (n count from c : ℕ) {y : ℕ} → k ≤ j → ahead k s n count from c ≡ Ok (record { 0 = y }) → Shown s n count from c k j y
unfolding ahead letters_by follow without
ahead_shows zero j s n count from c h q = record { leads = q; below = λ m l. lt-ltb _ _ l }
ahead_shows (suc k) zero s n count from c h q = absurd (omega arith)
ahead_shows (suc k) (suc j) s n count from c {y} h q =
    by (leb n (c % 8)) (ahead k s n count from (c / 8)) refl refl (λ x. ahead_shows k j s n count from (c / 8) {y = x} (omega arith)) q
  where
    by : (b : Bool) (v : Reached) → leb n (c % 8) ≡ b → ahead k s n count from (c / 8) ≡ v
        → ((x : ℕ) → ahead k s n count from (c / 8) ≡ Ok (record { 0 = x }) → Shown s n count from (c / 8) k j x)
        → pick b (refused_reach 17 0) (on_reached v (λ x. read_step s n count x (c % 8))) ≡ Ok (record { 0 = y }) → Shown s n count from c (suc k) (suc j) y
    by true v p u more z = absurd (never_both z)
    by false (Err r) p u more z = absurd (never_both z)
    by false (Ok x) p u more z =
        let I = more x.0 u in
        record {
          leads = follow_snoc s n count from (letters_by k j s n (c / 8)) (c % 8) ∙ rw I.leads z;
          below = λ m l. rw (lt-ltb (c % 8) n (leb-false _ _ p)) (I.below m l);
        }

shifted : (k c : ℕ) → without k c ≡ c / 2 ^ (3 * k)
unfolding without
shifted zero c = omega arith
shifted (suc k) c = shifted k (c / 8) ∙ shr-shr c 3 (3 * k) ∙ ap (λ (j : ℕ). c / 2 ^ j) (omega arith)

row_letters_lem : (s : List ℕ) (n e : ℕ) {k c : ℕ} → 0 < k → c ≡ hop_of s n e → letters k s n e ≡ letters_by k 5 s n c
unfolding letters_by
row_letters_lem s n e {k} some q = let d : k ≡ suc (k - 1) = omega arith in rw (d, q)

-- A word whose letters all stand in its element's row, by that cell.
pub along_cell : (s : List ℕ) (n count from e : ℕ) {k c y : ℕ} → e < count → c ≡ hop_of s n e → 0 < k → k ≤ 5 → c / 2 ^ (3 * k) ≤ 0
    → ahead k s n count from c ≡ Ok (record { 0 = y }) → along k s n count from e ≡ Ok (record { 0 = y })
unfolding along
along_cell s n count from e {k} {c} {y} h q some l none u =
    let S = ahead_shows k 5 s n count from c l u in
    let some_count : 0 < count = omega arith in
    let zero_rest : without k c < 1 = rw (shifted k c) (omega arith) in
    let t : cell_within n count c ≡ true = cell_whole n count c some l some_count (S.below 1 zero_rest) in
    let r : readable k s n count e ≡ true = sym (readable_last s n count e some h q (sym t) refl l) in
    rw r (ap (λ (w : List ℕ). follow s n count from w) (row_letters_lem s n e some q) ∙ S.leads)

pub along_none : (s : List ℕ) (n count from e : ℕ) {k : ℕ} → k ≡ 0 → along k s n count from e ≡ Ok (record { 0 = from })
unfolding along letters_by follow
along_none s n count from e {k} z = rw (z, ← readable_end s n count e {left = 0} (omega arith))

-- Along the letters of a cell from the first, one by one.
module _ {s : List ℕ} {n count cell letters : ℕ} where
  -- A word that is no longer has not left the element at which it starts.
  pub onward_stays : {j k y : ℕ} → letters ≤ j → letters ≤ k → y ≤ count → Onward s n count cell letters j y k y
  onward_stays {j} {k} h l m = record {
    small = m;
    leads = λ from r.
        sym (ahead_none s n count from (cell / 2 ^ (3 * k)) (omega arith)) ∙ ahead_none s n count from (cell / 2 ^ (3 * j)) (omega arith) ∙ r;
  }

  module _ {k y x : ℕ} (z : cell / 2 ^ (3 * k) % 8 < n) (q : x ≡ get_or s (start_of n (y - 1) + 0 + cell / 2 ^ (3 * k) % 8) 0) (some : x ≡ 0 → ⊥) (l : x ≤ count) where
    onward_goes : k < letters → Onward s n count cell letters (k + 1) y k x
    onward_goes h = record {
      small = l;
      leads = λ from r.
          let c : ℕ = cell / 2 ^ (3 * k) in
          let d : letters - k - 1 ≡ letters - (k + 1) = omega arith in
          let f : c / 8 ≡ cell / 2 ^ (3 * (k + 1)) = shr-shr cell (3 * k) 3 ∙ ap (λ (j : ℕ). cell / 2 ^ j) (omega arith) in
          let g : x ≡ get_or s (start_of n (y - 1) + c % 8) 0 = q ∙ ap (λ (i : ℕ). get_or s (i + c % 8) 0) (omega arith) in
          sym (ahead_more s n count from c {k = letters - k} (λ o. omega arith) z) ∙ rw (d, f, r) (sym (read_element s n count (y - 1) (c % 8) g some l));
    }

    pub onward_chosen : (t : Bool) {r : ℕ} → y ≤ count → t ≡ ltb k letters → r ≡ pick t x y → Onward s n count cell letters (k + 1) y k r
    onward_chosen true m p e = rw e (onward_goes (ltb-true _ _ (sym p)))
    onward_chosen false m p e =
        let h : letters ≤ k = ltb-false _ _ (sym p) in
        rw e (onward_stays (omega arith) h m)

  pub onward_on : {i j k x y z : ℕ} → Onward s n count cell letters i x j y → Onward s n count cell letters j y k z → Onward s n count cell letters i x k z
  onward_on v w = record { small = w.small; leads = λ from r. w.leads from (v.leads from r) }

  pub onward_whole : (from : ℕ) {y : ℕ} → letters ≤ 5 → Onward s n count cell letters 5 (from + 1) 0 y → ahead letters s n count from cell ≡ Ok (record { 0 = y - 1 })
  onward_whole from {y} h w =
      let d : from + 1 - 1 ≡ from = omega arith in
      let e : letters - 0 ≡ letters = omega arith in
      let f : cell / 2 ^ (3 * 0) ≡ cell = omega arith in
      let r : ahead (letters - 0) s n count from (cell / 2 ^ (3 * 0)) ≡ Ok (record { 0 = y - 1 }) =
      w.leads from (rw d (sym (ahead_none s n count from (cell / 2 ^ (3 * 5)) (omega arith)))) in
      rw (e, f) at r

-- Back along the letters of a cell that a word ends in.
pub retrace_last : (s : List ℕ) (n count x e : ℕ) {left c y : ℕ} → e < count → c ≡ hop_of s n e → cell_by left n 1 c ≡ true → left ≤ 5
    → LettersBack s n count x c left (Ok (record { 0 = y })) → back_along left s n count x e ≡ Ok (record { 0 = y })
unfolding back_by
retrace_last s n count x e {left} {c} {y} h q t l L = by (eqb left 0) refl where
  by : (t : Bool) → eqb left 0 ≡ t → back_along left s n count x e ≡ Ok (record { 0 = y })
  by true z =
      let d : left ≡ 0 = eqb-true _ _ z in
      let M : LettersBack s n count x c 0 (Ok (record { 0 = y })) = rw (← d) L in
      rw d (M.leads 0 0)
  by false z =
      let some : 0 < left = omega (arith, eqb-false left 0 z) in
      sym (row_last s n count x e h q (cell_whole n count c some l (omega arith) t) (eqb-false _ _ z) l L)

-- What is stored for the first element is one more than its number.
pub retrace_start : (s : List ℕ) (n count letters from e : ℕ) → back_along letters s n count (from + 1 - 1) e ≡ back_along letters s n count from e
retrace_start s n count letters from e = let d : from + 1 - 1 ≡ from = omega arith in rw d
