-- Laws of the letters of recorded words: those of one number, and turn by turn.
use Prim.Native.Nat.{ℕ, zero, suc, ◌+◌, ◌-◌, ◌/◌, ◌%◌, ◌≤◌, ◌<◌}
use mathlib.Core.Path.{◌≡◌, refl, sym, ap, ◌∙◌}
use mathlib.Core.Bool.{Bool, true, false, ◌&&◌}
use mathlib.Core.List.{List, [], ◌∷◌, ◌++◌, append_assoc}
use native.Mathlib.Omega.{arith}
use borrow.Author.Tests.{lt-ltb, le-ltb}
use lib.ListN.{length, take, drop, set, length-set, length-append, length-drop}
use lib.Seq.{drop-cons, get_or-set_same, drop-set-lt, drop-set-add}
use lib.Dec.{ltb}
use Rattle.egg.specs.Table.{hop_of}
use Rattle.build_word_cells.specs.Hops.{without}
use Rattle.build_word_cells.proofs.Hops.{five_off}
use Rattle.factor_word_letters.specs.Spell.{cell_within, readable_by, readable, letters_by, letters, spell_by, spell_from, spell}
use Rattle.factor_word_letters.specs.Letters.{letters_put}

-- One law for each test of a cell.
module _ (n count c : ℕ) where
  pub cell_first : n ≤ c % 8 → false ≡ cell_within n count c
  cell_first a = simp (le-ltb _ _ a)

  module _ (a : c % 8 < n) where
    pub cell_second : n ≤ c / 8 % 8 → false ≡ cell_within n count c
    cell_second b = simp (lt-ltb _ _ a, le-ltb _ _ b)

    module _ (b : c / 8 % 8 < n) where
      pub cell_third : n ≤ c / 8 / 8 % 8 → false ≡ cell_within n count c
      cell_third d = simp (lt-ltb _ _ a, lt-ltb _ _ b, le-ltb _ _ d)

      module _ (d : c / 8 / 8 % 8 < n) where
        pub cell_fourth : n ≤ c / 8 / 8 / 8 % 8 → false ≡ cell_within n count c
        cell_fourth e = simp (lt-ltb _ _ a, lt-ltb _ _ b, lt-ltb _ _ d, le-ltb _ _ e)

        module _ (e : c / 8 / 8 / 8 % 8 < n) where
          pub cell_fifth : n ≤ c / 8 / 8 / 8 / 8 % 8 → false ≡ cell_within n count c
          cell_fifth f = simp (lt-ltb _ _ a, lt-ltb _ _ b, lt-ltb _ _ d, lt-ltb _ _ e, le-ltb _ _ f)

          pub cell_element : c / 8 / 8 / 8 / 8 % 8 < n → ltb (c / 8 / 8 / 8 / 8 / 8) count ≡ cell_within n count c
          cell_element f = simp (lt-ltb _ _ a, lt-ltb _ _ b, lt-ltb _ _ d, lt-ltb _ _ e, lt-ltb _ _ f)

module _ (c start offset : ℕ) (out : List ℕ) (word here : ℕ) where
  pub put_word : word ≡ 0 → out ≡ letters_put word here c start offset out
  unfolding letters_put
  put_word h = rw h

  pub put_here : here ≤ 0 → out ≡ letters_put word here c start offset out
  unfolding letters_put
  put_here h = let d : here ≡ 0 = omega arith in rw d (by word) where
    by : (k : ℕ) → out ≡ letters_put k 0 c start offset out
    by zero = refl
    by (suc k) = refl

  pub put_on : (word ≡ 0 → ⊥) → {fewer : ℕ} → here ≡ suc fewer → {o : List ℕ} → o ≡ set out (start + (word - 1)) ((offset + c % 8) % 256)
      → letters_put (word - 1) fewer (c / 8) start offset o ≡ letters_put word here c start offset out
  unfolding letters_put
  put_on w {fewer} e q =
      let d : word ≡ suc (word - 1) = omega (arith, w) in
      sym (ap (λ (k : ℕ). letters_put k here c start offset out) d ∙ ap (λ (j : ℕ). letters_put (suc (word - 1)) j c start offset out) e ∙ rw q)

-- The letters of one number are passed, or written, and the rest of the word from what is above them.
module _ (s : List ℕ) (n : ℕ) where
  read_letters : (count k j c : ℕ) → readable_by k j s n count c ≡ readable_by (k - j) 0 s n count (without j c)
  unfolding readable_by without
  read_letters count zero j c = let d : 0 - j ≡ 0 = omega arith in rw d
  read_letters count (suc k) zero c = let d : suc k - 0 ≡ suc k = omega arith in rw d
  read_letters count (suc k) (suc j) c = let d : suc k - suc j ≡ k - j = omega arith in rw d (read_letters count k j (c / 8))

  spell_letters : (k j c start offset : ℕ) (out : List ℕ)
      → spell_by k j s n c start offset out ≡ spell_by (k - j) 0 s n (without j c) start offset (letters_put k j c start offset out)
  unfolding spell_by letters_put without
  spell_letters zero j c start offset out = let d : 0 - j ≡ 0 = omega arith in rw d
  spell_letters (suc k) zero c start offset out = let d : suc k - 0 ≡ suc k = omega arith in rw d
  spell_letters (suc k) (suc j) c start offset out =
      let d : suc k - suc j ≡ k - j = omega arith in
      rw d (spell_letters k j (c / 8) start offset (set out (start + k) ((offset + c % 8) % 256)))

-- Before the fourth place nothing is looked at.
put_before : (j c start : ℕ) (held : List ℕ) → start + j ≤ 4 → drop 4 (letters_put j j c start 0 held) ≡ drop 4 held
unfolding letters_put
put_before zero c start held h = refl
put_before (suc j) c start held h =
    put_before j (c / 8) start (set held (start + j) ((0 + c % 8) % 256)) (omega arith) ∙ drop-set-lt 4 held (start + j) ((0 + c % 8) % 256) (omega arith)

letter_same : (x : ℕ) → x % 8 ≡ (0 + x % 8) % 256
letter_same x = omega arith

pub put_five : (c place : ℕ) (held : List ℕ)
    → set (set (set (set (set held (place + 4) (c % 8)) (place + 3) (c / 8 % 8)) (place + 2) (c / 8 / 8 % 8)) (place + 1) (c / 8 / 8 / 8 % 8)) place (c / 8 / 8 / 8 / 8 % 8)
    ≡ letters_put 5 5 c place 0 held
unfolding letters_put
put_five c place held =
    let z : place + 0 ≡ place = omega arith in
    rw (z, ← letter_same c, ← letter_same (c / 8), ← letter_same (c / 8 / 8), ← letter_same (c / 8 / 8 / 8), ← letter_same (c / 8 / 8 / 8 / 8))

-- All letters of the number, behind four places: those of the word are where they belong.
spell_behind : (s : List ℕ) (n k j c start : ℕ) (held : List ℕ) → start + j ≡ k + 4
    → spell_by k j s n c 0 0 (drop 4 held) ≡ spell_by (k - j) 0 s n (without j c) 0 0 (drop 4 (letters_put j j c start 0 held))
unfolding spell_by letters_put without
spell_behind s n zero zero c start held h = refl
spell_behind s n zero (suc j) c start held h = let d : 0 - suc j ≡ 0 = omega arith in rw d (sym (put_before (suc j) c start held (omega arith)))
spell_behind s n (suc k) zero c start held h = let d : suc k - 0 ≡ suc k = omega arith in rw d
spell_behind s n (suc k) (suc j) c start held h =
    let d : suc k - suc j ≡ k - j = omega arith in
    let p : start + j ≡ 4 + k = omega arith in
    let z : 0 + k ≡ k = omega arith in
    rw (d, z, p, ← drop-set-add 4 held k ((0 + c % 8) % 256)) (rw (← p) (spell_behind s n k j (c / 8) start (set held (start + j) ((0 + c % 8) % 256)) (omega arith)))

-- One turn: the letters of the row at which what is left of the word ends.
pub readable_end : (s : List ℕ) (n count e : ℕ) {left : ℕ} → left ≤ 0 → true ≡ readable left s n count e
unfolding readable_by
readable_end s n count e {left} h = let d : left ≡ 0 = omega arith in rw d

pub readable_out : (s : List ℕ) (n count e : ℕ) {left : ℕ} → 0 < left → count ≤ e → false ≡ readable left s n count e
unfolding readable_by
readable_out s n count e {left} k h = let d : left ≡ suc (left - 1) = omega arith in rw d (simp (le-ltb _ _ h))

module _ (s : List ℕ) (n count e : ℕ) {left c : ℕ} (k : 0 < left) (i : e < count) (q : c ≡ hop_of s n e) {b : Bool} (p : b ≡ cell_within n count c) where
  readable_hop : readable left s n count e ≡ b && readable_by left 5 s n count c
  unfolding readable_by
  readable_hop = let d : left ≡ suc (left - 1) = omega arith in rw (p, d, q) (simp (lt-ltb _ _ i))

  readable_turn : readable left s n count e ≡ b && readable (left - 5) s n count (c / 32768)
  readable_turn = readable_hop ∙ ap (λ (z : Bool). b && z) (read_letters s n count left 5 c ∙ rw (five_off c))

  pub readable_no : b ≡ false → false ≡ readable left s n count e
  readable_no h = sym (readable_turn ∙ rw h)

  pub readable_more : b ≡ true → readable (left - 5) s n count (c / 32768) ≡ readable left s n count e
  readable_more h = sym (readable_turn ∙ rw h)

  pub readable_last : b ≡ true → left ≤ 5 → true ≡ readable left s n count e
  readable_last h l = readable_end s n count (c / 32768) (omega arith) ∙ readable_more h

pub spell_end : (s : List ℕ) (n e start offset : ℕ) (out : List ℕ) {left : ℕ} → left ≤ 0 → out ≡ spell_from left s n e start offset out
unfolding spell_by
spell_end s n e start offset out {left} h = let d : left ≡ 0 = omega arith in rw d

module _ (s : List ℕ) (n e start offset : ℕ) (out : List ℕ) {left c : ℕ} (k : 0 < left) (q : c ≡ hop_of s n e) where
  spell_hop : spell_from left s n e start offset out ≡ spell_by left 5 s n c start offset out
  unfolding spell_by
  spell_hop = let d : left ≡ suc (left - 1) = omega arith in rw (d, q)

  module _ {o : List ℕ} (p : o ≡ letters_put left 5 c start offset out) where
    pub spell_more : spell_from (left - 5) s n (c / 32768) start offset o ≡ spell_from left s n e start offset out
    spell_more = sym (spell_hop ∙ spell_letters s n left 5 c start offset out ∙ rw (five_off c, ← p))

    pub spell_last : left ≤ 5 → o ≡ spell_from left s n e start offset out
    spell_last l = spell_end s n (c / 32768) start offset o (omega arith) ∙ spell_more

-- What is gathered from here on is the word.
pub record Gathering (s : List ℕ) (n count e len : ℕ) (held₀ held : List ℕ) (at left : ℕ) : Type 0 where
  pub kept : length held ≡ length held₀
  pub fewer : left ≤ len
  pub reads : readable left s n count at ≡ readable len s n count e
  pub spells : spell left s n at (drop 4 held) ≡ spell len s n e (drop 4 held₀)

pub gathering : (s : List ℕ) (n count e len : ℕ) (held : List ℕ) → Gathering s n count e len held held e len
gathering s n count e len held = record { kept = refl; fewer = omega arith; reads = refl; spells = refl }

pub gathers_end : {s : List ℕ} {n count e len : ℕ} {held₀ held : List ℕ} {at left : ℕ} → Gathering s n count e len held₀ held at left → left ≤ 0
    → (true ≡ readable len s n count e) × (true ≡ true → drop 4 held ≡ spell len s n e (drop 4 held₀))
gathers_end {s} {n} {count} {e} {len} {held₀} {held} {at} w h =
    (readable_end s n count at h ∙ w.reads, λ z. spell_end s n at 0 0 (drop 4 held) h ∙ w.spells)

module _ {s : List ℕ} {n count e len : ℕ} {held₀ held : List ℕ} {at left : ℕ} (w : Gathering s n count e len held₀ held at left) {c : ℕ} (k : 0 < left)
    (i : at < count) (q : c ≡ hop_of s n at) (p : cell_within n count c ≡ true) {held' : List ℕ} (o : held' ≡ letters_put 5 5 c (left - 1) 0 held)
    (l : length held' ≡ length held)
  where
    pub gathers_on : Gathering s n count e len held₀ held' (c / 32768) (left - 5)
    gathers_on = record {
      kept = l ∙ w.kept;
      fewer = omega (arith, w.fewer);
      reads = readable_more s n count at k i q refl p ∙ w.reads;
      spells =
          sym (spell_hop s n at 0 0 (drop 4 held) k q ∙ spell_behind s n left 5 c (left - 1) held (omega arith) ∙ rw (five_off c, ← o)) ∙ w.spells;
    }

-- The letters by themselves: what is spelled is these and the rest of the buffer, so that a copy of them spells the word anywhere.
take_front : (a b : List ℕ) (k : ℕ) → k ≡ length a → take k (a ++ b) ≡ a
take_front [] b k q = rw q
take_front (x ∷ a) b k q = rw q (ap (λ (l : List ℕ). x ∷ l) (take_front a b (length a) refl))

pub take_all : (a : List ℕ) (k : ℕ) → k ≡ length a → take k a ≡ a
take_all [] k q = rw q
take_all (x ∷ a) k q = rw q (ap (λ (l : List ℕ). x ∷ l) (take_all a (length a) refl))

-- What stands from a place on, once a number is stored there.
pub drop_set_here : (l : List ℕ) (i v : ℕ) → i < length l → drop i (set l i v) ≡ v ∷ drop (suc i) l
drop_set_here l i v h =
    drop-cons (set l i v) i 0 (rw (length-set l i v) h) ∙ rw (get_or-set_same l i v 0 h, drop-set-lt (suc i) l i v (omega arith))

module _ (s : List ℕ) (n : ℕ) where
  one_spelled : (l out : List ℕ) (k v : ℕ) {x : List ℕ} → k < length out → x ≡ l ++ drop k (set out k v) → x ≡ (l ++ (v ∷ [])) ++ drop (suc k) out
  one_spelled l out k v h q = q ∙ rw (drop_set_here out k v h) (sym (append_assoc l (v ∷ []) (drop (suc k) out)))

  pub letters_length : (k j c : ℕ) → length (letters_by k j s n c) ≡ k
  unfolding letters_by
  letters_length zero j c = refl
  letters_length (suc k) zero c = length-append (letters_by k 4 s n (hop_of s n c / 8)) _ ∙ rw (letters_length k 4 (hop_of s n c / 8)) (omega arith)
  letters_length (suc k) (suc j) c = length-append (letters_by k j s n (c / 8)) _ ∙ rw (letters_length k j (c / 8)) (omega arith)

  pub letters_spelled : (k j c : ℕ) (out : List ℕ) → k ≤ length out → spell_by k j s n c 0 0 out ≡ letters_by k j s n c ++ drop k out
  unfolding spell_by letters_by
  letters_spelled zero j c out room = refl
  letters_spelled (suc k) zero c out room =
      let z : 0 + k ≡ k = omega arith in
      one_spelled (letters_by k 4 s n (hop_of s n c / 8)) out k (hop_of s n c % 8) room
      (rw (z, ← letter_same (hop_of s n c)) (letters_spelled k 4 (hop_of s n c / 8) (set out k (hop_of s n c % 8)) (rw (length-set out k (hop_of s n c % 8)) (omega arith))))
  letters_spelled (suc k) (suc j) c out room =
      let z : 0 + k ≡ k = omega arith in
      one_spelled (letters_by k j s n (c / 8)) out k (c % 8) room
      (rw (z, ← letter_same c) (letters_spelled k j (c / 8) (set out k (c % 8)) (rw (length-set out k (c % 8)) (omega arith))))

  -- What `gather` has put behind four places.
  pub letters_taken : (k e : ℕ) (held : List ℕ) {l : List ℕ} → k + 4 ≤ length held → l ≡ spell k s n e (drop 4 held) → take (k + 4 - 4) l ≡ letters k s n e
  letters_taken k e held h p =
      let d : k + 4 - 4 ≡ k = omega arith in
      let room : k ≤ length (drop 4 held) = rw (length-drop 4 held) (omega arith) in
      rw (d, p, letters_spelled k 0 e (drop 4 held) room) (take_front (letters k s n e) (drop k (drop 4 held)) k (sym (letters_length k 0 e)))
