-- A word that is a letter and then an earlier element's word: how hints grow from parent to child, and the inverses that come by them.
use Prim.Native.Nat.{ℕ, zero, suc, ◌+◌, ◌*◌, ◌-◌, ◌%◌, ◌≤◌, ◌<◌}
use mathlib.Core.Path.{◌≡◌, refl, sym, ap, ◌∙◌}
use mathlib.Core.List.{List}
use native.Mathlib.Decide.{ℕ_discrete, dec_lt}
use native.Mathlib.Nat.{sub-zero}
use native.Mathlib.Omega.{arith}
use lib.ListN.{length, get_or, get_or-eq_default}
use borrow.Author.Tests.{eq-eqb, ne_eqb}
use Rattle.egg.specs.Table.{put_at, start_of, parent_of, last_of, length_of, inverse_of, back_of}
use Rattle.egg.proofs.Laws.{put_at_out}
use Rattle.egg.proofs.Cells.{inside, put_same, put_other, put_length, other_cell, other_row}
use Rattle.egg.proofs.Scans.{left_suc}
use Rattle.build_checks_inverses.specs.Inverses.{invert_from, invert_of, fill_inverses}
use Rattle.build_checks_inverses.specs.Hints.{SameButInverses, Steady, Tail, tail_of, first_of, Packs, Hint, Hints, Follows, inverse_by, Beyond, CountedAgain}

-- What is read of tables that are alike.
module _ {t t' : List ℕ} {n : ℕ} (A : SameButInverses t t' n) (e : ℕ) where
  parent_same : parent_of t' n e ≡ parent_of t n e
  parent_same = A.cells (start_of n e + 2 * n) e (2 * n) (omega arith) refl

  last_same : last_of t' n e ≡ last_of t n e
  last_same = ap (λ (x : ℕ). x % 8) (A.cells (start_of n e + 2 * n + 1) e (2 * n + 1) (omega arith) (omega arith))

  length_same : length_of t' n e ≡ length_of t n e
  length_same = A.cells (start_of n e + 2 * n + 2) e (2 * n + 2) (omega arith) (omega arith)

  back_same : {g : ℕ} → g < n → back_of t' n e g ≡ back_of t n e g
  back_same {g} h = ap (λ (x : ℕ). x - 1) (A.cells (start_of n e + n + g) e (n + g) (omega arith) (omega arith))

-- A word that is p's and one letter more.
undone_one : (k : ℕ) (t : List ℕ) (n e x : ℕ) → invert_from (suc k) t n e x ≡ invert_from k t n (parent_of t n e) (back_of t n x (last_of t n e))
unfolding invert_from
undone_one k t n e x = refl

module _ (t : List ℕ) (n e p : ℕ) (parent : parent_of t n e ≡ p) (longer : length_of t n e ≡ length_of t n p + 1) where
  last_first : (x : ℕ) → invert_from (length_of t n e) t n e x ≡ invert_from (length_of t n p) t n p (back_of t n x (last_of t n e))
  last_first x = let q : length_of t n e ≡ suc (length_of t n p) = omega (arith, longer) in rw (q, undone_one, parent)

  steady_on : last_of t n e < n → Steady t n p → Steady t n e
  steady_on h S = record {
    same = λ t' A x.
        let q : length_of t n e ≡ suc (length_of t n p) = omega (arith, longer) in
        rw (q, undone_one (length_of t n p) t' n e x, undone_one (length_of t n p) t n e x, parent_same A e, parent, last_same A e, back_same A x h)
        (S.same t' A (back_of t n x (last_of t n e)));
  }

-- A word of no letters, and one of a single letter.
steady_none : (t : List ℕ) (n e : ℕ) → length_of t n e ≡ 0 → Steady t n e
unfolding invert_from
steady_none t n e z = record { same = λ t' A x. rw z }

pub tail_single : (t : List ℕ) (n e : ℕ) → length_of t n 0 ≡ 0 → length_of t n e ≡ 1 → last_of t n e < n → Tail t n e 0 (last_of t n e)
unfolding invert_from
tail_single t n zero z o h = absurd (omega (arith, z, o))
tail_single t n (suc e) z o h = record {
  earlier = omega arith;
  letter = h;
  longer = omega (arith, z, o);
  leads = λ x. rw (o, z);
  tail_steady = steady_none t n 0 z;
  steady = record { same = λ t' A x. rw (o, last_same A (suc e), back_same A x h) };
}

-- From the parent of e, and the tail of its word, to e and the child of that tail by the same letter.
pub tail_on : (t : List ℕ) (n e p from y first : ℕ) → parent_of t n e ≡ p → last_of t n e < n → Tail t n p from first → Follows t n from y e
    → Tail t n e y first
tail_on t n e p from y first q h T F =
    let long : length_of t n e ≡ length_of t n p + 1 = omega (arith, T.longer, F.long, F.longer) in
    let hy : last_of t n y < n = omega (arith, h, F.letter) in
    record {
      earlier = F.earlier;
      letter = T.letter;
      longer = F.longer;
      leads = λ x. last_first t n e p q long x ∙ T.leads (back_of t n x (last_of t n e))
          ∙ ap (λ (z : ℕ). back_of t n z first)
          (ap (λ (g : ℕ). invert_from (length_of t n from) t n from (back_of t n x g)) (sym F.letter) ∙ sym (last_first t n y from F.parent F.long x));
      tail_steady = steady_on t n y from F.parent F.long hy T.tail_steady;
      steady = steady_on t n e p q long h T.steady;
    }

-- What a hint is made of.
pub no_hint : (t : List ℕ) (n e : ℕ) → Hint t n e 0
no_hint t n e = record { right = λ d. absurd (d refl) }

packed_hint : {t : List ℕ} {n e tail first h : ℕ} → Tail t n e tail first → Packs tail first h → Hint t n e h
packed_hint {t} {n} {e} T P = record { right = λ d. rw (P.tail_in d, P.first_in d) T }

module _ {t : List ℕ} {n e : ℕ} (small : n < 256) {g : ℕ} (last : g ≡ last_of t n e) (letter : g < n) where
  pub hint_single : {h : ℕ} → length_of t n 0 ≡ 0 → length_of t n e ≡ 1 → (g < 256 → Packs 0 g h) → Hint t n e h
  hint_single z o P = packed_hint (rw (← last) at (tail_single t n e z o (rw last at letter))) (P (omega arith))

  pub hint_on : {w : List ℕ} {p y from h : ℕ} → Hints t w n e → p ≡ parent_of t n e → p < e → from ≡ get_or w p 0 → (from ≡ 0 → ⊥)
      → Follows t n (tail_of from) y e → (first_of from < 256 → Packs y (first_of from) h) → Hint t n e h
  hint_on {w} {p} {y} {from} H q l f d F P =
      packed_hint
      (tail_on t n e p (tail_of from) y (first_of from) (sym q) (rw last at letter) ((rw (← f) at (H.each p l)).right d) F)
      (P (omega arith))

-- Numbers stored one after the other at the start of the work.
pub all_kept : (w : List ℕ) (count : ℕ) → Beyond w w count
all_kept w count = record { size = refl; beyond = λ i h. refl }

pub put_beyond : {w₀ w : List ℕ} {count e : ℕ} (v : ℕ) → Beyond w₀ w count → e < count → Beyond w₀ (put_at w e v) count
put_beyond {w₀} {w} {count} {e} v B l = record {
  size = put_length w e v ∙ B.size;
  beyond = λ i h. put_other w e v (λ q. omega arith) ∙ B.beyond i h;
}

pub no_hints : (t w : List ℕ) (n : ℕ) → Hints t w n 0
no_hints t w n = record { each = λ i h. absurd (omega arith) }

pub next_hint : {t w : List ℕ} {n e h : ℕ} → Hints t w n e → h < 4294967296 → Hint t n e h → Hints t (put_at w e h) n (e + 1)
next_hint {t} {w} {n} {e} {h} H small hint = record { each = λ i l. by i (ℕ_discrete i e) l } where
  here : Dec (e < length w) → Hint t n e (get_or (put_at w e h) e 0)
  here (yes m) = rw (put_same w e h m small) hint
  here (no d) = let m : length w ≤ e = omega arith in rw (put_at_out w e h m, get_or-eq_default w 0 m) (no_hint t n e)

  by : (i : ℕ) → Dec (i ≡ e) → i < e + 1 → Hint t n i (get_or (put_at w e h) i 0)
  by i (yes q) l = rw q (here (dec_lt e (length w)))
  by i (no d) l = rw (put_other w e h d) (H.each i (omega arith))

pub none_counted : (w : List ℕ) (n count : ℕ) → CountedAgain w w n 0 count
none_counted w n count = record { each = λ i h. absurd (omega arith); rest = all_kept w count }

pub next_counted : {w₀ w : List ℕ} {n e count : ℕ} → n < 4294967296 → CountedAgain w₀ w n e count → e < count → CountedAgain w₀ (put_at w e n) n (e + 1) count
next_counted {w₀} {w} {n} {e} {count} small C l = record { each = λ i h m. by i (ℕ_discrete i e) h m; rest = put_beyond n C.rest l } where
  by : (i : ℕ) → Dec (i ≡ e) → i < e + 1 → i < length w₀ → get_or (put_at w e n) i 0 ≡ n
  by i (yes q) h m = rw q (put_same w e n (omega (arith, C.rest.size)) small)
  by i (no d) h m = put_other w e n d ∙ C.each i (omega arith) m

-- Where e has passed the last element.
pub hints_end : {t w : List ℕ} {n e : ℕ} (count : ℕ) → Hints t w n e → count ≤ e → Hints t w n count
hints_end count H l = record { each = λ i h. H.each i (omega arith) }

pub counted_end : {w₀ w : List ℕ} {n e count : ℕ} → CountedAgain w₀ w n e count → count ≤ e → CountedAgain w₀ w n count count
counted_end C l = record { each = λ i h m. C.each i (omega arith) m; rest = C.rest }

-- The inverses that were written, and those that are left.
pub record Filling (t₀ : List ℕ) (n count e : ℕ) (t : List ℕ) : Type 0 where
  pub rest : fill_inverses (count - e) t n e ≡ fill_inverses count t₀ n 0
  pub size : length t ≡ length t₀
  pub alike : SameButInverses t₀ t n
  pub stored : (i : ℕ) → i < e → start_of n i + 2 * n + 3 < length t₀ → Steady t₀ n i → inverse_of t n i ≡ invert_of t₀ n i

pub filling : (t : List ℕ) (n count : ℕ) → Filling t n count 0 t
filling t n count = record {
  rest = rw sub-zero;
  size = refl;
  alike = record { cells = λ i e k h q. refl };
  stored = λ i h. absurd (omega arith);
}

-- A row before one that has something in it is inside the table.
row_inside : (t : List ℕ) (n : ℕ) {y e : ℕ} → y < e → (length_of t n e ≡ 0 → ⊥) → start_of n y + 2 * n + 3 < length t
unfolding start_of
row_inside t n {y} {e} l d = by (dec_lt (e * (2 * n + 4) + 2 * n + 2) (length t)) where
  by : Dec (e * (2 * n + 4) + 2 * n + 2 < length t) → y * (2 * n + 4) + 2 * n + 3 < length t
  by (yes h) = omega (arith, inside {k = 2 * n + 3} {w = 2 * n + 4} l (omega arith))
  by (no c) = absurd (d (get_or-eq_default t 0 (omega arith)))

module _ {t₀ : List ℕ} {n count e : ℕ} {t : List ℕ} (F : Filling t₀ n count e t) where
  written : Steady t₀ n e → invert_of t n e ≡ invert_of t₀ n e
  written S = rw (length_same F.alike e) (S.same t F.alike 0)

  by_tail : {y first : ℕ} → Tail t₀ n e y first → back_of t n (inverse_of t n y) first ≡ invert_of t n e
  by_tail {y} {first} T =
      let a : inverse_of t n y ≡ invert_of t₀ n y = F.stored y T.earlier (row_inside t₀ n T.earlier (λ z. omega (arith, T.longer))) T.tail_steady in
      ap (λ (x : ℕ). back_of t n x first) a ∙ back_same F.alike (invert_of t₀ n y) T.letter ∙ sym (T.leads 0) ∙ sym (written T.steady)

  pub by_hint : {h k : ℕ} → h ≡ k → Hint t₀ n e k → inverse_by t n e h ≡ invert_of t n e
  by_hint {h} read hint = by (ℕ_discrete h 0) where
    H : Hint t₀ n e h
    H = rw read hint

    by : Dec (h ≡ 0) → inverse_by t n e h ≡ invert_of t n e
    by (yes z) = simp (eq-eqb _ _ z)
    by (no d) = simp (ne_eqb _ _ d) (by_tail (H.right d))

  pub fills : {v : ℕ} → e < count → v < 4294967296 → v ≡ invert_of t n e → Filling t₀ n count (e + 1) (put_at t (start_of n e + 2 * n + 3) v)
  unfolding fill_inverses
  fills {v} l small q =
      let at = start_of n e + 2 * n + 3 in
      record {
        rest = rw q (rw (left_suc l) at F.rest);
        size = put_length t at v ∙ F.size;
        alike = record {
          cells = λ i d k h p.
              put_other t at v (λ r. other_cell n {k = k} (omega arith) d e {k' = 2 * n + 3} (omega arith) (omega arith) (omega arith))
              ∙ F.alike.cells i d k h p;
        };
        stored = λ i h m S. by i h m S (ℕ_discrete i e);
      } where
        by : (i : ℕ) → i < e + 1 → start_of n i + 2 * n + 3 < length t₀ → Steady t₀ n i → Dec (i ≡ e)
            → inverse_of (put_at t (start_of n e + 2 * n + 3) v) n i ≡ invert_of t₀ n i
        by i h m S (yes r) =
            let m' : start_of n e + 2 * n + 3 < length t = rw (← r) (rw F.size m) in
            rw r (put_same t (start_of n e + 2 * n + 3) v m' small ∙ q ∙ written (rw r at S))
        by i h m S (no d) =
            put_other t (start_of n e + 2 * n + 3) v
            (λ r. other_row n {k = 2 * n + 3} (omega arith) i e {k' = 2 * n + 3} (omega arith) d (omega arith))
            ∙ F.stored i (omega arith) m S

  pub filled : count ≤ e → t ≡ fill_inverses count t₀ n 0
  unfolding fill_inverses
  filled h = let z : count - e ≡ 0 = omega arith in rw z at F.rest
