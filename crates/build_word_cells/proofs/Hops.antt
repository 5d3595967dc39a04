-- What putting the letters in changes: the cells that they are put into, and nothing else that a table is read by. The last letter of each word stays, and so
-- do the letters that would be put in.
use Prim.Native.Nat.{ℕ, zero, suc, ◌+◌, ◌*◌, ◌/◌, ◌%◌, ◌≤◌, ◌<◌}
use mathlib.Core.Path.{◌≡◌, refl, sym, ◌∙◌}
use mathlib.Core.Logic.{⊎_elim}
use mathlib.Core.List.{List}
use native.Mathlib.Nat.{eq-or-lt_of_le}
use native.Mathlib.Decide.{ℕ_discrete, dec_lt}
use native.Mathlib.Omega.{arith}
use lib.ListN.{length, get_or}
use Rattle.egg.specs.Table.{put_at, start_of, parent_of, hop_of, last_of}
use Rattle.build_word_cells.specs.Hops.{hop_from, without, with_hops, Hops}
use Rattle.egg.proofs.Cells.{put_same, put_other, put_length, cell_inside, other_cell, other_row}
use Rattle.egg.proofs.Laws.{put_at_out}

-- Five letters and an element's number have 31 bits: so they are stored wherever their cell is in the list.
hop_small : (t : List ℕ) (n e : ℕ) → hop_from 5 t n e < 2147483648
unfolding hop_from
hop_small t n e = omega arith

-- With no letter it is the element, whose number has 16 bits.
pub hop_element : (t : List ℕ) (n e : ℕ) → e < 65536 → hop_from 0 t n e ≡ e
unfolding hop_from
hop_element t n e h = omega arith

-- The last of the letters, and those before it.
module _ (j : ℕ) (t : List ℕ) (n e : ℕ) where
  pub hop_letter : hop_from (suc j) t n e % 8 ≡ last_of t n e
  unfolding hop_from
  hop_letter = omega arith

  pub hop_before : hop_from (suc j) t n e / 8 ≡ hop_from j t n (parent_of t n e)
  unfolding hop_from
  hop_before = omega arith

-- Without five letters it is the element before them.
pub five_off : (c : ℕ) → without 5 c ≡ c / 32768
unfolding without
five_off c = omega arith

-- They are made of parents and last letters.
pub hop_agree : (j : ℕ) (t t₁ : List ℕ) (n : ℕ) → ((e : ℕ) → parent_of t₁ n e ≡ parent_of t n e) → ((e : ℕ) → last_of t₁ n e ≡ last_of t n e)
    → (e : ℕ) → hop_from j t₁ n e ≡ hop_from j t n e
unfolding hop_from
hop_agree zero t t₁ n p l e = refl
hop_agree (suc j) t t₁ n p l e = rw (l e, p e, hop_agree j t t₁ n p l)

pub hops_long : (k : ℕ) (t : List ℕ) (n : ℕ) → length (with_hops k t n) ≡ length t
unfolding with_hops
hops_long zero t n = refl
hops_long (suc k) t n = hops_long k _ n ∙ put_length t (start_of n k + 2 * n + 1) (hop_from 5 t n k)

pub hops_other : (k : ℕ) (t : List ℕ) (n i : ℕ) → ((e : ℕ) → e < k → i ≡ start_of n e + 2 * n + 1 → ⊥) → get_or (with_hops k t n) i 0 ≡ get_or t i 0
unfolding with_hops
hops_other zero t n i d = refl
hops_other (suc k) t n i d =
    hops_other k _ n i (λ e h. d e (omega arith)) ∙ put_other t (start_of n k + 2 * n + 1) (hop_from 5 t n k) (d k (omega arith))

-- The hop cells of two elements.
other_hop : (n e x : ℕ) → (e ≡ x → ⊥) → start_of n e + 2 * n + 1 ≡ start_of n x + 2 * n + 1 → ⊥
other_hop n e x d q = other_row n {k = 2 * n + 1} (omega arith) e x {k' = 2 * n + 1} (omega arith) d (omega arith)

-- Every other cell of every row stays.
pub hops_cell : (k : ℕ) (t : List ℕ) (n e c : ℕ) → c < 2 * n + 4 → (c ≡ 2 * n + 1 → ⊥)
    → get_or (with_hops k t n) (start_of n e + c) 0 ≡ get_or t (start_of n e + c) 0
hops_cell k t n e c h d = hops_other k t n (start_of n e + c) λ x hx q. other_cell n h e x {k' = 2 * n + 1} (omega arith) d (omega arith)

-- The letters of one element, put in.
module _ (t : List ℕ) (n k : ℕ) where
  put_hop : start_of n k + 2 * n + 1 < length t → hop_of (put_at t (start_of n k + 2 * n + 1) (hop_from 5 t n k)) n k ≡ hop_from 5 t n k
  put_hop h = put_same t (start_of n k + 2 * n + 1) (hop_from 5 t n k) h (omega (arith, hop_small t n k))

  put_last : (e : ℕ) → last_of (put_at t (start_of n k + 2 * n + 1) (hop_from 5 t n k)) n e ≡ last_of t n e
  put_last e = go (ℕ_discrete e k) (dec_lt (start_of n k + 2 * n + 1) (length t)) where
    go : Dec (e ≡ k) → Dec (start_of n k + 2 * n + 1 < length t) → last_of (put_at t (start_of n k + 2 * n + 1) (hop_from 5 t n k)) n e ≡ last_of t n e
    go (yes q) (yes h) = rw (q, put_hop h) (hop_letter 4 t n k)
    go (yes q) (no h) = rw (put_at_out t (start_of n k + 2 * n + 1) (hop_from 5 t n k) (omega arith))
    go (no d) h = rw (put_other t (start_of n k + 2 * n + 1) (hop_from 5 t n k) (other_hop n e k d))

  put_from : (j e : ℕ) → hop_from j (put_at t (start_of n k + 2 * n + 1) (hop_from 5 t n k)) n e ≡ hop_from j t n e
  put_from j =
      hop_agree j t (put_at t (start_of n k + 2 * n + 1) (hop_from 5 t n k)) n
      (λ e. put_other t (start_of n k + 2 * n + 1) (hop_from 5 t n k)
      (λ q. other_cell n {k = 2 * n} (omega arith) e k {k' = 2 * n + 1} (omega arith) (λ r. omega arith) (omega arith)))
      put_last

pub hops_last : (k : ℕ) (t : List ℕ) (n e : ℕ) → last_of (with_hops k t n) n e ≡ last_of t n e
unfolding with_hops
hops_last zero t n e = refl
hops_last (suc k) t n e = hops_last k _ n e ∙ put_last t n k e

hops_from : (k : ℕ) (t : List ℕ) (n j e : ℕ) → hop_from j (with_hops k t n) n e ≡ hop_from j t n e
unfolding with_hops
hops_from zero t n j e = refl
hops_from (suc k) t n j e = hops_from k _ n j e ∙ put_from t n k j e

hops_at : (k : ℕ) (t : List ℕ) (n : ℕ) → k * (2 * n + 4) ≤ length t → (e : ℕ) → e < k → hop_of (with_hops k t n) n e ≡ hop_from 5 t n e
unfolding with_hops
hops_at zero t n room e h = absurd (omega arith)
hops_at (suc k) t n room e h =
    let p = start_of n k + 2 * n + 1 in
    let t' = put_at t p (hop_from 5 t n k) in
    let l : length t' ≡ length t = put_length t p (hop_from 5 t n k) in
    ⊎_elim
    (λ (q : e ≡ k).
    rw q
    (hops_other k t' n p (λ x hx. other_hop n k x (λ r. omega arith))
    ∙ put_hop t n k (omega (arith, cell_inside n {k = 2 * n + 1} (omega arith) {e = k} {N = suc k} (omega arith)))))
    (λ (m : e < k). hops_at k t' n (omega arith) e m ∙ put_from t n k 5 e)
    (eq-or-lt_of_le (omega arith))

pub hops_there : (t : List ℕ) (n N : ℕ) → N * (2 * n + 4) ≤ length t → Hops (with_hops N t n) n N
hops_there t n N room = record { five = λ {e} h. hops_at N t n room e h ∙ sym (hops_from N t n 5 e) }
