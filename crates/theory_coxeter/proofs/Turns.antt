-- What is used of i j i .. : its last letter, its reverse, and that k letters lead to where the other k letters lead if (i j)^k is the identity.
use mathlib.Core.Path.{◌≡◌, refl, sym, ap, ◌∙◌}
use mathlib.Core.Logic.{◌⊎◌, inl, inr}
use Prim.Native.Nat.{ℕ, zero, suc, ◌+◌, ◌<◌}
use native.Mathlib.Nat.{zero-add, suc-add}
use Rattle.theory.specs.Words.{Word, empty, letter}
use Rattle.theory.specs.AnyGroup.{GroupOver, word_product}
use Rattle.theory_coxeter.specs.Coxeter.{turns, times}
use Rattle.theory_coxeter.proofs.Algebra.{cancel_right, cancel_left, undo, slide, product_alternate, alternate_turns}
use Rattle.theory_coxeter.proofs.Sides.{mirror}

-- Either, the other way round.
pub swapped : {P Q : Type 0} → P ⊎ Q → Q ⊎ P
swapped (inl p) = inr p
swapped (inr q) = inl q

-- The letter after the first k of i j i ..
abbrev pub letter_at : ℕ → ℕ → ℕ → ℕ
letter_at i j zero = i
letter_at i j (suc k) = letter_at j i k

pub letter_below : {n i j : ℕ} → i < n → j < n → (k : ℕ) → letter_at i j k < n
letter_below hi hj zero = hi
letter_below hi hj (suc k) = letter_below hj hi k

pub turns_word : {n i j : ℕ} → i < n → j < n → (k : ℕ) → Word n (turns i j k)
turns_word hi hj zero = empty
turns_word hi hj (suc k) = letter hi (turns_word hj hi k)

-- i and j are the next letters of i j i .. and of j i j .. in one order or the other.
pub letters : (i j k : ℕ) → ((letter_at i j k ≡ i) × (letter_at j i k ≡ j)) ⊎ ((letter_at i j k ≡ j) × (letter_at j i k ≡ i))
letters i j zero = inl (refl, refl)
letters i j (suc k) = turned (letters i j k) where
  turned : ((letter_at i j k ≡ i) × (letter_at j i k ≡ j)) ⊎ ((letter_at i j k ≡ j) × (letter_at j i k ≡ i))
      → ((letter_at j i k ≡ i) × (letter_at i j k ≡ j)) ⊎ ((letter_at j i k ≡ j) × (letter_at i j k ≡ i))
  turned (inl h) = inr (h.1, h.0)
  turned (inr h) = inl (h.1, h.0)

pub one_of : {c i j : ℕ} → (c ≡ i) ⊎ (c ≡ j) → (k : ℕ) → (c ≡ letter_at i j k) ⊎ (c ≡ letter_at j i k)
one_of h zero = h
one_of h (suc k) = swapped (one_of h k)

letter_add : (i j k l : ℕ) → letter_at i j (k + l) ≡ letter_at (letter_at i j k) (letter_at j i k) l
letter_add i j zero l = rw (zero-add l)
letter_add i j (suc k) l = rw (suc-add k l) (letter_add j i k l)

module _ {A : Type 0} (G : GroupOver A) (gen : ℕ → A) where
  -- What i j i .. with k letters multiplies to.
  abbrev pub turned : ℕ → ℕ → ℕ → A
  turned i j k = word_product G gen (turns i j k)

  pub turned_suc : (i j k : ℕ) → turned i j (suc k) ≡ G.op (turned i j k) (gen (letter_at i j k))
  turned_suc i j zero = cc (G.left_unit (gen i), G.right_unit (gen i))
  turned_suc i j (suc k) = cc (turned_suc j i k, G.assoc (gen i) (turned j i k) (gen (letter_at j i k)))

  pub turned_add : (i j k l : ℕ) → turned i j (k + l) ≡ G.op (turned i j k) (turned (letter_at i j k) (letter_at j i k) l)
  turned_add i j zero l = rw (zero-add l) (sym (G.left_unit (turned i j l)))
  turned_add i j (suc k) l = rw (suc-add k l)
      (cc (turned_add j i k l, G.assoc (gen i) (turned j i k) (turned (letter_at j i k) (letter_at i j k) l)))

  -- From p by the reflection that k letters come to, and then k letters, is k + 1 letters.
  pub mirror_turned : (i j k : ℕ) → G.op (gen i) (gen i) ≡ G.unit → G.op (gen j) (gen j) ≡ G.unit → G.op (mirror G gen i j k) (turned i j k) ≡ turned i j (suc k)
  mirror_turned i j zero hi hj = refl
  mirror_turned i j (suc k) hi hj =
      let a = gen i in
      let x = mirror G gen j i k in
      let y = turned j i k in
      cc (mirror_turned j i k hj hi, undo G x a hi, G.assoc a (G.op x a) (G.op a y), G.assoc (G.op x a) a y)

  module _ (i j : ℕ) (hi : G.op (gen i) (gen i) ≡ G.unit) (hj : G.op (gen j) (gen j) ≡ G.unit) where
    pub square : (k : ℕ) → G.op (gen (letter_at i j k)) (gen (letter_at i j k)) ≡ G.unit
    square k = by (letters i j k) where
      by : ((letter_at i j k ≡ i) × (letter_at j i k ≡ j)) ⊎ ((letter_at i j k ≡ j) × (letter_at j i k ≡ i)) → G.op (gen (letter_at i j k)) (gen (letter_at i j k)) ≡ G.unit
      by (inl h) = rw h.0 hi
      by (inr h) = rw h.0 hj

    -- The same letters backwards undo it.
    pub turned_back : (k : ℕ) → G.op (turned i j k) (turned (letter_at j i k) (letter_at i j k) k) ≡ G.unit
    turned_back zero = G.left_unit G.unit
    turned_back (suc k) =
        let x = turned i j k in
        let c = gen (letter_at i j k) in
        let y = turned (letter_at j i k) (letter_at i j k) k in
        cc (turned_suc i j k, turned_back k, G.assoc (G.op x c) c y, undo G x c (square k))

  pub turned_less : (i j k l : ℕ) → G.op (gen i) (gen i) ≡ G.unit → G.op (gen j) (gen j) ≡ G.unit
      → G.op (turned i j (k + l)) (turned (letter_at j i (k + l)) (letter_at i j (k + l)) l) ≡ turned i j k
  turned_less i j k l hi hj =
      let e = letter_at i j k in
      let f = letter_at j i k in
      let y = turned e f l in
      let x = turned i j k in
      let b = turned_back e f (square i j hi hj k) (square j i hj hi k) l in
      rw (letter_add j i k l, letter_add i j k l, turned_add i j k l) (cc (b, G.assoc x y (turned (letter_at f e l) (letter_at e f l) l), G.right_unit x))

  -- Both ways round a relation meet.
  pub turned_meets : (i j k : ℕ) → G.op (gen i) (gen i) ≡ G.unit → G.op (gen j) (gen j) ≡ G.unit → times G (G.op (gen i) (gen j)) k ≡ G.unit
      → turned i j k ≡ turned j i k
  turned_meets i j k hi hj e =
      let y = turned (letter_at i j k) (letter_at j i k) k in
      let p : turned i j (k + k) ≡ G.unit = ap (word_product G gen) (sym (alternate_turns i j k)) ∙ product_alternate G gen i j k ∙ e in
      cancel_right G (turned i j k) (turned j i k) y (sym (turned_add i j k k) ∙ p ∙ sym (turned_back j i hj hi k))

  pub times_swap : (a b : A) (k : ℕ) → times G (G.op a b) k ≡ G.unit → times G (G.op b a) k ≡ G.unit
  times_swap a b k e = cancel_left G (times G (G.op b a) k) G.unit a (cc (slide G a b k, G.left_unit a, G.right_unit a))
