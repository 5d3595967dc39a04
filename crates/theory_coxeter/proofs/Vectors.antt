-- Rows of bits, with addition without carry, and what is made of an additive operator A by the rule u(j+2) = A u(j+1) + u(j).
use mathlib.Core.Path.{◌≡◌, refl, sym, ap, ap₂, ◌∙◌, fun_ext}
use mathlib.Core.Bool.{Bool, true, false}
use Prim.Native.Nat.{ℕ, zero, suc, ◌+◌}
use native.Mathlib.Omega.{arith}
use Rattle.theory_coxeter.proofs.Flipping.{toggle, toggle_twice, toggle_self}

abbrev pub Bits : Type 0
Bits = ℕ → Bool

abbrev pub plus : Bits → Bits → Bits
plus u v = λ a. toggle (u a) (v a)

abbrev pub nothing : Bits
nothing a = false

pub toggle_comm : (a b : Bool) → toggle a b ≡ toggle b a
toggle_comm true true = refl
toggle_comm true false = refl
toggle_comm false true = refl
toggle_comm false false = refl

toggle_assoc : (a b c : Bool) → toggle (toggle a b) c ≡ toggle a (toggle b c)
toggle_assoc true true true = refl
toggle_assoc true true false = refl
toggle_assoc true false c = refl
toggle_assoc false b c = refl

pub plus_comm : (u v : Bits) → plus u v ≡ plus v u
plus_comm u v = fun_ext (λ a. toggle_comm (u a) (v a))

pub plus_assoc : (u v w : Bits) → plus (plus u v) w ≡ plus u (plus v w)
plus_assoc u v w = fun_ext (λ a. toggle_assoc (u a) (v a) (w a))

pub plus_twice : (u v : Bits) → plus u (plus u v) ≡ v
plus_twice u v = fun_ext (λ a. toggle_twice (u a) (v a))

pub plus_nothing : (u : Bits) → plus u nothing ≡ u
plus_nothing u = fun_ext (λ a. toggle_comm (u a) false)

pub toggle_exchange : (a b c d : Bool) → toggle (toggle a b) (toggle c d) ≡ toggle (toggle a c) (toggle b d)
toggle_exchange a b c d =
    toggle_assoc a b (toggle c d) ∙ ap (toggle a) (sym (toggle_assoc b c d) ∙ ap (λ x. toggle x d) (toggle_comm b c) ∙ toggle_assoc c b d) ∙ sym (toggle_assoc a c (toggle b d))

-- Twice the same is nothing.
pub plus_undo : (u v : Bits) → plus (plus u v) v ≡ u
plus_undo u v = plus_assoc u v v ∙ plus_comm u (plus v v) ∙ plus_assoc v v u ∙ plus_twice v u

-- Four, with the middle two exchanged.
pub plus_exchange : (a b c d : Bits) → plus (plus a b) (plus c d) ≡ plus (plus a c) (plus b d)
plus_exchange a b c d = fun_ext (λ i. toggle_exchange (a i) (b i) (c i) (d i))

toggle_last : (w x y : Bool) → toggle (toggle (toggle w x) y) w ≡ toggle y x
toggle_last true true true = refl
toggle_last true true false = refl
toggle_last true false true = refl
toggle_last true false false = refl
toggle_last false true true = refl
toggle_last false true false = refl
toggle_last false false true = refl
toggle_last false false false = refl

pub plus_last : (w x y : Bits) → plus (plus (plus w x) y) w ≡ plus y x
plus_last w x y = fun_ext (λ a. toggle_last (w a) (x a) (y a))

-- A goes with addition.
pub record Additive (A : Bits → Bits) : Type 0 where
  pub add : (u v : Bits) → A (plus u v) ≡ plus (A u) (A v)

pub additive_nothing : {A : Bits → Bits} → Additive A → A nothing ≡ nothing
additive_nothing {A} D = sym (plus_undo (A nothing) (A nothing)) ∙ ap (λ x. plus x (A nothing)) (sym (D.add nothing nothing)) ∙ fun_ext (λ a. toggle_self (A nothing a))

-- f s + f (s+2) + .. , j + 1 of them.
abbrev pub window : (ℕ → Bits) → ℕ → ℕ → Bits
window f s zero = f s
window f s (suc j) = plus (window f s j) (f (s + (suc j + suc j)))

-- The first of them apart, and all of them from two further on.
pub window_front : (f : ℕ → Bits) (s j : ℕ) → window f s (suc j) ≡ plus (f s) (window (λ t. f (suc (suc t))) s j)
window_front f s zero = ap (λ r. plus (f s) (f r)) (omega arith)
window_front f s (suc j) =
    let i : s + (suc (suc j) + suc (suc j)) ≡ suc (suc (s + (suc j + suc j))) = omega arith in
    ap₂ plus (window_front f s j) (ap f i) ∙ plus_assoc (f s) (window (λ t. f (suc (suc t))) s j) (f (suc (suc (s + (suc j + suc j)))))

module _ (A : Bits → Bits) where
  abbrev pub made : ℕ → Bits → Bits
  made zero v = v
  made (suc zero) v = A v
  made (suc (suc j)) v = plus (made (suc j) (A v)) (made j v)

  module _ (D : Additive A) where
    pub made_add : (j : ℕ) (u v : Bits) → made j (plus u v) ≡ plus (made j u) (made j v)
    made_add zero u v = refl
    made_add (suc zero) u v = D.add u v
    made_add (suc (suc j)) u v =
        ap₂ plus (ap (made (suc j)) (D.add u v) ∙ made_add (suc j) (A u) (A v)) (made_add j u v)
        ∙ plus_exchange (made (suc j) (A u)) (made (suc j) (A v)) (made j u) (made j v)

    made_after : (j : ℕ) (v : Bits) → made j (A v) ≡ A (made j v)
    made_after zero v = refl
    made_after (suc zero) v = refl
    made_after (suc (suc j)) v =
        ap₂ plus (made_after (suc j) (A v)) (made_after j v) ∙ sym (D.add (made (suc j) (A v)) (made j v))

    pub made_swap : (j k : ℕ) (v : Bits) → made j (made k v) ≡ made k (made j v)
    made_swap zero k v = refl
    made_swap (suc zero) k v = sym (made_after k v)
    made_swap (suc (suc j)) k v =
        ap₂ plus (ap (made (suc j)) (sym (made_after k v)) ∙ made_swap (suc j) k (A v)) (made_swap j k v) ∙ sym (made_add k (made (suc j) (A v)) (made j v))

    -- A sequence in which each is A of the one before and the one before that.
    module _ (f : ℕ → Bits) (goes : (s : ℕ) → f (suc (suc s)) ≡ plus (A (f (suc s))) (f s)) where
      across : (s : ℕ) → A (f (suc s)) ≡ plus (f (suc (suc s))) (f s)
      across s = sym (plus_undo (A (f (suc s))) (f s)) ∙ ap (λ x. plus x (f s)) (sym (goes s))

      pub made_window : (j s : ℕ) → made j (f (s + j)) ≡ window f s j
      made_window zero s = ap f (omega arith)
      made_window (suc zero) s =
          let i : s + 1 ≡ suc s = omega arith in
          let j : s + (1 + 1) ≡ suc (suc s) = omega arith in
          rw (i, j) (across s ∙ plus_comm (f (suc (suc s))) (f s))
      made_window (suc (suc j)) s =
          let i : s + suc (suc j) ≡ suc (s + suc j) = omega arith in
          let x = f (suc (suc s) + (suc j + suc j)) in
          let k : A (f (s + suc (suc j))) ≡ plus (f (suc (suc s) + suc j)) (f (s + suc j)) =
          ap (λ r. A (f r)) i ∙ across (s + suc j) ∙ ap (λ r. plus (f r) (f (s + suc j))) (omega arith) in
          let l : made (suc j) (A (f (s + suc (suc j)))) ≡ plus (plus (window f (suc (suc s)) j) x) (window f s (suc j)) =
          ap (made (suc j)) k ∙ made_add (suc j) (f (suc (suc s) + suc j)) (f (s + suc j)) ∙ ap₂ plus (made_window (suc j) (suc (suc s))) (made_window (suc j) s) in
          let r : made j (f (s + suc (suc j))) ≡ window f (suc (suc s)) j = ap (λ q. made j (f q)) (omega arith) ∙ made_window j (suc (suc s)) in
          ap₂ plus l r ∙ plus_last (window f (suc (suc s)) j) x (window f s (suc j)) ∙ ap (λ q. plus (window f s (suc j)) (f q)) (omega arith)

      -- If A makes nothing by so many, a round of them is nothing, and the sequence repeats.
      module _ (q : ℕ) (none : (v : Bits) → made q v ≡ nothing) where
        pub window_none : (s : ℕ) → window f s q ≡ nothing
        window_none s = sym (made_window q s) ∙ none (f (s + q))
