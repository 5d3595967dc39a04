-- What is used of groups on any carrier.
use mathlib.Core.Path.{◌≡◌, refl, sym, ap}
use mathlib.Core.List.{List, [], ◌∷◌, ◌++◌}
use Prim.Native.Nat.{ℕ, zero, suc, ◌+◌, ◌<◌}
use native.Mathlib.Nat.{zero-add, suc-add, add-suc}
use Rattle.theory.specs.AnyGroup.{GroupOver, word_product}
use Rattle.theory.specs.Presentation.{alternate, double, pair}
use Rattle.theory.proofs.Universal.{product_append}
use Rattle.theory_coxeter.specs.Coxeter.{turns, times, Presents}

module _ {A : Type 0} (G : GroupOver A) where
  pub cancel_right : (a b x : A) → G.op a x ≡ G.op b x → a ≡ b
  cancel_right a b x e = cc (G.right_unit a, G.right_unit b, G.right_inverse x, G.assoc a x (G.inv x), G.assoc b x (G.inv x))

  pub cancel_left : (a b x : A) → G.op x a ≡ G.op x b → a ≡ b
  cancel_left a b x e = cc (G.left_unit a, G.left_unit b, G.left_inverse x, G.assoc (G.inv x) x a, G.assoc (G.inv x) x b)

  -- An involution twice.
  pub undo : (x a : A) → G.op a a ≡ G.unit → G.op (G.op x a) a ≡ x
  undo x a e = cc (G.assoc x a a, G.right_unit x)

  -- t·p·a is p·a·x just if t·p is p·(a·x·a), for an involution a.
  pub across : (t p a x : A) → G.op a a ≡ G.unit → G.op t (G.op p a) ≡ G.op (G.op p a) x → G.op t p ≡ G.op p (G.op a (G.op x a))
  across t p a x h e = cc (undo (G.op t p) a h, G.assoc t p a, G.assoc (G.op p a) x a, G.assoc p a (G.op x a))

  pub across_back : (t p a x : A) → G.op a a ≡ G.unit → G.op t p ≡ G.op p (G.op a (G.op x a)) → G.op t (G.op p a) ≡ G.op (G.op p a) x
  across_back t p a x h e = cc (undo x a h, G.assoc t p a, G.assoc p (G.op a (G.op x a)) a, G.assoc a (G.op x a) a, G.assoc p a x)

  pub times_add : (a : A) (j k : ℕ) → times G a (j + k) ≡ G.op (times G a j) (times G a k)
  times_add a zero k = rw (zero-add k) (sym (G.left_unit (times G a k)))
  times_add a (suc j) k = rw (suc-add j k) (cc (times_add a j k, G.assoc a (times G a j) (times G a k)))

  pub times_back : (a : A) (k : ℕ) → G.op (times G a k) a ≡ G.op a (times G a k)
  times_back a zero = cc (G.left_unit a, G.right_unit a)
  times_back a (suc k) = cc (times_back a k, G.assoc a (times G a k) a)

  -- a·(b·a)·.. is (a·b)·..·a.
  pub slide : (a b : A) (k : ℕ) → G.op a (times G (G.op b a) k) ≡ G.op (times G (G.op a b) k) a
  slide a b zero = cc (G.left_unit a, G.right_unit a)
  slide a b (suc k) =
      let x = times G (G.op b a) k in
      let y = times G (G.op a b) k in
      cc (slide a b k, G.assoc a (G.op b a) x, G.assoc a b a, G.assoc (G.op a b) a x, G.assoc (G.op a b) y a)

  module _ (gen : ℕ → A) where
    pub product_one : (u : List ℕ) (g : ℕ) → word_product G gen (u ++ g ∷ []) ≡ G.op (word_product G gen u) (gen g)
    product_one u g = cc (product_append G gen u (g ∷ []), G.right_unit (gen g))

    pub product_alternate : (i j k : ℕ) → word_product G gen (alternate i j k) ≡ times G (G.op (gen i) (gen j)) k
    product_alternate i j zero = refl
    product_alternate i j (suc k) = cc (product_alternate i j k, G.assoc (gen i) (gen j) (times G (G.op (gen i) (gen j)) k))

    module _ {n : ℕ} {m : ℕ → ℕ → ℕ} (P : Presents G gen n m) where
      pub involution : {g : ℕ} → g < n → G.op (gen g) (gen g) ≡ G.unit
      involution {g} h = cc (P.holds (double h), G.right_unit (gen g))

      pub round : {i j : ℕ} → i < j → j < n → times G (G.op (gen i) (gen j)) (m i j) ≡ G.unit
      round {i} {j} hi hj = cc (product_alternate i j (m i j), P.holds (pair hi hj))

pub alternate_turns : (i j k : ℕ) → alternate i j k ≡ turns i j (k + k)
alternate_turns i j zero = refl
alternate_turns i j (suc k) = rw (suc-add k (suc k), add-suc k k) (ap (λ (w : List ℕ). i ∷ j ∷ w) (alternate_turns i j k))
