-- An action in which the relations hold: each generator has a row of bits, and a move by k adds to the row of each l what an operator of k and l makes of the row of
-- k. The rows that two moves in turn meet are a sequence of the kind of Vectors, and its sums vanish after a round.
use mathlib.Core.Path.{◌≡◌, refl, sym, ap, ap₂, ◌∙◌, fun_ext}
use mathlib.Core.List.{List, [], ◌∷◌, ◌++◌}
use Prim.Native.Nat.{ℕ, zero, suc, ◌+◌}
use native.Mathlib.Omega.{arith}
use Rattle.theory_coxeter.specs.Coxeter.{turns}
use Rattle.theory_coxeter.proofs.Vectors.{Bits, plus, nothing, plus_comm, plus_assoc, plus_nothing, plus_undo, Additive, additive_nothing, made, made_add, window, window_front, window_none}

-- The row that the move meets, with t moves by two generators in turn before it, from the rows x and y of the two.
abbrev pub met : (Bits → Bits) → Bits → Bits → ℕ → Bits
met A x y zero = x
met A x y (suc t) = met A (plus y (A x)) x t

met_goes : (A : Bits → Bits) (x y : Bits) (s : ℕ) → met A x y (suc (suc s)) ≡ plus (A (met A x y (suc s))) (met A x y s)
met_goes A x y zero = plus_comm x (A (plus y (A x)))
met_goes A x y (suc s) = met_goes A (plus y (A x)) x s

-- Added to z in turn by c and d.
abbrev gather : (c d : Bits → Bits) (z : Bits) (f : ℕ → Bits) → ℕ → Bits
gather c d z f zero = z
gather c d z f (suc k) = gather d c (plus z (c (f 0))) (λ t. f (suc t)) k

regroup : (z a b p q : Bits) → plus (plus (plus (plus z a) b) p) q ≡ plus (plus z (plus a p)) (plus b q)
regroup z a b p q =
    ap (λ x. plus x q) (plus_assoc (plus z a) b p ∙ ap (plus (plus z a)) (plus_comm b p) ∙ sym (plus_assoc (plus z a) p b) ∙ ap (λ x. plus x b) (plus_assoc z a p))
    ∙ plus_assoc (plus z (plus a p)) b q

pub gathered : {c d : Bits → Bits} → Additive c → Additive d → (j : ℕ) (z : Bits) (f : ℕ → Bits)
    → gather c d z f (suc j + suc j) ≡ plus (plus z (c (window f 0 j))) (d (window f 1 j))
gathered C D zero z f = refl
gathered {c} {d} C D (suc j) z f =
    let two : suc (suc j) + suc (suc j) ≡ suc (suc (suc j + suc j)) = omega arith in
    let g : ℕ → Bits = λ t. f (suc (suc t)) in
    rw two (gathered C D j (plus (plus z (c (f 0))) (d (f 1))) g
    ∙ regroup z (c (f 0)) (d (f 1)) (c (window g 0 j)) (d (window g 1 j))
    ∙ ap₂ plus (ap (plus z) (sym (C.add (f 0) (window g 0 j)) ∙ ap c (sym (window_front f 0 j)))) (sym (D.add (f 1) (window g 1 j)) ∙ ap d (sym (window_front f 1 j))))

module _ (B : ℕ → ℕ → Bits → Bits) where
  abbrev pub act : ℕ → (ℕ → Bits) → ℕ → Bits
  act k f l = plus (f l) (B k l (f k))

  abbrev pub acts : List ℕ → (ℕ → Bits) → ℕ → Bits
  acts [] f = f
  acts (g ∷ w) f = acts w (act g f)

  pub acts_append : (u v : List ℕ) (f : ℕ → Bits) → acts (u ++ v) f ≡ acts v (acts u f)
  acts_append [] v f = refl
  acts_append (g ∷ u) v f = acts_append u v (act g f)

  -- A move does not touch its own row, so it undoes itself.
  pub act_twice : (k : ℕ) (f : ℕ → Bits) → ((v : Bits) → B k k v ≡ nothing) → act k (act k f) ≡ f
  act_twice k f own = fun_ext (λ l.
      ap (λ (x : Bits). plus (plus (f l) (B k l (f k))) (B k l x)) (ap (plus (f k)) (own (f k)) ∙ plus_nothing (f k)) ∙ plus_undo (f l) (B k l (f k)))

  pub acts_turns : (A : Bits → Bits) (i j k : ℕ) → ((v : Bits) → B i i v ≡ nothing) → ((v : Bits) → B j j v ≡ nothing) → B i j ≡ A → B j i ≡ A → (f : ℕ → Bits) (l : ℕ)
      → acts (turns i j k) f l ≡ gather (B i l) (B j l) (f l) (met A (f i) (f j)) k
  acts_turns A i j zero oi oj hi hj f l = refl
  acts_turns A i j (suc k) oi oj hi hj f l =
      acts_turns A j i k oj oi hj hi (act i f) l
      ∙ ap₂ (λ (x y : Bits). gather (B j l) (B i l) (plus (f l) (B i l (f i))) (met A x y) k)
      (ap (λ (b : Bits → Bits). plus (f j) (b (f i))) hi) (ap (plus (f i)) (oi (f i)) ∙ plus_nothing (f i))

  -- After a round everything is as before.
  pub acts_round : (A : Bits → Bits) (D : Additive A) (q : ℕ) → ((v : Bits) → made A q v ≡ nothing) → (i j : ℕ) → ((v : Bits) → B i i v ≡ nothing) → ((v : Bits) → B j j v ≡ nothing)
      → B i j ≡ A → B j i ≡ A → ((l : ℕ) → Additive (B i l)) → ((l : ℕ) → Additive (B j l)) → (f : ℕ → Bits) → acts (turns i j (suc q + suc q)) f ≡ f
  acts_round A D q none i j oi oj hi hj ci cj f = fun_ext (λ l.
      let s = met A (f i) (f j) in
      let w = window_none A D s (met_goes A (f i) (f j)) q none in
      acts_turns A i j (suc q + suc q) oi oj hi hj f l ∙ gathered (ci l) (cj l) q (f l) s
      ∙ ap₂ (λ (x y : Bits). plus (plus (f l) (B i l x)) (B j l y)) (w 0) (w 1)
      ∙ ap₂ (λ (x y : Bits). plus (plus (f l) x) y) (additive_nothing (ci l)) (additive_nothing (cj l))
      ∙ plus_nothing (plus (f l) nothing) ∙ plus_nothing (f l))

-- From a row beside which the other is empty, what is met is what A makes of it.
met_made : (A : Bits → Bits) (D : Additive A) (t : ℕ) (x y : Bits) → met A x y (suc t) ≡ plus (made A (suc t) x) (made A t y)
met_made A D zero x y = plus_comm y (A x)
met_made A D (suc t) x y =
    met_made A D t (plus y (A x)) x ∙ ap (λ (u : Bits). plus u (made A t x)) (made_add A D (suc t) y (A x))
    ∙ plus_assoc (made A (suc t) y) (made A (suc t) (A x)) (made A t x) ∙ plus_comm (made A (suc t) y) (plus (made A (suc t) (A x)) (made A t x))

pub met_alone : (A : Bits → Bits) (D : Additive A) (t : ℕ) (x : Bits) → met A x nothing t ≡ made A t x
met_alone A D zero x = refl
met_alone A D (suc t) x =
    met_made A D t x nothing ∙ ap (plus (made A (suc t) x)) (additive_nothing {A = made A t} (record { add = made_add A D t })) ∙ plus_nothing (made A (suc t) x)
