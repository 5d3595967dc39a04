-- The elements that two generators lead to from one: each is reached by at most M letters in turn, if the order of their product is M.
use mathlib.Core.Path.{◌≡◌, sym, ap, ◌∙◌, subst}
use mathlib.Core.Logic.{◌⊎◌, inl, inr}
use Prim.Native.Nat.{ℕ, zero, suc, ◌<◌, ◌≤◌}
use native.Mathlib.Decide.{dec_lt}
use native.Mathlib.Omega.{arith}
use Rattle.theory.specs.AnyGroup.{GroupOver}
use Rattle.theory_coxeter.specs.Coxeter.{times}
use Rattle.theory_coxeter.proofs.Algebra.{undo}
use Rattle.theory_coxeter.proofs.Sides.{mirror}
use Rattle.theory_coxeter.proofs.Turns.{swapped, letter_at, one_of, turned, square, turned_suc, turned_meets, times_swap}

-- Two involutions whose product has the order M.
pub record Two {A : Type 0} (G : GroupOver A) (gen : ℕ → A) (i j M : ℕ) : Type 0 where
  pub first : G.op (gen i) (gen i) ≡ G.unit
  pub second : G.op (gen j) (gen j) ≡ G.unit
  pub positive : 0 < M
  pub returns : times G (G.op (gen i) (gen j)) M ≡ G.unit
  pub exact : {k : ℕ} → 0 < k → k < M → ¬ (times G (G.op (gen i) (gen j)) k ≡ G.unit)

-- Reached from x by letters i and j.
pub data Near {A : Type 0} (G : GroupOver A) (gen : ℕ → A) (i j : ℕ) (x : A) : A → Type 0 where
  here : Near G gen i j x x
  on : {y : A} (c : ℕ) → (c ≡ i) ⊎ (c ≡ j) → Near G gen i j x y → Near G gen i j x (G.op y (gen c))

pub record Normal {A : Type 0} (G : GroupOver A) (gen : ℕ → A) (i j M : ℕ) (x y : A) : Type 0 where
  pub count : ℕ
  pub most : count ≤ M
  pub is : (y ≡ G.op x (turned G gen i j count)) ⊎ (y ≡ G.op x (turned G gen j i count))

module _ {A : Type 0} (G : GroupOver A) (gen : ℕ → A) where
  pub two_swap : {i j M : ℕ} → Two G gen i j M → Two G gen j i M
  two_swap {i} {j} {M} T = record {
    first = T.second;
    second = T.first;
    positive = T.positive;
    returns = times_swap G gen (gen i) (gen j) M T.returns;
    exact = λ {k} pos l e. T.exact pos l (times_swap G gen (gen j) (gen i) k e);
  }

  normal_swap : {i j M : ℕ} {x y : A} → Normal G gen i j M x y → Normal G gen j i M x y
  normal_swap N = record { count = N.count; most = N.most; is = swapped N.is }

  -- The last letter once more takes it back.
  back_one : {i j M : ℕ} → Two G gen i j M → (x : A) (k : ℕ) → G.op (G.op x (turned G gen i j (suc k))) (gen (letter_at i j k)) ≡ G.op x (turned G gen i j k)
  back_one {i} {j} T x k =
      let y = turned G gen i j k in
      let c = gen (letter_at i j k) in
      cc (turned_suc G gen i j k, G.assoc x (G.op y c) c, undo G y c (square G gen i j T.first T.second k))

  pub one_more : (x : A) (i j k : ℕ) → G.op (G.op x (turned G gen i j k)) (gen (letter_at i j k)) ≡ G.op x (turned G gen i j (suc k))
  one_more x i j k = cc (turned_suc G gen i j k, G.assoc x (turned G gen i j k) (gen (letter_at i j k)))

  -- One letter more.
  forth : {i j M : ℕ} → Two G gen i j M → (x : A) (k c : ℕ) → k ≤ M → (c ≡ i) ⊎ (c ≡ j) → Normal G gen i j M x (G.op (G.op x (turned G gen i j k)) (gen c))
  forth {i} {j} T x zero c hk (inl e) = record { count = 1; most = T.positive; is = inl (cc (G.right_unit x, G.right_unit (gen i))) }
  forth {i} {j} T x zero c hk (inr e) = record { count = 1; most = T.positive; is = inr (cc (G.right_unit x, G.right_unit (gen j))) }
  forth {i} {j} {M} T x (suc k) c hk h = by (one_of h k) (dec_lt (suc k) M) where
    by : (c ≡ letter_at i j k) ⊎ (c ≡ letter_at j i k) → Dec (suc k < M) → Normal G gen i j M x (G.op (G.op x (turned G gen i j (suc k))) (gen c))
    by (inl e) d = record { count = k; most = omega arith; is = inl (rw e (back_one T x k)) }
    by (inr e) (yes l) = record { count = suc (suc k); most = l; is = inl (rw e (one_more x i j (suc k))) }
    by (inr e) (no l) = record { count = k; most = omega arith; is = inr (rw e (ap (λ (y : A). G.op (G.op x y) (gen (letter_at j i k))) meets ∙ back_one (two_swap T) x k)) } where
      meets : turned G gen i j (suc k) ≡ turned G gen j i (suc k)
      meets = let q : M ≡ suc k = omega arith in turned_meets G gen i j (suc k) T.first T.second (rw q at T.returns)

  pub near_normal : {i j M : ℕ} → Two G gen i j M → {x y : A} → Near G gen i j x y → Normal G gen i j M x y
  near_normal {i} {j} {M} T {x} here = record { count = 0; most = omega arith; is = inl (sym (G.right_unit x)) }
  near_normal {i} {j} {M} T {x} (on {y} c h N) = by (near_normal T N) where
    by : Normal G gen i j M x y → Normal G gen i j M x (G.op y (gen c))
    by K = more K.count K.most K.is where
      more : (k : ℕ) → k ≤ M → (y ≡ G.op x (turned G gen i j k)) ⊎ (y ≡ G.op x (turned G gen j i k)) → Normal G gen i j M x (G.op y (gen c))
      more k l (inl e) = rw e (forth T x k c l h)
      more k l (inr e) = rw e (normal_swap (forth (two_swap T) x k c l (swapped h)))

  module _ {i j : ℕ} {x : A} where
    pub near_turned : {y : A} (c d k : ℕ) → (c ≡ i) ⊎ (c ≡ j) → (d ≡ i) ⊎ (d ≡ j) → Near G gen i j x y → Near G gen i j x (G.op y (turned G gen c d k))
    near_turned {y} c d zero hc hd N = rw (G.right_unit y) N
    near_turned {y} c d (suc k) hc hd N = rw (G.assoc y (gen c) (turned G gen d c k)) at (near_turned {y = G.op y (gen c)} d c k hd hc (on c hc N))

    pub near_mirror : {y : A} (c d k : ℕ) → (c ≡ i) ⊎ (c ≡ j) → (d ≡ i) ⊎ (d ≡ j) → Near G gen i j x y → Near G gen i j x (G.op y (mirror G gen c d k))
    near_mirror c d zero hc hd N = on c hc N
    near_mirror {y} c d (suc k) hc hd N =
        let a = gen c in
        let b = mirror G gen d c k in
        subst (Near G gen i j x) (G.assoc (G.op y a) b a ∙ G.assoc y a (G.op b a)) (on c hc (near_mirror {y = G.op y (gen c)} d c k hd hc (on c hc N)))

    pub near_on : {y z : A} → Near G gen i j x y → Near G gen i j y z → Near G gen i j x z
    near_on N here = N
    near_on N (on c h K) = on c h (near_on N K)

  pub near_back : {i j M : ℕ} → Two G gen i j M → {x y : A} → Near G gen i j x y → Near G gen i j y x
  near_back T here = here
  near_back {i} {j} T {x} (on {y} c h N) = near_on (subst (Near G gen i j (G.op y (gen c))) (undo G y (gen c) (twice h)) (on c h here)) (near_back T N) where
    twice : (c ≡ i) ⊎ (c ≡ j) → G.op (gen c) (gen c) ≡ G.unit
    twice (inl e) = rw e T.first
    twice (inr e) = rw e T.second
