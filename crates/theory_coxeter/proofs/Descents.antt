-- An element that two generators i and j make shorter is as far above the lowest element that these two lead to as it can be: it goes down all the way by letters
-- i j i .. in turn, as many as the pair's order, and by j i j .. as well.
use mathlib.Core.Path.{◌≡◌, refl, sym, ap, ◌∙◌}
use mathlib.Core.Bool.{Bool, true, false, false≢true}
use mathlib.Core.Logic.{◌⊎◌, inl, inr, ⊎_elim}
use mathlib.Core.List.{List, ◌++◌}
use Prim.Native.Nat.{ℕ, zero, suc, ◌+◌, ◌-◌, ◌<◌, ◌≤◌}
use native.Mathlib.Nat.{lt_trans}
use native.Mathlib.Decide.{dec_lt, dec_le}
use native.Mathlib.Omega.{arith}
use lib.ListN.{length}
use Rattle.theory.specs.AnyGroup.{GroupOver, word_product}
use Rattle.theory.proofs.Least.{Least, least_of}
use Rattle.theory.proofs.Walking.{word_append}
use Rattle.theory.proofs.Universal.{product_append}
use Rattle.theory_coxeter.specs.Coxeter.{turns, times, Presents, ExactOrders, ShortestWords, Descent}
use Rattle.theory_coxeter.proofs.Algebra.{cancel_left, cancel_right, times_add, involution, round}
use Rattle.theory_coxeter.proofs.Flipping.{mark_no, flips_none}
use Rattle.theory_coxeter.proofs.Sides.{mirror, mirror_times, crosses, side, side_append, side_turns}
use Rattle.theory_coxeter.proofs.Exchange.{struck_left, struck_shorter, ascends, descent_side}
use Rattle.theory_coxeter.proofs.Turns.{swapped, letter_at, letter_below, turns_word, letters, turned, turned_suc, turned_less, turned_meets, mirror_turned}
use Rattle.theory_coxeter.proofs.Dihedral.{Two, two_swap, Near, here, on, Normal, near_normal, near_turned, near_mirror, near_on, near_back, one_more}

-- Reflections of two generators before the order is reached are different.
mirror_apart : {A : Type 0} (G : GroupOver A) (gen : ℕ → A) {i j M : ℕ} → Two G gen i j M → (k l : ℕ) → l < k → k < M → ¬ (mirror G gen i j k ≡ mirror G gen i j l)
mirror_apart G gen {i} {j} T k l lk kM e =
    let r = G.op (gen i) (gen j) in
    let q : k ≡ (k - l) + l = omega arith in
    let p : times G r k ≡ times G r l = cancel_right G (times G r k) (times G r l) (gen i) (sym (mirror_times G gen i j k) ∙ e ∙ mirror_times G gen i j l) in
    let s : times G r k ≡ G.op (times G r (k - l)) (times G r l) = ap (times G r) q ∙ times_add G r (k - l) l in
    T.exact {k = k - l} (omega arith) (omega arith) (cancel_right G (times G r (k - l)) G.unit (times G r l) (sym s ∙ p ∙ sym (G.left_unit (times G r l))))

module _ {A : Type 0} (G : GroupOver A) (gen : ℕ → A) (alike : (a b : A) → Dec (a ≡ b)) {n : ℕ} {m : ℕ → ℕ → ℕ} (P : Presents G gen n m)
    {word : A → List ℕ} (S : ShortestWords G gen n word) where
  abbrev len : A → ℕ
  len a = length (word a)

  -- z is the lowest that i and j lead to from it.
  record Lowest (i j : ℕ) (z : A) : Type 0 where
    low : (y : A) → Near G gen i j z y → len z ≤ len y

  -- From the lowest each further letter goes up: the bit of the reflection t that it would cross is not turned over on the way to the lowest, which t would make
  -- shorter, and not after it, where other reflections are crossed.
  climbs_by : {i j M : ℕ} (T : Two G gen i j M) (z : A) → i < n → j < n → Lowest i j z → (k : ℕ) → k < M → (t : A) → G.op t z ≡ G.op z (mirror G gen i j k)
      → ¬ Descent G gen word (G.op z (turned G gen i j k)) (letter_at i j k)
  climbs_by {i} {j} {M} T z hi hj L k hk t tz d = false≢true (sym zero_bit ∙ one_bit) where
    u : A
    u = G.op z (turned G gen i j k)

    w : List ℕ
    w = word z ++ turns i j k

    tu : G.op t u ≡ G.op u (gen (letter_at i j k))
    tu = cc (
      tz,
      G.assoc t z (turned G gen i j k),
      G.assoc z (mirror G gen i j k) (turned G gen i j k),
      mirror_turned G gen i j k T.first T.second,
      turned_suc G gen i j k,
      G.assoc z (turned G gen i j k) (gen (letter_at i j k)),
    )

    one_bit : side G gen alike t G.unit w false ≡ true
    one_bit = descent_side G gen alike P S u t (letter_at i j k) w (letter_below hi hj k) (word_append (S.over z) (turns_word hi hj k))
        (cc (product_append G gen (word z) (turns i j k), S.spells z)) tu d

    start_bit : (b : Bool) → side G gen alike t G.unit (word z) false ≡ b → b ≡ false
    start_bit true h =
        let less = struck_shorter G gen alike P S (word z) (G.op t (word_product G gen (word z))) (S.over z) (struck_left G gen alike P t (word z) (S.over z) h) in
        let q : G.op t (word_product G gen (word z)) ≡ G.op z (mirror G gen i j k) = cc (S.spells z, tz) in
        absurd (omega (arith, L.low (G.op z (mirror G gen i j k)) (near_mirror G gen i j k (inl refl) (inr refl) here), rw q at less))
    start_bit false h = refl

    apart : (l : ℕ) → l < k → crosses G gen alike t z (mirror G gen i j l) ≡ false
    apart l lk = mark_no (alike (G.op t z) (G.op z (mirror G gen i j l)))
        (λ e. mirror_apart G gen T k l lk hk (cancel_left G (mirror G gen i j k) (mirror G gen i j l) z (sym tz ∙ e)))

    zero_bit : side G gen alike t G.unit w false ≡ false
    zero_bit =
        side_append G gen alike t G.unit (word z) (turns i j k) false
        ∙ ap (λ x. side G gen alike t x (turns i j k) (side G gen alike t G.unit (word z) false)) (G.left_unit (word_product G gen (word z)) ∙ S.spells z)
        ∙ ap (side G gen alike t z (turns i j k)) (start_bit (side G gen alike t G.unit (word z) false) refl)
        ∙ side_turns G gen alike t z i j k false T.first T.second
        ∙ flips_none k (λ l. crosses G gen alike t z (mirror G gen i j l)) false apart

  climbs : {i j M : ℕ} (T : Two G gen i j M) (z : A) → i < n → j < n → Lowest i j z → (k : ℕ) → k < M
      → ¬ Descent G gen word (G.op z (turned G gen i j k)) (letter_at i j k)
  climbs {i} {j} T z hi hj L k hk =
      let y = G.op z (mirror G gen i j k) in
      climbs_by T z hi hj L k hk (G.op y (G.inv z)) (cc (G.assoc y (G.inv z) z, G.left_inverse z, G.right_unit y))

  climbed : {i j M : ℕ} (T : Two G gen i j M) (z : A) → i < n → j < n → Lowest i j z → (k : ℕ) → k ≤ M → len (G.op z (turned G gen i j k)) ≡ len z + k
  climbed T z hi hj L zero hk = ap len (G.right_unit z) ∙ omega arith
  climbed {i} {j} T z hi hj L (suc k) hk =
      let a = ascends G gen alike P S (G.op z (turned G gen i j k)) (letter_at i j k) (letter_below hi hj k) (climbs T z hi hj L k hk) in
      omega (arith, climbed T z hi hj L k (omega arith), rw (one_more G gen z i j k) at a)

  -- There is a lowest.
  lowest : {i j M : ℕ} → Two G gen i j M → (x : A) → (z : A) × Near G gen i j x z × Lowest i j z
  lowest {i} {j} {M} T x = by (least_of (λ l. len (G.op x (turned G gen i j l))) M) (least_of (λ l. len (G.op x (turned G gen j i l))) M) where
    by : Least (λ l. len (G.op x (turned G gen i j l))) (suc M) → Least (λ l. len (G.op x (turned G gen j i l))) (suc M) → (z : A) × Near G gen i j x z × Lowest i j z
    by K L = choose (dec_le (len (G.op x (turned G gen i j K.place))) (len (G.op x (turned G gen j i L.place)))) where
      -- What is not above any of these is lowest.
      under : (z : A) → Near G gen i j x z → ((k : ℕ) → k ≤ M → len z ≤ len (G.op x (turned G gen i j k))) → ((k : ℕ) → k ≤ M → len z ≤ len (G.op x (turned G gen j i k)))
          → Lowest i j z
      under z N f g = record { low = λ y Q. at y (near_normal G gen T (near_on G gen N Q)) } where
        at : (y : A) → Normal G gen i j M x y → len z ≤ len y
        at y R = ⊎_elim (λ e. rw e (f R.count R.most)) (λ e. rw e (g R.count R.most)) R.is

      choose : Dec (len (G.op x (turned G gen i j K.place)) ≤ len (G.op x (turned G gen j i L.place))) → (z : A) × Near G gen i j x z × Lowest i j z
      choose (yes h) =
          let z = G.op x (turned G gen i j K.place) in
          let N = near_turned G gen i j K.place (inl refl) (inr refl) here in
          (z, N, under z N (λ k hk. K.least k (omega arith)) (λ k hk. omega (arith, L.least k (omega arith))))
      choose (no h) =
          let z = G.op x (turned G gen j i L.place) in
          let N = near_turned G gen j i L.place (inr refl) (inl refl) here in
          (z, N, under z N (λ k hk. omega (arith, K.least k (omega arith))) (λ k hk. L.least k (omega arith)))

  -- What both generators make shorter is M letters above the lowest.
  record Top (i j M : ℕ) (x : A) : Type 0 where
    z : A
    low : Lowest i j z
    is : x ≡ G.op z (turned G gen i j M)

  lowest_swap : {i j : ℕ} {z : A} → Lowest i j z → Lowest j i z
  lowest_swap {i} {j} {z} L = record { low = λ y N. L.low y (near_swap N) } where
    near_swap : {y : A} → Near G gen j i z y → Near G gen i j z y
    near_swap here = here
    near_swap (on c h N) = on c (swapped h) (near_swap N)

  full : {i j M : ℕ} → Two G gen i j M → (x z : A) (k : ℕ) → i < n → j < n → Lowest i j z → k ≤ M → x ≡ G.op z (turned G gen i j k)
      → Descent G gen word x i → Descent G gen word x j → k ≡ M
  full {i} {j} {M} T x z k hi hj L hk e di dj = by (dec_lt k M) where
    down : Descent G gen word x (letter_at i j k)
    down = ⊎_elim (λ h. rw h.0 di) (λ h. rw h.0 dj) (letters i j k)

    by : Dec (k < M) → k ≡ M
    by (yes l) = absurd (climbs T z hi hj L k l (rw e at down))
    by (no l) = omega arith

  top : {i j M : ℕ} → Two G gen i j M → (x : A) → i < n → j < n → Descent G gen word x i → Descent G gen word x j → Top i j M x
  top {i} {j} {M} T x hi hj di dj =
      let l = lowest T x in
      found l.0 l.2 (near_normal G gen T (near_back G gen T l.1)) where
        found : (z : A) → Lowest i j z → Normal G gen i j M z x → Top i j M x
        found z L R = ⊎_elim
            (λ e. record { z = z; low = L; is = e ∙ ap (λ k. G.op z (turned G gen i j k)) (full T x z R.count hi hj L R.most e di dj) })
            (λ e. record {
              z = z;
              low = L;
              is = e ∙ ap (λ k. G.op z (turned G gen j i k)) (full (two_swap G gen T) x z R.count hj hi (lowest_swap L) R.most e dj di)
                  ∙ ap (G.op z) (sym (turned_meets G gen i j M T.first T.second T.returns));
            })
            R.is

  -- From there down.
  down : {i j M : ℕ} → Two G gen i j M → (z : A) (k l : ℕ) → i < n → j < n → Lowest i j z → k + l ≡ M
      → len (G.op (G.op z (turned G gen i j M)) (turned G gen (letter_at j i M) (letter_at i j M) l)) + l ≡ len z + M
  down {i} {j} {M} T z k l hi hj L q =
      let x = turned G gen i j M in
      let y = turned G gen (letter_at j i M) (letter_at i j M) l in
      let e : G.op x y ≡ turned G gen i j k = rw q at (turned_less G gen i j k l T.first T.second) in
      let f : G.op (G.op z x) y ≡ G.op z (turned G gen i j k) = G.assoc z x y ∙ ap (G.op z) e in
      omega (arith, ap len f, climbed T z hi hj L k (omega arith))

  two_descents_by : {i j M : ℕ} → Two G gen i j M → (x : A) → i < n → j < n → Descent G gen word x i → Descent G gen word x j
      → (k : ℕ) → k ≤ M → len (G.op x (turned G gen i j k)) + k ≡ len x
  two_descents_by {i} {j} {M} T x hi hj di dj k hk = by (top T x hi hj di dj) (letters i j M) where
    by : Top i j M x → ((letter_at i j M ≡ i) × (letter_at j i M ≡ j)) ⊎ ((letter_at i j M ≡ j) × (letter_at j i M ≡ i))
        → len (G.op x (turned G gen i j k)) + k ≡ len x
    by K (inl h) =
        let d = down (two_swap G gen T) K.z (M - k) k hj hi (lowest_swap K.low) (omega arith) in
        let e : x ≡ G.op K.z (turned G gen j i M) = K.is ∙ ap (G.op K.z) (turned_meets G gen i j M T.first T.second T.returns) in
        let c = climbed (two_swap G gen T) K.z hj hi (lowest_swap K.low) M (omega arith) in
        omega (arith, c, ap len e, rw (h.0, h.1, ← e) at d)
    by K (inr h) =
        let d = down T K.z (M - k) k hi hj K.low (omega arith) in
        let c = climbed T K.z hi hj K.low M (omega arith) in
        omega (arith, c, ap len K.is, rw (h.0, h.1, ← K.is) at d)

  module _ (E : ExactOrders G gen n m) where
    two : {i j : ℕ} → i < j → j < n → Two G gen i j (m i j)
    two hi hj = record {
      first = involution G gen P (lt_trans hi hj);
      second = involution G gen P hj;
      positive = E.positive hi hj;
      returns = round G gen P hi hj;
      exact = λ pos l. E.exact hi hj pos l;
    }

    -- If i and j make x shorter, then i j i .. and j i j .. lead down from x, a step by each letter, for as many letters as the order of the pair.
    pub two_descents : {i j : ℕ} (x : A) → i < j → j < n → Descent G gen word x i → Descent G gen word x j → (k : ℕ) → k ≤ m i j
        → (len (G.op x (word_product G gen (turns i j k))) + k ≡ len x) × (len (G.op x (word_product G gen (turns j i k))) + k ≡ len x)
    two_descents x hi hj di dj k hk = (
      two_descents_by (two hi hj) x (lt_trans hi hj) hj di dj k hk,
      two_descents_by (two_swap G gen (two hi hj)) x hj (lt_trans hi hj) dj di k hk,
    )
