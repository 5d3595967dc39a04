-- Where the relations hold, the loops of the pairs close; and so they do in a table with the same steps.
use Prim.Native.Nat.{ℕ, zero, suc, ◌*◌, ◌≤◌, ◌<◌}
use mathlib.Core.Path.{◌≡◌, refl, ap, ◌∙◌, subst}
use mathlib.Core.List.{List}
use native.Mathlib.Omega.{arith}
use lib.ListN.{length, get_or}
use Rattle.theory.specs.Table.{Table}
use Rattle.theory.specs.Words.{walk}
use Rattle.theory.specs.Presentation.{pairs_below, pair_place, order_of, alternate, double, pair, Holds}
use Rattle.theory.proofs.Pairs.{pair_at}
use Rattle.enumeration_loop_laws.specs.Rings.{turn, ring, first_of_pair, second_of_pair, Looped}
use Rattle.enumeration_loop_laws.proofs.Letters.{letters_below_lem, turn_low, ring_below}
use Rattle.enumeration_loop_laws.proofs.Walking.{ring_suc}
use Rattle.enumeration_quick_laws.proofs.Pairing.{first_is, second_is}

-- All the way round is the walk of the pair's relator.
ring_walk : (step : ℕ → ℕ → ℕ) (a b m u : ℕ) → ring step a b u (2 * m) ≡ walk step u (alternate a b m)
ring_walk step a b zero u = refl
ring_walk step a b (suc m) u =
    let two : 2 * suc m ≡ suc (suc (2 * m)) = omega arith in
    rw two (ring_suc step a b u (suc (2 * m)) ∙ ring_suc step b a (step u a) (2 * m) ∙ ring_walk step a b m (step (step u a) b))

module _ {n N : ℕ} (o : List ℕ) (few : n ≤ 8) (full : length o ≡ pairs_below n) {step : ℕ → ℕ → ℕ} where
  pub holds_looped : Table n N step → Holds n N (order_of o) step → Looped n N o step
  holds_looped T H = record {
    below = λ he hg. T.closed he hg;
    twice = λ he hg. H.holds he (double hg);
    closed = λ {e} {k} he hk.
        let (i, j, hi, hj, q) = pair_at n k (rw full at hk) in
        subst (λ (x : ℕ). ring step (first_of_pair x) (second_of_pair x) e (2 * get_or o x 0) ≡ e) q (round he hi hj);
  } where
    round : {e i j : ℕ} → e < N → i < j → j < n → ring step (first_of_pair (pair_place i j)) (second_of_pair (pair_place i j)) e (2 * get_or o (pair_place i j) 0) ≡ e
    round {e} {i} {j} he hi hj = rw (first_is hi (omega arith), second_is hi (omega arith)) (ring_walk step i j (order_of o i j) e ∙ H.holds he (pair hi hj))

  module _ (L : Looped n N o step) {step' : ℕ → ℕ → ℕ} (same : (e g : ℕ) → e < N → g < n → step' e g ≡ step e g) where
    -- The same steps lead the same way round.
    ring_agree : {a b u : ℕ} → a < n → b < n → u < N → (j : ℕ) → ring step' a b u j ≡ ring step a b u j
    ring_agree ha hb hu zero = refl
    ring_agree {a} {b} {u} ha hb hu (suc j) =
        ap (λ (x : ℕ). step' x (turn a b j)) (ring_agree ha hb hu j) ∙ same (ring step a b u j) (turn a b j) (ring_below L ha hb hu j) (turn_low ha hb j)

    pub looped_agree : Looped n N o step'
    looped_agree = record {
      below = λ {e} {g} he hg. rw (same e g he hg) (L.below he hg);
      twice = λ {e} {g} he hg. rw (same e g he hg, same (step e g) g (L.below he hg) hg) (L.twice he hg);
      closed = λ {e} {k} he hk.
          let l = letters_below_lem o few full hk in
          ring_agree (omega (arith, l)) l.1 he (2 * get_or o k 0) ∙ L.closed he hk;
    }
