-- A walk along two letters in turn, taken back; and a loop, taken the other way round and taken twice.
use Prim.Native.Nat.{ℕ, suc, ◌+◌, ◌-◌, ◌%◌, ◌<◌, ◌≤◌}
use mathlib.Core.Path.{◌≡◌, sym}
use mathlib.Core.List.{List}
use native.Mathlib.Omega.{arith}
use Rattle.enumeration_loop_laws.specs.Rings.{turn, ring, Looped}
use Rattle.enumeration_loop_laws.proofs.Turns.{turn_same, turn_other, ring_is}
use Rattle.enumeration_loop_laws.proofs.Letters.{ring_back}

module _ {n N : ℕ} {o : List ℕ} {step : ℕ → ℕ → ℕ} (G : Looped n N o step) {a b : ℕ} (ha : a < n) (hb : b < n) {u : ℕ} (hu : u < N) where
  -- The letters c and d lead back from place p, where they are the letters before it.
  pub ring_reverse : (p c d : ℕ) → ((j : ℕ) → j < p → turn c d j ≡ turn a b (p - suc j)) → (j : ℕ) → j ≤ p → ring step c d (ring step a b u p) j ≡ ring step a b u (p - j)
  ring_reverse p c d turns = ring_is step c d (λ j. ring step a b u (p - j)) (ring step a b u p) p start next where
    start : ring step a b u p ≡ ring step a b u (p - 0)
    start = let q : p - 0 ≡ p = omega arith in rw q

    next : (j : ℕ) → j < p → ring step a b u (p - suc j) ≡ step (ring step a b u (p - j)) (turn c d j)
    next j h = let q : p - j ≡ suc (p - suc j) = omega arith in rw (turns j h, q) (sym (ring_back G ha hb hu (p - suc j)))

  -- A loop with its letters swapped is the loop back.
  pub ring_swapped : (l : ℕ) → l % 2 ≡ 0 → ring step a b u l ≡ u → ring step b a u l ≡ u
  ring_swapped l even round =
      let back = ring_reverse l b a (λ j h. turn_other b a j (l - suc j) (omega arith)) l (omega arith) in
      let q : l - l ≡ 0 = omega arith in
      rw (round, q) at back

  -- It goes round again.
  pub ring_again : (l : ℕ) → l % 2 ≡ 0 → ring step a b u l ≡ u → (i : ℕ) → ring step a b u (l + i) ≡ ring step a b u i
  ring_again l even round i = sym (ring_is step a b (λ j. ring step a b u (l + j)) u i start next i (omega arith)) where
    start : u ≡ ring step a b u (l + 0)
    start = let q : l + 0 ≡ l = omega arith in rw q (sym round)

    next : (j : ℕ) → j < i → ring step a b u (l + suc j) ≡ step (ring step a b u (l + j)) (turn a b j)
    next j h = let q : l + suc j ≡ suc (l + j) = omega arith in rw (q, turn_same a b (l + j) j (omega arith))
