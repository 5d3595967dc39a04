-- The two letters of a pair are generators, the lesser first, and the elements to which they lead in turn are below N.
use Prim.Native.Nat.{ℕ, zero, suc, ◌*◌, ◌-◌, ◌%◌, ◌<◌, ◌≤◌}
use mathlib.Core.Path.{◌≡◌, refl, sym, ap, ◌∙◌}
use mathlib.Core.Bool.{Bool, true, false, ◌&&◌}
use mathlib.Core.List.{List}
use native.Mathlib.Omega.{arith}
use lib.ListN.{get_or, length}
use lib.Dec.{T, eqb, ltb, ltb→lt}
use Rattle.theory.specs.Bounded.{all}
use Rattle.theory.specs.Presentation.{pairs_below}
use Rattle.theory.proofs.BoundedTests.{all_holds, and_holds}
use Rattle.egg.specs.declared.GeneratorId.{GeneratorId}
use Rattle.egg.specs.Pairs.{pair_code}
use Rattle.egg.specs.Table.{pick}
use Rattle.enumeration_rows.specs.Rows.{gen_of, row_of, new_row}
use Rattle.enumeration_loop_laws.specs.Rings.{turn, ring, first_of_pair, second_of_pair, Looped, row_at}
use Rattle.enumeration_loop_laws.proofs.Turns.{turn_in}

-- That the letters are in order is computed for all pairs of up to 8 generators.
abbrev in_order_lem : ℕ → ℕ → Bool
in_order_lem n k = ltb (first_of_pair k) (second_of_pair k) && ltb (second_of_pair k) n

codes_in_order : T (all 9 (λ n. all (pairs_below n) (in_order_lem n)))
unfolding pair_code
codes_in_order = tt

pub letters_below_lem : {n : ℕ} (o : List ℕ) → n ≤ 8 → length o ≡ pairs_below n → {k : ℕ} → k < length o → (first_of_pair k < second_of_pair k) × (second_of_pair k < n)
letters_below_lem {n} o few full {k} h =
    let tested = (all_holds (pairs_below n) (in_order_lem n)).0 ((all_holds 9 (λ n. all (pairs_below n) (in_order_lem n))).0 codes_in_order n (omega arith)) k (omega arith) in
    let both = (and_holds (ltb (first_of_pair k) (second_of_pair k)) (ltb (second_of_pair k) n)).0 tested in
    (ltb→lt _ _ both.0, ltb→lt _ _ both.1)

-- Both letters are generators, so each is.
pub turn_low : {n a b : ℕ} → a < n → b < n → (j : ℕ) → turn a b j < n
turn_low {n} ha hb = turn_in (λ x. x < n) ha hb

pub turn_below : {n : ℕ} (o : List ℕ) → n ≤ 8 → length o ≡ pairs_below n → {k : ℕ} → k < length o → (j : ℕ) → turn (first_of_pair k) (second_of_pair k) j < n
turn_below o few full h = let b = letters_below_lem o few full h in turn_low (omega arith) b.1

-- The generator of a row's column is the letter there.
pub gen_turn : (k j : ℕ) → (gen_of (pair_code k) j).0 ≡ turn (first_of_pair k) (second_of_pair k) j
gen_turn k j = by (eqb (j % 2) 0) where
  by : (s : Bool) → (pick {A = GeneratorId} s (record { 0 = first_of_pair k }) (record { 0 = second_of_pair k })).0 ≡ pick s (first_of_pair k) (second_of_pair k)
  by true = refl
  by false = refl

module _ {n N : ℕ} {o : List ℕ} {step : ℕ → ℕ → ℕ} (L : Looped n N o step) where
  pub ring_below : {a b u : ℕ} → a < n → b < n → u < N → (j : ℕ) → ring step a b u j < N
  ring_below ha hb hu zero = hu
  ring_below ha hb hu (suc j) = L.below (ring_below ha hb hu j) (turn_low ha hb j)

  -- A letter leads back over its own step.
  pub ring_back : {a b u : ℕ} → a < n → b < n → u < N → (j : ℕ) → step (ring step a b u (suc j)) (turn a b j) ≡ ring step a b u j
  ring_back ha hb hu j = L.twice (ring_below ha hb hu j) (turn_low ha hb j)

  -- A new row goes once round its loop.
  pub new_row_at : {e k : ℕ} → e < N → k < length o → 1 ≤ get_or o k 0 → new_row (record { 0 = e }) (pair_code k) (get_or o k 0) ≡ row_at step e k 0 (2 * get_or o k 0 - 1)
  new_row_at {e} {k} he hk low =
      let q : get_or o k 0 * 2 - 1 ≡ 2 * get_or o k 0 - 1 = omega arith in
      let p : suc (2 * get_or o k 0 - 1) ≡ 2 * get_or o k 0 = omega arith in
      let c : e ≡ ring step (first_of_pair k) (second_of_pair k) e (suc (2 * get_or o k 0 - 1)) = sym (ap (ring step (first_of_pair k) (second_of_pair k) e) p ∙ L.closed he hk) in
      rw q (ap (λ (x : ℕ). row_of (pair_code k) 0 (2 * get_or o k 0 - 1) (record { 0 = e }) (record { 0 = x })) c)
