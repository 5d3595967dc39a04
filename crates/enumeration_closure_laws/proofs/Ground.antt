-- The limits within which the machine runs, and what they give at each step.
use Prim.Native.Nat.{ℕ, suc, ◌+◌, ◌*◌, ◌-◌, ◌<◌, ◌≤◌}
use mathlib.Core.Path.{◌≡◌, ap}
use mathlib.Core.List.{List, []}
use native.Mathlib.Nat.{mul-le-mul, le_refl}
use native.Mathlib.Omega.{arith}
use lib.ListN.{get_or, length}
use Rattle.theory.specs.Presentation.{pairs_below}
use Rattle.enumeration_rows.specs.declared.inner.SideOfGap.{SideOfGap}
use Rattle.enumeration_rows.specs.declared.inner.SideOfGap.TheVariants.{Left, Right}
use Rattle.enumeration_rows.specs.Rows.{work_width, list_at}
use Rattle.enumeration_run.specs.Limits.{Limits}
use Rattle.enumeration_run_laws.proofs.Rowing.{new_row_ok}
use Rattle.enumeration_run_laws.proofs.Waiting.{pairs_twice}
use Rattle.enumeration_run_laws.proofs.Running.{pairs_full, work_room}
use Rattle.enumeration_loop_laws.specs.Rings.{turn, ring, first_of_pair, second_of_pair, Looped, row_at}
use Rattle.enumeration_closure_laws.specs.Queues.{place_of, list_of, Sized, RowFits}
use Rattle.enumeration_loop_laws.proofs.Letters.{gen_turn, turn_below}
use Rattle.enumeration_closure_laws.proofs.Places.{bit}

-- At most 8 generators, an order for each pair, steps in which the relations hold, and stretches with room for `count` of their elements.
pub record Ground (n N : ℕ) (o : List ℕ) (step : ℕ → ℕ → ℕ) (count lt lw : ℕ) : Type 0 where
  pub few : n ≤ 8
  pub full : length o ≡ pairs_below n
  pub orders : (k : ℕ) → k < length o → (1 ≤ get_or o k 0) × (get_or o k 0 < 32768)
  pub looped : Looped n N o step
  pub fits : count ≤ N
  pub limit : count ≤ 65535
  pub table_room : count * (2 * n + 4) ≤ lt
  pub work_room : count * work_width n ≤ lw

pub ground : {n N : ℕ} {o : List ℕ} {step : ℕ → ℕ → ℕ} {room lt lw : ℕ} → Limits n o room lt lw → Looped n N o step → (count : ℕ) → count ≤ N → count ≤ room → Ground n N o step count lt lw
ground {n} {room = room} L looped count fits h = record {
  few = L.few;
  full = pairs_full L;
  orders = L.orders;
  looped = looped;
  fits = fits;
  limit = omega (arith, L.limit);
  table_room = omega (arith, L.table_room, mul-le-mul h (le_refl (2 * n + 4)));
  work_room = omega (arith, work_room L, mul-le-mul h (le_refl (work_width n)));
}

module _ {n N : ℕ} {o : List ℕ} {step : ℕ → ℕ → ℕ} {count lt lw : ℕ} (G : Ground n N o step count lt lw) where
  pub paired : 2 * length o ≡ n * (n - 1)
  paired = rw G.full (pairs_twice n)

  pub sized : (w : List ℕ) → length w ≡ lw → Sized n count (length o) w
  sized w q = record { few = G.few; limit = G.limit; paired = paired; room = rw q G.work_room }

  -- The numbers of a row at columns of its loop have 32 bits.
  pub small_row : (u k l r : ℕ) → k < length o → l ≤ r → r < 2 * get_or o k 0 → ring step (first_of_pair k) (second_of_pair k) u l < count → ring step (first_of_pair k) (second_of_pair k) u (suc r) < count
      → RowFits (row_at step u k l r)
  small_row u k l r hk lr hr a b = record {
    pair_small = omega (arith, (new_row_ok o G.few G.full G.orders {word = λ e. []} {count = 1} (record { 0 = 0 }) k hk (omega arith)).small);
    left_small = omega (arith, (G.orders k hk).1);
    right_small = omega (arith, (G.orders k hk).1);
    from_small = omega (arith, G.limit);
    to_small = omega (arith, G.limit);
  }

  pub letter_below : (k : ℕ) → k < length o → (j : ℕ) → turn (first_of_pair k) (second_of_pair k) j < n
  letter_below k hk j = turn_below o G.few G.full hk j

-- The element and the generator for which a side of a row waits.
abbrev pub waits_from : (step : ℕ → ℕ → ℕ) (u k l r : ℕ) → SideOfGap → ℕ
waits_from step u k l r Left = ring step (first_of_pair k) (second_of_pair k) u l
waits_from step u k l r Right = ring step (first_of_pair k) (second_of_pair k) u (suc r)

abbrev pub waits_by : (k l r : ℕ) → SideOfGap → ℕ
waits_by k l r Left = turn (first_of_pair k) (second_of_pair k) l
waits_by k l r Right = turn (first_of_pair k) (second_of_pair k) r

pub list_at_lem : (n : ℕ) (step : ℕ → ℕ → ℕ) (u k l r : ℕ) (side : SideOfGap) → list_at n (row_at step u k l r) side ≡ list_of n side (waits_from step u k l r side) (waits_by k l r side)
list_at_lem n step u k l r Left = ap (λ (x : ℕ). place_of n (ring step (first_of_pair k) (second_of_pair k) u l) x) (gen_turn k l)
list_at_lem n step u k l r Right = ap (λ (x : ℕ). place_of n (ring step (first_of_pair k) (second_of_pair k) u (suc r)) x + 3) (gen_turn k r)

-- The sides are two.
pub left_right : Left ≡ Right → ⊥
left_right q = omega (arith, ap bit q)
