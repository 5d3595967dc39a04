-- The rows of a new element: each stands at all columns of its loop, and where its first and last column are not known, it is open.
use Prim.Native.Nat.{ℕ, suc, ◌+◌, ◌*◌, ◌-◌, ◌<◌}
use mathlib.Core.Path.{◌≡◌, ap, ◌∙◌}
use mathlib.Core.List.{List}
use native.Mathlib.Omega.{arith}
use lib.ListN.{get_or, length}
use Rattle.egg.specs.Pairs.{pair_code}
use Rattle.enumeration_rows.specs.declared.inner.SideOfGap.{SideOfGap}
use Rattle.enumeration_rows.specs.declared.inner.SideOfGap.TheVariants.{Left, Right}
use Rattle.enumeration_rows.specs.Rows.{gen_of, stored_row, new_row}
use Rattle.enumeration_run_laws.specs.Invariant.{StepKnown}
use Rattle.enumeration_loop_laws.specs.Rings.{turn, ring, first_of_pair, second_of_pair}
use Rattle.enumeration_closure_laws.specs.Queues.{In, copy_at, Waiting}
use Rattle.enumeration_closure_laws.specs.Closure.{Rowed, listed, Open}
use Rattle.enumeration_loop_laws.proofs.Turns.{turn_in}
use Rattle.enumeration_loop_laws.proofs.Letters.{gen_turn, new_row_at}
use Rattle.enumeration_closure_laws.proofs.Ground.{Ground}

module _ {n N : ℕ} {o : List ℕ} {step : ℕ → ℕ → ℕ} (count : ℕ) {lt lw : ℕ} (G : Ground n N o step (count + 1) lt lw) (k : ℕ) (hk : k < length o) where
  last : suc (2 * get_or o k 0 - 1) ≡ 2 * get_or o k 0
  last = omega (arith, (G.orders k hk).0)

  loop_end : ring step (first_of_pair k) (second_of_pair k) count (suc (2 * get_or o k 0 - 1)) ≡ count
  loop_end = ap (λ (x : ℕ). ring step (first_of_pair k) (second_of_pair k) count x) last ∙ G.looped.closed (omega (arith, G.fits)) hk

  pub new_rowed : {t w : List ℕ} (side : SideOfGap) → stored_row w (copy_at n count k side) ≡ new_row (record { 0 = count }) (pair_code k) (get_or o k 0) → Rowed (count + 1) step o t w n count k side
  new_rowed side stored = record {
    left = 0;
    right = 2 * get_or o k 0 - 1;
    is = stored ∙ new_row_at G.looped (omega (arith, G.fits)) hk (G.orders k hk).0;
    ordered = omega arith;
    within = omega (arith, (G.orders k hk).0);
    from_below = omega arith;
    to_below = rw loop_end (omega arith);
    before = λ j h. absurd (omega arith);
    behind = λ j h b. absurd (omega arith);
  }

  pub new_open : {t w : List ℕ} {held : Waiting} {facts : List ℕ} {hand : SideOfGap → List ℕ}
      → ((side : SideOfGap) → stored_row w (copy_at n count k side) ≡ new_row (record { 0 = count }) (pair_code k) (get_or o k 0))
      → In (copy_at n count k Left) (held Left count (gen_of (pair_code k) 0).0) → In (copy_at n count k Right) (held Right count (gen_of (pair_code k) (get_or o k 0 * 2 - 1)).0)
      → (StepKnown n t count (first_of_pair k) → ⊥) → (StepKnown n t count (second_of_pair k) → ⊥) → Open n step t w held facts hand count k
  new_open {t} {w} {held} {facts} {hand} stored left right a b =
      let m = get_or o k 0 in
      let q : m * 2 - 1 ≡ 2 * m - 1 = omega arith in
      let unknown = turn_in (λ x. StepKnown n t count x → ⊥) a b in
      let at_right : In (copy_at n count k Right) (held Right count (turn (first_of_pair k) (second_of_pair k) (2 * m - 1))) = rw (gen_turn k (2 * m - 1)) at (rw q at right) in
      record {
        l = 0;
        r = 2 * m - 1;
        left_is = rw (stored Left);
        right_is = rw (stored Right) q;
        gap = omega (arith, (G.orders k hk).0);
        left_waits = listed (rw (gen_turn k 0) at left) (λ z. absurd (unknown 0 z));
        right_waits = rw loop_end (listed at_right (λ z. absurd (unknown (2 * m - 1) z)));
      }
