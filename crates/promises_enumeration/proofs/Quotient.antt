-- Where it is decided which of finitely many words are equal, and every word is equal to one of these, the first of each kind, numbered by first appearance, make the
-- table of the group that the orders present.
use Prim.Native.Nat.{ℕ, ◌<◌, ◌≤◌}
use mathlib.Core.Path.{◌≡◌, sym, ◌∙◌, subst}
use mathlib.Core.Bool.{Bool, true, false}
use mathlib.Core.List.{List, [], ◌∷◌, ◌++◌, append-nil, append_assoc}
use native.Mathlib.Decide.{dec_lt, dec_le}
use native.Mathlib.Omega.{arith}
use lib.ListN.{length}
use lib.Dec.{T}
use Rattle.theory.specs.Bounded.{least}
use Rattle.theory.specs.Words.{Word, empty, letter, walk}
use Rattle.theory.specs.Appearance.{recorded}
use Rattle.theory.specs.Presentation.{Equiv, same, turn, join}
use Rattle.theory.proofs.BoundedTests.{least_holds, least_at_most}
use Rattle.theory.proofs.Pigeonhole.{pigeonhole}
use Rattle.theory.proofs.Walking.{walk_closed}
use Rattle.theory.proofs.Counting.{numbered_table}
use Rattle.theory.proofs.Shortest.{recorded_best}
use Rattle.theory.proofs.Relations.{append_right, relator_word}
use Rattle.theory.proofs.Deduction.{strike}
use Rattle.theory.specs.Orbit.{Inside, numbered_step, Orbit, origin, onward, Appearing}
use Rattle.build_numbering_laws.proofs.Order.{appearing, step_outside}
use Rattle.theory_coxeter.specs.Tables.{PresentedTable}
use Rattle.promises_enumeration.specs.Presented.{FittingTable}
use Rattle.promises_enumeration.specs.Spanning.{Spanning, Decided}

module _ {n N : ℕ} {m : ℕ → ℕ → ℕ} {word : ℕ → List ℕ} {next : ℕ → ℕ → ℕ} (S : Spanning n N m word next) (D : Decided n N m word) where
  test_by : (x y : ℕ) → Dec (x < N) → Dec (y < N) → Bool
  test_by x y (yes hx) (yes hy) = elim (D.decide x y hx hy) [ yes e ↦ true | no d ↦ false ]
  test_by x y (yes hx) (no hy) = false
  test_by x y (no hx) hy = false

  test : ℕ → ℕ → Bool
  test x y = test_by x y (dec_lt x N) (dec_lt y N)

  test_tells : (x y : ℕ) → T (test x y) → Equiv n m (word x) (word y)
  unfolding test test_by
  test_tells x y t = by (dec_lt x N) (dec_lt y N) t where
    at : (hx : x < N) (hy : y < N) (d : Dec (Equiv n m (word x) (word y))) → T (elim d as (λ z. Bool) [ yes e ↦ true | no d ↦ false ]) → Equiv n m (word x) (word y)
    at hx hy (yes e) t = e
    at hx hy (no d) t = absurd t

    by : (p : Dec (x < N)) (q : Dec (y < N)) → T (test_by x y p q) → Equiv n m (word x) (word y)
    by (yes hx) (yes hy) t = at hx hy (D.decide x y hx hy) t
    by (yes hx) (no hy) t = absurd t
    by (no hx) q t = absurd t

  test_holds : (x y : ℕ) → x < N → y < N → Equiv n m (word x) (word y) → T (test x y)
  unfolding test test_by
  test_holds x y hx hy e = by (dec_lt x N) (dec_lt y N) where
    at : (d : Dec (Equiv n m (word x) (word y))) → T (elim d as (λ z. Bool) [ yes e ↦ true | no d ↦ false ])
    at (yes e) = tt
    at (no d) = absurd (d e)

    by : (p : Dec (x < N)) (q : Dec (y < N)) → T (test_by x y p q)
    by (yes p) (yes q) = at (D.decide x y p q)
    by (yes p) (no q) = absurd (q hy)
    by (no p) q = absurd (p hx)

  -- The first word that is equal to that of x.
  rep : ℕ → ℕ
  rep x = least N (test x)

  rep_below : {x : ℕ} → x < N → rep x < N
  unfolding rep
  rep_below {x} hx = omega (arith, least_at_most N (test x) x (test_holds x x hx hx same))

  rep_equal : {x : ℕ} → x < N → Equiv n m (word x) (word (rep x))
  unfolding rep
  rep_equal {x} hx = test_tells x (rep x) (least_holds N (test x) (rep_below hx))

  rep_least : {x y : ℕ} → x < N → y < N → Equiv n m (word x) (word y) → rep x ≤ rep y
  unfolding rep
  rep_least {x} {y} hx hy e = least_at_most N (test x) (rep y) (test_holds x (rep y) hx (rep_below hy) (join e (rep_equal hy)))

  rep_once : {x y : ℕ} → x < N → y < N → Equiv n m (word x) (word y) → rep x ≡ rep y
  rep_once hx hy e = omega (arith, rep_least hx hy e, rep_least hy hx (turn e))

  out : ℕ → ℕ → ℕ
  out x g = rep (next x g)

  inside : Inside n N out (rep 0)
  unfolding out
  inside = record { here = rep_below S.some; closed = λ hx hg. rep_below (S.closed hx hg) }

  -- What is reached is a first word.
  first : {x : ℕ} → Orbit n out (rep 0) x → (x < N) × (rep x ≡ x)
  unfolding out
  first origin = (rep_below S.some, rep_once (rep_below S.some) S.some (turn (rep_equal S.some)))
  first (onward {x} {g} o hg) =
      let h = S.closed (first o).0 hg in
      (rep_below h, rep_once (rep_below h) h (turn (rep_equal h)))

  module _ {M : ℕ} {elt : ℕ → ℕ} (A : Appearing n N out (rep 0) M elt) where
    step : ℕ → ℕ → ℕ
    step = numbered_step M elt out

    abbrev low : {e : ℕ} → e < M → elt e < N
    low he = A.below he

    -- A step is one letter more, under the relations.
    stepped : {e g : ℕ} → e < M → g < n → Equiv n m (word (elt e) ++ g ∷ []) (word (elt (step e g)))
    unfolding step out
    stepped {e} {g} he hg =
        join (S.leads (low he) hg) (subst (λ (x : ℕ). Equiv n m (word (next (elt e) g)) (word x)) (sym (step_outside A he hg)) (rep_equal (S.closed (low he) hg)))

    closed : {e g : ℕ} → e < M → g < n → step e g < M
    unfolding step
    closed he hg = (numbered_table A.by_rule).closed he hg

    walked : {e : ℕ} {u : List ℕ} → e < M → Word n u → Equiv n m (word (elt e) ++ u) (word (elt (walk step e u)))
    walked e empty = rw append-nil same
    walked {e} he (letter {g} {w} hg hw) = join (rw append_assoc at (append_right (stepped he hg) w)) (walked {e = step e g} (closed he hg) hw)

    equal_once : {d e : ℕ} → d < M → e < M → Equiv n m (word (elt d)) (word (elt e)) → d ≡ e
    equal_once {d} {e} hd he q =
        A.once hd he (sym (first (A.reached hd)).1 ∙ rep_once (low hd) (low he) q ∙ (first (A.reached he)).1)

    some : 0 < M
    some = (numbered_table A.by_rule).origin

    walk_below : {e : ℕ} {u : List ℕ} → e < M → Word n u → walk step e u < M
    unfolding step
    walk_below he hu = walk_closed (numbered_table A.by_rule) he hu

    from_zero : {u : List ℕ} → Word n u → Equiv n m u (word (elt (walk step 0 u)))
    from_zero {u} hu =
        let z : Equiv n m [] (word (elt 0)) = rw A.first (subst (λ (w : List ℕ). Equiv n m w (word (rep 0))) S.start (rep_equal S.some)) in
        join (append_right z u) (walked some hu)

    quotient : PresentedTable n M m step
    unfolding step
    quotient = record {
      numbered = A.by_rule;
      holds = record {
        holds = λ {e} {r} he R. equal_once (walk_below he (relator_word R)) he (join (turn (walked he (relator_word R))) (strike (word (elt e)) R));
      };
      faithful = λ {u} {v} hu hv e. join (from_zero hu) (turn (subst (λ (x : ℕ). Equiv n m v (word (elt x))) (sym e) (from_zero hv)));
    }

    quotient_within : M ≤ N
    quotient_within = by (dec_le M N) where
      by : Dec (M ≤ N) → M ≤ N
      by (yes h) = h
      by (no h) =
          let r = pigeonhole N elt (λ i l. low (omega arith)) in
          absurd (omega (arith, r.ordered, A.once (omega (arith, r.ordered, r.inside)) (omega (arith, r.inside)) r.equal))

    -- No recorded word is longer than the word that it began from.
    quotient_short : {e : ℕ} → e < M → length (recorded n step e) ≤ length (word (elt e))
    unfolding step
    quotient_short {e} he =
        let hw = S.over (low he) in
        let q : walk step 0 (word (elt e)) ≡ e = equal_once (walk_below some hw) he (turn (from_zero hw)) in
        rw q at (recorded_best A.by_rule hw).0

  -- So the group fits where these words do.
  pub spanning_fitting : {room : ℕ} → N ≤ room → ((e : ℕ) → e < N → length (word e) ≤ 4096) → FittingTable n m room
  spanning_fitting {room} fits short =
      let (M, elt, A) = appearing inside in
      record {
        N = M;
        step = step A;
        presented = quotient A;
        within_room = omega (arith, quotient_within A);
        short = λ e he. omega (arith, quotient_short A he, short (elt e) (A.below he));
      }
