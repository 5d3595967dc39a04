-- Where the quick run closes a loop, the other has closed it already.
use Prim.Native.Nat.{ℕ, suc, ◌+◌, ◌*◌, ◌-◌, ◌<◌, ◌≤◌}
use mathlib.Core.Path.{◌≡◌, sym, ap, ◌∙◌}
use mathlib.Core.List.{List}
use native.Mathlib.Omega.{arith}
use lib.ListN.{get_or, length}
use Rattle.theory.specs.Presentation.{pairs_below}
use Rattle.theory.specs.Words.{Parents}
use Rattle.egg.specs.Table.{start_of, step_of, parent_of, last_of}
use Rattle.enumeration_run_laws.specs.Invariant.{StepKnown}
use Rattle.enumeration_loop_laws.specs.Rings.{turn, ring, first_of_pair, second_of_pair, Looped, Rooted}
use Rattle.enumeration_quick_loops.specs.Loops.{order_for}
use Rattle.enumeration_quick_laws.specs.Sweeping.{Live, Grows}
use Rattle.enumeration_loop_laws.proofs.Letters.{turn_low, ring_below}
use Rattle.enumeration_loop_laws.proofs.Walking.{walk_ring}
use Rattle.enumeration_loop_laws.proofs.Rooting.{rooted}
use Rattle.enumeration_closure_laws.proofs.Columns.{column_known}
use Rattle.enumeration_quick_laws.proofs.Pairing.{PairOf, pair_of}
use Rattle.enumeration_quick_laws.proofs.Beside.{Beside, grown_step}
use Rattle.enumeration_quick_laws.proofs.Finding.{Found}

module _ {n N : ℕ} {o : List ℕ} {step : ℕ → ℕ → ℕ} {parent last : ℕ → ℕ} (looped : Looped n N o step) (parents : Parents n N step parent last) where
  -- The step back from an element leads to one below it.
  goes_down : {u : ℕ} → 0 < u → u < N → (g : ℕ) → last u ≡ g → u ≤ step u g → ⊥
  goes_down {u} pos hu g q up =
      let e : parent u < u = parents.earlier pos hu in
      let back : step u (last u) ≡ parent u = ap (λ (y : ℕ). step y (last u)) (sym (parents.arrives pos hu)) ∙ looped.twice (omega arith) (parents.generator pos hu) in
      let here : step u g ≡ parent u = ap (λ (h : ℕ). step u h) (sym q) ∙ back in
      omega arith

  -- So the least element of a loop has a live row.
  pub least_live : {u : ℕ} (k : ℕ) → u < N → u ≤ step u (first_of_pair k) → u ≤ step u (second_of_pair k) → Live last u k
  least_live {u} k hu a b pos = (λ q. goes_down (omega arith) hu (first_of_pair k) q a, λ q. goes_down (omega arith) hu (second_of_pair k) q b)

module _ {n N : ℕ} {o : List ℕ} (F : List ℕ) (looped : Looped n N o (step_of F n)) (parents : Parents n N (step_of F n) (parent_of F n) (last_of F n)) where
  module _ (few : n ≤ 8) (full : length o ≡ pairs_below n) (orders : (k : ℕ) → k < length o → 1 ≤ get_or o k 0)
      {lt lw c : ℕ} {q t w : List ℕ} (B : Beside n o lt lw F c q t w) (G : Grows n c N q F) {x g : ℕ} (hx : x < c) (hg : g < n) {r : ℕ} (found : Found q o n x g r) where
    abbrev h : ℕ
    h = found.letter

    pair : PairOf o g h
    pair = pair_of few full hg found.below found.other

    around : (i : ℕ) → suc i < 2 * get_or o pair.place 0 → StepKnown n t (ring (step_of F n) h g x i) (turn h g i)
    around i hi =
        let steps : (e g : ℕ) → g < n → StepKnown n q e g → get_or q (start_of n e + g) 0 ≡ suc (step_of F n e g) = grown_step G in
        let walk = walk_ring q steps (2 * order_for o g h - 1) x h g found.below hg found.whole in
        B.known _ _ (turn_low found.below hg i) (walk.1 i (omega (arith, pair.order)))

    root : Rooted n c t (step_of F n) pair.place (get_or o pair.place 0) x g
    root = rooted few full looped G.more B.closed.machine.told pair.place pair.below (orders _ pair.below) g h pair.letters x hx around

    pub loop_known : StepKnown n t x g
    loop_known =
        let y = root in
        y.tells
        (column_known few full B.closed y.root pair.place y.column y.root_below pair.below
        (least_live looped parents pair.place (omega (arith, y.root_below, G.more)) y.first_up y.second_up) y.column_below y.others)

    -- Where it leads is an element.
    pub loop_below : r < N
    loop_below =
        let steps : (e g : ℕ) → g < n → StepKnown n q e g → get_or q (start_of n e + g) 0 ≡ suc (step_of F n e g) = grown_step G in
        let walk = walk_ring q steps (2 * order_for o g h - 1) x h g found.below hg found.whole in
        let hu : x < N = omega (arith, G.more) in
        let low = ring_below looped found.below hg hu (2 * order_for o g h - 1) in
        rw (← found.ends, walk.0) low
