-- Laws of the four lanes together. What is right but for the places in the lanes stays so, from lane to lane; when no lane has a place, nothing is left.
use Prim.Native.Nat.{ℕ, ◌+◌, ◌≤◌, ◌<◌}
use mathlib.Core.Path.{◌≡◌, refl, sym, subst, ◌∙◌}
use mathlib.Core.Bool.{Bool, true, false}
use mathlib.Core.List.{List}
use native.Mathlib.Omega.{arith}
use lib.ListN.{length}
use Rattle.egg.specs.Table.{pick}
use Rattle.lists_walks.specs.declared.inner.Lane.{Lane}
use Rattle.lists_walks.specs.declared.inner.FourLanes.{FourLanes}
use Rattle.lists_walks.specs.Products.{Products}
use Rattle.lists_walks.specs.Lanes.{Standing, lane_of, Took, Open, weigh_all, Far, AllFar, Settled, AllForward, SomeLive, live_p, live_q, live_r, live_t, NoneLive}
use Rattle.lists_walks.proofs.Lanes.{standing_later, idle_stands, standing_forward, weigh_forward, weigh_less}

module _ {s : List ℕ} {n count : ℕ} {a b : List ℕ} where
  far_off : {next : ℕ} {l : Lane} → Standing s n count a b next l → 5 < l.left → Far count l
  far_off S h = record { inside = S.walking.inside; far = h }

  -- The first lane has its place, and the others have none.
  pub started : {p q : Lane} {next : ℕ} {old new : List ℕ} → 0 < count → Took s n count a b (lane_of (length a) 1 0 0 false) 0 old p next new × (5 < p.left)
      → q ≡ lane_of (length a) 1 0 0 false → Open s n count a b (record { p = p; q = q; r = q; t = q; next = next; fine = true }) new
  started {p} {q} {next} h P e = record {
    p = P.0.stands;
    q = rest;
    r = rest;
    t = rest;
    within = P.0.within;
    done = λ i k dp dq dr dt. P.0.after i (λ o m. absurd (omega arith)) k dp;
  }
    where
      rest : Standing s n count a b next q
      rest = subst (λ l. Standing s n count a b next l) (sym e) (idle_stands next h)

  pub settled_all : {w : FourLanes} {p q r t : Lane} {i j k m : ℕ} {old one two three four : List ℕ} → Open s n count a b w old
      → Took s n count a b w.p w.next old p i one × (5 < p.left) → Took s n count a b w.q i one q j two × (5 < q.left)
      → Took s n count a b w.r j two r k three × (5 < r.left) → Took s n count a b w.t k three t m four × (5 < t.left)
      → Settled s n count a b w (record { p = p; q = q; r = r; t = t; next = m; fine = true }) four
  unfolding weigh_all
  settled_all O P Q R T = record {
    opened = record {
      p = standing_later P.0.stands (omega (arith, Q.0.onward, R.0.onward, T.0.onward)) T.0.within;
      q = standing_later Q.0.stands (omega (arith, R.0.onward, T.0.onward)) T.0.within;
      r = standing_later R.0.stands T.0.onward T.0.within;
      t = T.0.stands;
      within = T.0.within;
      done = λ x h dp dq dr dt.
          T.0.after x (λ ht et. R.0.after x (λ hr er. Q.0.after x (λ hq eq. P.0.after x (λ hp ep. O.done x hp ep eq er et) hq dp) hr dq) ht dr) h dt;
    };
    far = record { p = far_off P.0.stands P.1; q = far_off Q.0.stands Q.1; r = far_off R.0.stands R.1; t = far_off T.0.stands T.1 };
    weight = omega (arith, P.0.weight, Q.0.weight, R.0.weight, T.0.weight);
  }

  module _ {live : Bool} {w w' : FourLanes} (F : AllForward s n count live w w') where
    pub open_forward : {results : List ℕ} → Open s n count a b w results → Open s n count a b w' results
    open_forward O = record {
      p = rw F.next (standing_forward F.p O.p);
      q = rw F.next (standing_forward F.q O.q);
      r = rw F.next (standing_forward F.r O.r);
      t = rw F.next (standing_forward F.t O.t);
      within = rw F.next O.within;
      done = λ i h dp dq dr dt.
          O.done i (omega (arith, F.next)) (λ e. dp (e ∙ sym F.p.place)) (λ e. dq (e ∙ sym F.q.place)) (λ e. dr (e ∙ sym F.r.place)) (λ e. dt (e ∙ sym F.t.place));
    }

  -- Where no lane has a place, and each has letters to go, every place has been taken.
  pub all_done : {w : FourLanes} {results : List ℕ} → Open s n count a b w results → AllFar count w → NoneLive (length a) w → Products s n count a b results
  all_done O E N = record {
    each = λ i h.
        O.done i (omega (arith, O.p.spent N.p E.p.far)) (λ e. omega (arith, N.p)) (λ e. omega (arith, N.q)) (λ e. omega (arith, N.r)) (λ e. omega (arith, N.t));
  }

-- Each turn costs something: five letters of a lane that has a place, or else it is the last.
module _ {s : List ℕ} {n count : ℕ} {live : Bool} {w w' : FourLanes} (F : AllForward s n count live w w') where
  pub falls : {k : ℕ} → (live ≡ true → SomeLive k w) → {before : ℕ} → weigh_all k w ≤ before → pick live 1 0 + weigh_all k w' < 1 + before
  unfolding weigh_all
  falls {k} some {before} h = by live refl where
    still : weigh_all k w' ≤ weigh_all k w
    still = rw F.next (omega (arith, weigh_forward F.p k, weigh_forward F.q k, weigh_forward F.r k, weigh_forward F.t k))

    less : live ≡ true → SomeLive k w → weigh_all k w' < weigh_all k w
    less t (live_p o) = rw F.next (omega (arith, weigh_less F.p k t o, weigh_forward F.q k, weigh_forward F.r k, weigh_forward F.t k))
    less t (live_q o) = rw F.next (omega (arith, weigh_forward F.p k, weigh_less F.q k t o, weigh_forward F.r k, weigh_forward F.t k))
    less t (live_r o) = rw F.next (omega (arith, weigh_forward F.p k, weigh_forward F.q k, weigh_less F.r k t o, weigh_forward F.t k))
    less t (live_t o) = rw F.next (omega (arith, weigh_forward F.p k, weigh_forward F.q k, weigh_forward F.r k, weigh_less F.t k t o))

    by : (t : Bool) → live ≡ t → pick t 1 0 + weigh_all k w' < 1 + before
    by true z = omega (arith, less z (some z))
    by false z = omega (arith, still)
