-- In a group on 0 .. M-1, what is reached from the identity by multiplying on the right by generators is the subgroup that they generate; numbered in
-- order of first appearance it is a group again, of which the maps are an isomorphism.
use Prim.Native.Nat.{ℕ, zero, suc, ◌<◌}
use mathlib.Core.Path.{◌≡◌, sym, ◌∙◌, ap, subst}
use mathlib.Core.Logic.{◌↔◌}
use mathlib.Core.List.{List}
use native.Mathlib.Omega.{arith}
use Rattle.theory.specs.Table.{Columns}
use Rattle.theory.specs.Words.{Spelled}
use Rattle.theory.specs.Group.{GroupOn, RightSteps, RightRegular, power}
use Rattle.theory.specs.Regular.{compose, inverse}
use Rattle.theory.specs.Numbering.{IdentityRow}
use Rattle.theory.proofs.Counting.{numbered_table}
use Rattle.theory.proofs.GroupLaws.{inverse_unique, power_closed}
use Rattle.theory.proofs.Periods.{period_exists}
use Rattle.theory.proofs.IdentityRows.{identity_row_distinct}
use Rattle.theory.proofs.Complete.{compose_is_op, inverse_is_inv}
use Rattle.theory.specs.Orbit.{Orbit, origin, onward, Inside, Renumbered}
use Rattle.theory.specs.Subgroup.{right_by, IsSubgroup, Generated, Proper}

module _ {M : ℕ} {op : ℕ → ℕ → ℕ} {inv : ℕ → ℕ} (G : GroupOn M op inv) {n : ℕ} {gen : ℕ → ℕ} (gens : (g : ℕ) → g < n → gen g < M) where
  pub right_inside : Inside n M (right_by op gen) 0
  right_inside = record { here = G.identity; closed = λ {x} {g} hx hg. G.op_closed hx (gens g hg) }

  abbrev H : ℕ → Type 0
  H = Orbit n (right_by op gen) 0

  orbit_below : {x : ℕ} → H x → x < M
  orbit_below origin = G.identity
  orbit_below (onward {x} {g} o hg) = G.op_closed (orbit_below o) (gens g hg)

  orbit_products : {a b : ℕ} → H a → H b → H (op a b)
  orbit_products {a} p origin = rw (G.right_identity (orbit_below p)) p
  orbit_products {a} p (onward {x} {g} o hg) =
      subst H (G.assoc (orbit_below p) (orbit_below o) (gens g hg)) (onward (orbit_products p o) hg)

  orbit_power : {a : ℕ} → H a → (k : ℕ) → H (power op a k)
  orbit_power p zero = origin
  orbit_power p (suc k) = orbit_products (orbit_power p k) p

  -- In a finite group the inverse is a power.
  orbit_inverses : {a : ℕ} → H a → H (inv a)
  orbit_inverses {a} p =
      let (k, _, P) = period_exists G (orbit_below p) in
      go k P.positive P.returns
    where
      go : (k : ℕ) → 0 < k → power op a k ≡ 0 → H (inv a)
      go zero h q = absurd (omega arith)
      go (suc k) h q = subst H (inverse_unique G (orbit_below p) (power_closed G (orbit_below p) k) q) (orbit_power p k)

  orbit_generators : {g : ℕ} → g < n → H (gen g)
  orbit_generators {g} hg = subst H (G.left_identity (gens g hg)) (onward origin hg)

  orbit_smallest : {K : ℕ → Type 0} {a : ℕ} → IsSubgroup M op inv K → ((g : ℕ) → g < n → K (gen g)) → H a → K a
  orbit_smallest S k origin = S.identity
  orbit_smallest S k (onward {x} {g} o hg) = S.products (orbit_smallest S k o) (k g hg)

  -- What is reached is the subgroup that is generated.
  pub orbit_generated : Generated n M op inv gen (Orbit n (right_by op gen) 0)
  orbit_generated = record {
    subgroup = record { below = orbit_below; identity = origin; products = orbit_products; inverses = orbit_inverses };
    generators = orbit_generators;
    smallest = orbit_smallest;
  }

  module _ {N : ℕ} {step : ℕ → ℕ → ℕ} {num elt : ℕ → ℕ} (R : Renumbered n M (right_by op gen) 0 N step num elt) where
    origin_in : 0 < N
    origin_in = (numbered_table R.by_rule).origin

    num_zero : num 0 ≡ 0
    num_zero = ap num (sym R.origin) ∙ R.there_and_back origin_in

    -- The group of the new numbers.
    pub numbers_group : GroupOn N (λ a b. num (op (elt a) (elt b))) (λ a. num (inv (elt a)))
    numbers_group = record {
      identity = origin_in;
      op_closed = λ {a} {b} ha hb. R.inward (orbit_products (R.outward ha) (R.outward hb));
      inv_closed = λ {a} ha. R.inward (orbit_inverses (R.outward ha));
      assoc = λ {a} {b} {c} ha hb hc.
          let p = R.outward ha in
          let q = R.outward hb in
          let r = R.outward hc in
          cc (R.back_and_there (orbit_products p q), R.back_and_there (orbit_products q r), G.assoc (orbit_below p) (orbit_below q) (orbit_below r));
      left_identity = λ {a} ha. cc (R.origin, G.left_identity (orbit_below (R.outward ha)), R.there_and_back ha);
      right_identity = λ {a} ha. cc (R.origin, G.right_identity (orbit_below (R.outward ha)), R.there_and_back ha);
      left_inverse = λ {a} ha.
          let p = R.outward ha in
          cc (R.back_and_there (orbit_inverses p), G.left_inverse (orbit_below p), num_zero);
      right_inverse = λ {a} ha.
          let p = R.outward ha in
          cc (R.back_and_there (orbit_inverses p), G.right_inverse (orbit_below p), num_zero);
    }

    -- A generator's element.
    pub generator_outside : {g : ℕ} → g < n → elt (step 0 g) ≡ gen g
    generator_outside {g} hg = R.steps origin_in hg ∙ ap (λ x. op x (gen g)) R.origin ∙ G.left_identity (gens g hg)

    step_in_lem : {e g : ℕ} → e < N → g < n → step e g < N
    step_in_lem he hg = (numbered_table R.by_rule).closed he hg

    pub numbers_steps : RightSteps n N step (λ a b. num (op (elt a) (elt b)))
    numbers_steps = record {
      element = λ {g} hg. step_in_lem origin_in hg;
      step_is = λ {e} {g} he hg. cc (R.there_and_back (step_in_lem he hg), R.steps he hg, generator_outside hg);
    }

    -- So 12 is never given.
    pub numbers_regular : RightRegular n N step
    numbers_regular = record { op = _; inv = _; group = numbers_group; steps = numbers_steps }

    -- The maps carry composition to composition and inverse to inverse, for whatever words lead to the elements.
    module _ {word : ℕ → List ℕ} (S : Spelled n N step word) where
      pub outward_composes : {a b : ℕ} → a < N → b < N → elt (compose step word a b) ≡ op (elt a) (elt b)
      outward_composes ha hb =
          ap elt (compose_is_op numbers_group numbers_steps S ha hb) ∙ R.back_and_there (orbit_products (R.outward ha) (R.outward hb))

      pub outward_inverts : {back : ℕ → ℕ → ℕ} → Columns n N step back → {a : ℕ} → a < N → elt (inverse back word a) ≡ inv (elt a)
      outward_inverts B ha =
          ap elt (inverse_is_inv numbers_group numbers_steps S B ha) ∙ R.back_and_there (orbit_inverses (R.outward ha))

    -- The identity row is 1..n just if the generators are different and none is the identity.
    pub identity_row_proper : IdentityRow n step ↔ Proper n gen
    identity_row_proper = (
      λ i.
          let D = (identity_row_distinct R.by_rule).0 i in
          record {
            moves = λ {g} hg q. D.moves hg (sym (R.there_and_back (step_in_lem origin_in hg)) ∙ ap num (generator_outside hg ∙ q) ∙ num_zero);
            apart = λ {g} {h} hg hh q.
                D.apart hg hh (R.once (step_in_lem origin_in hg) (step_in_lem origin_in hh) (generator_outside hg ∙ q ∙ sym (generator_outside hh)));
          },
      λ P. (identity_row_distinct R.by_rule).1 (record {
        moves = λ {g} hg q. P.moves hg (sym (generator_outside hg) ∙ ap elt q ∙ R.origin);
        apart = λ {g} {h} hg hh q. P.apart hg hh (sym (generator_outside hg) ∙ ap elt q ∙ generator_outside hh);
      }),
    )
