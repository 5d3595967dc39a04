-- Laws of the relations: of turning, of one relation at one element, and of the pairs, whose codes are small and of which 8 generators have 28.
use Prim.Native.Nat.{ℕ, zero, suc, ◌/◌, ◌%◌, ◌≤◌, ◌<◌}
use mathlib.Core.Path.{◌≡◌, refl, sym, ap, ◌∙◌}
use mathlib.Core.Bool.{Bool, true, ◌&&◌}
use mathlib.Core.List.{List, [], ◌∷◌}
use native.Mathlib.Omega.{arith}
use borrow.Author.Tests.{eq-eqb, ne_eqb, ltb-true}
use lib.ListN.{length, get_or}
use lib.Dec.{ltb}
use Rattle.egg.specs.declared.Refusal.{Refusal}
use Rattle.egg.specs.declared.GroupElementId.{GroupElementId}
use Rattle.egg.specs.Answers.{Reached, Verdict, fine}
use Rattle.std.specs.Prelude.{Ok, Err}
use Rattle.egg.specs.Scan.{refused_of}
use Rattle.egg.specs.Pairs.{pairs, pair_code, orders_right}
use Rattle.egg.specs.Factor.{read_step}
use Rattle.egg.proofs.Rooms.{and_first, and_second}
use Rattle.factor_relations.specs.Relations.{turned, returns_to, relation_at}
use Rattle.factor_relations.proofs.Orders.{orders_limits, few_pairs}

module _ (s : List ℕ) (n count x a b : ℕ) where
  pub turned_end : {left : ℕ} → left ≤ 0 → Ok (record { 0 = x }) ≡ turned left s n count x a b
  unfolding turned
  turned_end {left} h = let d : left ≡ 0 = omega arith in rw d

  module _ {left fewer : ℕ} (d : left ≡ suc fewer) {v : Reached} (q : v ≡ read_step s n count x a) where
    pub turned_first : {r : Refusal} → v ≡ Err r → Err r ≡ turned left s n count x a b
    unfolding turned
    turned_first e = rw (d, ← q, e)

    module _ {y : GroupElementId} (e : v ≡ Ok y) {u : Reached} (p : u ≡ read_step s n count y.0 b) where
      pub turned_second : {r : Refusal} → u ≡ Err r → Err r ≡ turned left s n count x a b
      unfolding turned
      turned_second z = rw (d, ← q, e, ← p, z)

      pub turned_more : {i : GroupElementId} → u ≡ Ok i → turned fewer s n count i.0 a b ≡ turned left s n count x a b
      unfolding turned
      turned_more z = sym (ap (λ (l : ℕ). turned l s n count x a b) d ∙ rw (← q, e, ← p, z))

module _ (e a b : ℕ) {v w : Reached} (q : v ≡ w) where
  pub returns_refused : {r : Refusal} → v ≡ Err r → Err r ≡ returns_to e a b w
  returns_refused h = rw (← q, h)

  module _ {x : GroupElementId} (h : v ≡ Ok x) where
    pub returns_here : x.0 ≡ e → fine ≡ returns_to e a b w
    returns_here z = rw (← q, h) (simp (eq-eqb _ _ z))

    pub returns_elsewhere : (x.0 ≡ e → ⊥) → refused_of 13 e a b ≡ returns_to e a b w
    returns_elsewhere z = rw (← q, h) (simp (ne_eqb _ _ z))

-- A bound on every number of a list, tested once.
abbrev all_below : ℕ → List ℕ → Bool
all_below b [] = ltb 0 b
all_below b (x ∷ xs) = ltb x b && all_below b xs

below_at_lem : (b : ℕ) (xs : List ℕ) (k : ℕ) → all_below b xs ≡ true → get_or xs k 0 < b
below_at_lem b [] k h = ltb-true _ _ h
below_at_lem b (x ∷ xs) zero h = ltb-true _ _ (and_first (ltb x b) _ h)
below_at_lem b (x ∷ xs) (suc k) h = below_at_lem b xs k (and_second (ltb x b) _ h)

pub pair_small : (k : ℕ) → pair_code k < 64
unfolding pair_code
pair_small k = below_at_lem 64 pairs k refl

-- The pair that the code takes apart is the pair of the list.
pub pair_relation : (s : List ℕ) (n count e k m : ℕ) {p : ℕ} → p ≡ pair_code k
    → relation_at s n count e (p / 8 % 256) (p % 8) m ≡ relation_at s n count e (pair_code k / 8) (pair_code k % 8) m
pair_relation s n count e k m {p} q = let d : p / 8 % 256 ≡ p / 8 = omega (arith, pair_small k) in rw (d, q)

-- A list of orders that is right has as many as there are pairs.
pub orders_few : (o : List ℕ) (n : ℕ) {v : Verdict} → n ≤ 8 → v ≡ orders_right o n → v ≡ fine → length o ≤ 28
orders_few o n h q e = omega (arith, (orders_limits o n (sym q ∙ e)).0, few_pairs n h)
