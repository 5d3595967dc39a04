-- Three questions over lists by their single calls, for factors and products alike.
-- Assumes nothing.
use Prim.Native.Nat.{ℕ, ◌≤◌, ◌<◌}
use mathlib.Core.Path.{◌≡◌}
use mathlib.Core.Bool.{false}
use mathlib.Core.List.{List, []}
use lib.ListN.{length, get_or}
use lib.IntN.{ℤ, pos}
use Rattle.egg.specs.declared.GroupElementId.{GroupElementId}
use Rattle.egg.specs.Answers.{Reached}
use Rattle.std.specs.Prelude.{Err}
use Rattle.egg.specs.Answers.{numbered}
use Rattle.theory.specs.Group.{GroupOn, integer_power}
use Rattle.build_checks_laws.specs.Numbers.{member}
use Rattle.factor_laws.specs.Accepted.{reach}
use Rattle.factor_laws.specs.Refuses.{ReachedIn}
use Rattle.lists.specs.Lists.{lengths_right, Answered, over_lists}
use Rattle.lists_laws.specs.Outcomes.{Right}
use Rattle.lists_laws.proofs.Outcomes.{filled_by_lem, stopped_by, lists_exactly, empty_fine}
use Rattle.promises_lists.specs.Places.{PlaceByPlace}
use Rattle.promises_lists.specs.Walls.{element_at, ListsOf}
use Rattle.promises_lists.proofs.Papers.{paper_exactly}

-- What the single calls of a group answer, of numbers that are elements and of others.
pub record Singles (count : ℕ) (op : ℕ → ℕ → ℕ) (inv : ℕ → ℕ) (compose : GroupElementId → GroupElementId → Reached) (inverse : GroupElementId → Reached)
    (power : GroupElementId → ℤ → Reached) : Type 0 where
  pub group : GroupOn count op inv
  pub composes : {a b : ℕ} → a < count → b < count → compose (record { 0 = a }) (record { 0 = b }) ≡ reach (op a b)
  pub inverts : {a : ℕ} → a < count → inverse (record { 0 = a }) ≡ reach (inv a)
  pub powers : {a : ℕ} → a < count → (z : ℤ) → power (record { 0 = a }) z ≡ reach (integer_power op inv a z)
  pub compose_first : {a : ℕ} (b : ℕ) → count ≤ a → compose (record { 0 = a }) (record { 0 = b }) ≡ Err (numbered 14 0 0 0)
  pub compose_second : {a b : ℕ} → a < count → count ≤ b → compose (record { 0 = a }) (record { 0 = b }) ≡ Err (numbered 14 1 0 0)
  pub inverse_stops : {a : ℕ} → count ≤ a → inverse (record { 0 = a }) ≡ Err (numbered 14 0 0 0)
  pub power_stops : {a : ℕ} (z : ℤ) → count ≤ a → power (record { 0 = a }) z ≡ Err (numbered 14 0 0 0)

module _ (compose : GroupElementId → GroupElementId → Reached) (inverse : GroupElementId → Reached) (power : GroupElementId → ℤ → Reached) where
  abbrev compose_by : List ℕ → List ℕ → ℕ → Reached
  compose_by a b i = compose (element_at a i) (element_at b i)

  abbrev inverse_by : List ℕ → ℕ → Reached
  inverse_by a i = inverse (element_at a i)

  abbrev power_by : List ℕ → List ℤ → ℕ → Reached
  power_by a exponents i = power (element_at a i) (get_or exponents i (pos 0))

  abbrev composed : List ℕ → List ℕ → List ℕ → Answered
  composed a b out = over_lists (lengths_right (length a) (length b) (length out)) (length a) (compose_by a b) out

  abbrev inverted : List ℕ → List ℕ → Answered
  inverted a out = over_lists (lengths_right (length a) (length a) (length out)) (length a) (inverse_by a) out

  abbrev powered : List ℕ → List ℤ → List ℕ → Answered
  powered a exponents out = over_lists (lengths_right (length a) (length exponents) (length out)) (length a) (power_by a exponents) out

  pub places_of : (l : List ℕ) → member 4 l ≡ false → member 0 l ≡ false → ((a b : GroupElementId) → ReachedIn l (compose a b))
      → ((a : GroupElementId) → ReachedIn l (inverse a)) → ((a : GroupElementId) (z : ℤ) → ReachedIn l (power a z))
      → PlaceByPlace l compose_by inverse_by power_by composed inverted powered
  places_of l no-4 no-0 composes inverts powers = record {
    composes = λ a b out h. lists_exactly (length a) (length b) (compose_by a b) out h;
    inverts = λ a out h. lists_exactly (length a) (length a) (inverse_by a) out h;
    powers = λ a exponents out h. lists_exactly (length a) (length exponents) (power_by a exponents) out h;
    composes_none = empty_fine (compose_by [] []);
    inverts_none = empty_fine (inverse_by []);
    powers_none = empty_fine (power_by [] []);
    composes_paper = λ a b out. paper_exactly l no-4 no-0 (length a) (length b) (compose_by a b) out (λ i. composes (element_at a i) (element_at b i));
    inverts_paper = λ a out. paper_exactly l no-4 no-0 (length a) (length a) (inverse_by a) out (λ i. inverts (element_at a i));
    powers_paper = λ a exponents out.
        paper_exactly l no-4 no-0 (length a) (length exponents) (power_by a exponents) out (λ i. powers (element_at a i) (get_or exponents i (pos 0)));
  }

right_reach : {x : Reached} {e : ℕ} → x ≡ reach e → Right x
right_reach {x} {e} q = record { element = record { 0 = e }; reached = q }

module _ {count : ℕ} {op : ℕ → ℕ → ℕ} {inv : ℕ → ℕ} {compose : GroupElementId → GroupElementId → Reached} {inverse : GroupElementId → Reached}
    {power : GroupElementId → ℤ → Reached} (S : Singles count op inv compose inverse power) where
  pub lists_of : ListsOf count op inv (composed compose inverse power) (inverted compose inverse power) (powered compose inverse power)
  lists_of = record {
    group = S.group;
    composes = λ a b out l ha hb. filled_by_lem _ out l _ (λ i u. S.composes (ha i u) (hb i u));
    inverts = λ a out l ha. filled_by_lem _ out l _ (λ i u. S.inverts (ha i u));
    powers = λ a exponents out l ha. filled_by_lem _ out l _ (λ i u. S.powers (ha i u) (get_or exponents i (pos 0)));
    composes_first = λ a b out l place u ha hb h.
        stopped_by _ out l place _ u (S.compose_first (get_or b place 0) h) (λ i v. right_reach (S.composes (ha i v) (hb i v)));
    composes_second = λ a b out l place u ha hb h k.
        stopped_by _ out l place _ u (S.compose_second h k) (λ i v. right_reach (S.composes (ha i v) (hb i v)));
    inverts_stops = λ a out l place u ha h. stopped_by _ out l place _ u (S.inverse_stops h) (λ i v. right_reach (S.inverts (ha i v)));
    powers_stops = λ a exponents out l place u ha h.
        stopped_by _ out l place _ u (S.power_stops (get_or exponents place (pos 0)) h) (λ i v. right_reach (S.powers (ha i v) (get_or exponents i (pos 0))));
  }
