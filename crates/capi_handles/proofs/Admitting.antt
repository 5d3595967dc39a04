-- What a pass over the listed handles showed decides as `admits` of their product does.
use Prim.Native.Nat.{ℕ, ◌<◌}
use mathlib.Core.Path.{◌≡◌, refl, ap}
use mathlib.Core.Bool.{true}
use mathlib.Core.List.{List}
use lib.Dec.{leb}
use Rattle.egg.specs.Answers.{Verdict}
use Rattle.group_handles.specs.declared.inner.Seen.{Seen}
use Rattle.group_handles.specs.declared.inner.Limit.{Limit}
use Rattle.group_handles.specs.declared.inner.Limit.TheVariants.{Elements, Generators, Number}
use Rattle.group_handles.specs.Handles.{handles, elements_of, generators_of, limit_seen, admits, admits_seen, Looked}
use Rattle.group_handles.proofs.Admitted.{elements_seen, admits_seen_lem}
use Rattle.capi_handles.specs.Product.{product_at, product_of}

module _ {len : ℕ} (l : List ℕ) (count : ℕ) {s : Seen} (w : Looked len (handles (product_of l count)) s) {v : Verdict} where
  listed_admits : (a : ℕ) (la : Limit) (m b : ℕ) (lb : Limit) (n : ℕ) → v ≡ admits_seen s count a la b lb → (s.fit ≡ true → leb (limit_seen s la) a ≡ leb m a)
      → (s.fit ≡ true → leb (limit_seen s lb) b ≡ leb n b) → v ≡ admits len (product_of l count) a m b n
  unfolding product_at
  listed_admits a la m b lb n q x y = admits_seen_lem (product_of l count) w a la m b lb n q x y

  pub two_elements_lem : {a b : ℕ} → a < 4294967296 → b < 4294967296 → v ≡ admits_seen s count a Elements b Elements
      → v ≡ admits len (product_of l count) a (elements_of (handles (product_of l count))) b (elements_of (handles (product_of l count)))
  two_elements_lem {a} {b} h k q =
      listed_admits a Elements _ b Elements _ q (elements_seen (product_of l count) w h) (elements_seen (product_of l count) w k)

  pub one_element : {a : ℕ} → a < 4294967296 → v ≡ admits_seen s count a Elements 0 (Number 1)
      → v ≡ admits len (product_of l count) a (elements_of (handles (product_of l count))) 0 1
  one_element {a} h q = listed_admits a Elements _ 0 (Number 1) 1 q (elements_seen (product_of l count) w h) (λ f. refl)

  module _ (g : s.fit ≡ true → s.generators ≡ generators_of (handles (product_of l count))) (x : ℕ) where
    pub element_letter : {a : ℕ} → a < 4294967296 → v ≡ admits_seen s count a Elements x Generators
        → v ≡ admits len (product_of l count) a (elements_of (handles (product_of l count))) x (generators_of (handles (product_of l count)))
    element_letter {a} h q = listed_admits a Elements _ x Generators _ q (elements_seen (product_of l count) w h) (λ f. ap (λ (z : ℕ). leb z x) (g f))

    pub one_letter : v ≡ admits_seen s count x Generators 0 (Number 1) → v ≡ admits len (product_of l count) x (generators_of (handles (product_of l count))) 0 1
    one_letter q = listed_admits x Generators _ 0 (Number 1) 1 q (λ f. ap (λ (z : ℕ). leb z x) (g f)) (λ f. refl)
