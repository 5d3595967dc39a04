-- What is asked of each digit is the direct product's.
use Prim.Native.Nat.{ℕ, ◌+◌, ◌*◌, ◌/◌, ◌%◌, ◌≤◌, ◌<◌}
use mathlib.Core.Path.{◌≡◌, refl, sym, ap}
use mathlib.Core.Bool.{true}
use mathlib.Core.List.{List, [], ◌∷◌}
use native.Mathlib.Nat.{add-sub_cancel_left}
use native.Mathlib.Omega.{arith}
use borrow.Author.Tests.{lt-ltb, le-ltb}
use lib.ListN.{length}
use Rattle.egg.specs.declared.Factor.{Factor}
use Rattle.theory.specs.Group.{conjugate}
use Rattle.factor_laws.specs.Accepted.{Accepted, reach}
use Rattle.factor_laws.proofs.Steps.{compose_in_lem, inverse_in_lem, conjugate_in_lem}
use Rattle.build_checks_laws.proofs.Accepted.{read_step_lem}
use Rattle.factor_laws.proofs.Handles.{few_elements}
use Rattle.theory_products.specs.Product as theory
use Rattle.theory_products.specs.Product.{Part, product, Each, IsGroup, Worded, Parted}
use Rattle.theory_radix.proofs.RadixLaws.{low_small, high_small}
use Rattle.theory_products.proofs.ProductLaws.{trivial_group, product_group, each_weaken}
use Rattle.theory_products.proofs.StepLaws.{side, WhichFactor, left, right, step_left, step_right}
use Rattle.theory_products.proofs.Componentwise.{op_parted, inv_parted, conjugate_parted}
use Rattle.theory_products.proofs.TableParts.{table_worded}
use Rattle.group_handles.specs.Handles.{elements_of, generators_of, all_fit}
use Rattle.group_digits.specs.Digits.{PartQuestion, Compose, Inverse, Conjugate, digit_of, digitwise, step_in}
use Rattle.promises_group.specs.Products.{part, parts, AllAccepted, none, more}

module _ (t : List ℕ) where
  pub part_worded : {h : Factor} → Accepted t h → Worded (part t h)
  part_worded A = table_worded A.sound.table A.sound.spelled A.sound.columns A.sound.check

  pub all_worded : {hs : List Factor} → AllAccepted t hs → Each Worded (parts t hs)
  all_worded none = theory.none
  all_worded (more A As) = theory.more (part_worded A) (all_worded As)

  pub all_groups : {hs : List Factor} → AllAccepted t hs → Each IsGroup (parts t hs)
  all_groups As = each_weaken (λ p W. W.stepped.group) (all_worded As)

  pub all_fit_lem : {hs : List Factor} → AllAccepted t hs → all_fit (length t) hs ≡ true
  all_fit_lem none = refl
  all_fit_lem (more {h} {hs} A As) = rw (A.fits, all_fit_lem As)

  pub parts_elements : (hs : List Factor) → (product (parts t hs)).elements ≡ elements_of hs
  parts_elements [] = refl
  parts_elements (h ∷ hs) = ap (λ (n : ℕ). h.elements * n) (parts_elements hs)

  pub parts_generators : (hs : List Factor) → (product (parts t hs)).generators ≡ generators_of hs
  parts_generators [] = refl
  parts_generators (h ∷ hs) = ap (λ (n : ℕ). h.generators + n) (parts_generators hs)

  -- Any question that is taken factor by factor.
  digits_are : (k : PartQuestion) {F : Part → ℕ → ℕ → ℕ} → Parted F
      → ((h : Factor) (a b : ℕ) → Accepted t h → a < h.elements → b < h.elements → digit_of k t h a b ≡ reach (F (part t h) a b))
      → {hs : List Factor} → AllAccepted t hs → (a b : ℕ) → a < (product (parts t hs)).elements → b < (product (parts t hs)).elements
      → digitwise (digit_of k t) hs a b ≡ reach (F (product (parts t hs)) a b)
  unfolding digitwise
  digits_are k {F} S is none a b ha hb = ap reach (omega (arith, S.closed trivial_group ha hb))
  digits_are k {F} S is (more {h} {hs} A As) a b ha hb =
      let N : ℕ = h.elements in
      let M : ℕ = (product (parts t hs)).elements in
      rw (
        is h (a % N) (b % N) A (low_small N M a ha) (low_small N M b hb),
        digits_are k S is As (a / N) (b / N) (high_small N M a ha) (high_small N M b hb),
      )
      (ap reach (sym (S.at_pair (part_worded A).stepped.group (product_group (all_groups As)) ha hb)))

  module _ {hs : List Factor} (As : AllAccepted t hs) where
    pub composes_are : (a b : ℕ) → a < (product (parts t hs)).elements → b < (product (parts t hs)).elements
        → digitwise (digit_of Compose t) hs a b ≡ reach ((product (parts t hs)).op a b)
    composes_are = digits_are Compose op_parted (λ h a b A ha hb. compose_in_lem A.sound A.ruled A.hops (few_elements A) ha hb) As

    pub conjugates_are : (a b : ℕ) → a < (product (parts t hs)).elements → b < (product (parts t hs)).elements
        → digitwise (digit_of Conjugate t) hs a b ≡ reach (conjugate (product (parts t hs)).op (product (parts t hs)).inv a b)
    conjugates_are = digits_are Conjugate conjugate_parted (λ h a b A ha hb. conjugate_in_lem A.sound A.ruled A.hops (few_elements A) ha hb) As

    pub inverts_are : (a : ℕ) → a < (product (parts t hs)).elements → digitwise (digit_of Inverse t) hs a 0 ≡ reach ((product (parts t hs)).inv a)
    inverts_are a ha =
        digits_are Inverse inv_parted (λ h a b A ha hb. inverse_in_lem A.sound ha) As a 0 ha (product_group (all_groups As)).laws.identity

  -- The step.
  pub steps_are : {hs : List Factor} → AllAccepted t hs → (e x : ℕ) → e < (product (parts t hs)).elements → x < (product (parts t hs)).generators
      → step_in t hs e x ≡ reach ((product (parts t hs)).step e x)
  unfolding step_in
  steps_are none e x he hx = absurd (omega arith)
  steps_are (more {h} {hs} A As) e x he hx =
      by (steps_are As) (side h.generators (product (parts t hs)).generators x hx)
    where
      by : ((e x : ℕ) → e < (product (parts t hs)).elements → x < (product (parts t hs)).generators → step_in t hs e x ≡ reach ((product (parts t hs)).step e x))
          → WhichFactor h.generators (product (parts t hs)).generators x
          → step_in t (h ∷ hs) e x ≡ reach ((product (parts t (h ∷ hs))).step e x)
      by i (left k) =
          rw (
            step_left (part t h) (product (parts t hs)) e k,
            lt-ltb x h.generators k,
            read_step_lem A.sound (low_small h.elements (product (parts t hs)).elements e he) k,
          )
      by i (right y k q) =
          let z : h.generators ≤ h.generators + y = omega arith in
          rw (
            q,
            step_right (part t h) (product (parts t hs)) e y,
            le-ltb (h.generators + y) h.generators z,
            add-sub_cancel_left,
            i (e / h.elements) y (high_small h.elements (product (parts t hs)).elements e he) k,
          )
