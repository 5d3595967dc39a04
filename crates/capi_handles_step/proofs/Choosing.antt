-- Laws of the pass that finds the factor that has a generator.
use Prim.Native.Nat.{ℕ, suc, ◌+◌, ◌*◌, ◌≤◌, ◌<◌}
use mathlib.Core.Path.{◌≡◌, refl, sym, ◌∙◌}
use mathlib.Core.Bool.{Bool, true, false}
use mathlib.Core.List.{List, [], ◌∷◌}
use native.Mathlib.Omega.{arith}
use borrow.Author.Tests.{leb-true, leb-false}
use lib.ListN.{length, take, drop}
use lib.Dec.{leb}
use Rattle.egg.specs.declared.Factor.{Factor}
use Rattle.egg.specs.Table.{pick}
use Rattle.egg.specs.Factor.{fits_in}
use Rattle.egg.proofs.Rooms.{false_true}
use Rattle.group_handles.specs.Handles.{handles, generators_of}
use Rattle.group_handles.proofs.Caps.{cap_small}
use Rattle.group_walk.proofs.Steps.{taken_next}
use Rattle.capi_handles.specs.Product.{product_of}
use Rattle.capi_handles.proofs.Looks.{placed}
use Rattle.capi_handles_step.specs.Spots.{Located, Spotted}
use Rattle.capi_handles.proofs.Passing.{Passing, passed_all, passed_generators, passes_stop}

pub record Choosing (hs : List Factor) (x f generators at s before : ℕ) : Type 0 where
  pub letters : generators ≡ generators_of (take f hs)
  pub small : generators ≤ 255 * f
  pub located : Located hs x generators at s before

pub choosing : (hs : List Factor) (x : ℕ) → Choosing hs x 0 0 0 1 0
choosing hs x = record {
  letters = refl;
  small = omega arith;
  located = record {
    earlier = refl;
    passed = omega arith;
    strided = sym (cap_small (omega arith));
    there = λ l. absurd (omega arith);
    has = λ l. absurd (omega arith);
  };
}

module _ {len : ℕ} {hs : List Factor} {x f elements generators at s before : ℕ} {h : Factor} (p : Passing len hs f elements)
    (w : Choosing hs x f generators at s before) (d : drop f hs ≡ h ∷ drop (f + 1) hs) (k : h.generators < 256)
  where
    letters_on : generators + h.generators ≡ generators_of (take (f + 1) hs)
    letters_on =
        let (l, q) = placed hs f d in
        let z : f + 1 ≡ suc f = omega arith in
        rw (z, taken_next hs f l, q, w.letters)

    chooses_here : generators ≤ x → Choosing hs x (f + 1) (generators + h.generators) f elements generators
    chooses_here l =
        let (o, q) = placed hs f d in
        record {
          letters = letters_on;
          small = omega (arith, w.small);
          located = record { earlier = w.letters; passed = l; strided = p.strides; there = λ m. o; has = λ m. rw (← q) m };
        }

    chooses_past : x < generators → Choosing hs x (f + 1) (generators + h.generators) at s before
    chooses_past l =
        let L = w.located in
        record {
          letters = letters_on;
          small = omega (arith, w.small);
          located = record { earlier = L.earlier; passed = L.passed; strided = L.strided; there = λ m. L.there l; has = λ m. L.has l };
        }

    chooses : (b : Bool) → leb generators x ≡ b → Choosing hs x (f + 1) (generators + h.generators) (pick b f at) (pick b elements s) (pick b generators before)
    chooses true q = chooses_here (leb-true _ _ q)
    chooses false q = chooses_past (leb-false _ _ q)

    pub chooses_on : {at₁ s₁ before₁ : ℕ} → at₁ ≡ pick (leb generators x) f at → s₁ ≡ pick (leb generators x) elements s → before₁ ≡ pick (leb generators x) generators before
        → Choosing hs x (f + 1) (generators + h.generators) at₁ s₁ before₁
    chooses_on u v y = rw (u, v, y) (chooses (leb generators x) refl)

module _ (t l : List ℕ) (count : ℕ) {x f elements generators at s before : ℕ} (p : Passing (length t) (handles (product_of l count)) f elements)
    (w : Choosing (handles (product_of l count)) x f generators at s before)
  where
    pub spots_none : {h : Factor} → drop f (handles (product_of l count)) ≡ h ∷ drop (f + 1) (handles (product_of l count)) → fits_in (length t) h ≡ false
        → Spotted t l count x (record { seen = record { fit = false; elements = elements; generators = generators }; at = at; stride = s; before = before })
    spots_none d k = record { looked = passes_stop p d k generators; letters = λ q. absurd (false_true q); located = λ q. absurd (false_true q) }

    pub spots : drop f (handles (product_of l count)) ≡ []
        → Spotted t l count x (record { seen = record { fit = true; elements = elements; generators = generators }; at = at; stride = s; before = before })
    spots d = record {
      looked = passed_all p d generators;
      letters = λ q. w.letters ∙ passed_generators (handles (product_of l count)) f d;
      located = λ q. w.located;
    }
