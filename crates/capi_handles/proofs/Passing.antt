-- Laws of one pass over the handles of a product: the numbers of those that were passed.
use Prim.Native.Nat.{ℕ, zero, suc, ◌+◌, ◌*◌, ◌≤◌}
use mathlib.Core.Path.{◌≡◌, refl, sym, ap, ◌∙◌}
use mathlib.Core.Bool.{true, false, ◌&&◌}
use mathlib.Core.List.{List, [], ◌∷◌}
use native.Mathlib.Omega.{arith}
use lib.ListN.{take, drop}
use Rattle.egg.specs.declared.Factor.{Factor}
use Rattle.egg.specs.Factor.{fits_in}
use Rattle.egg.proofs.Rooms.{false_true}
use Rattle.theory_radix.specs.Radix.{stride}
use Rattle.theory_radix.proofs.RadixLaws.{stride_next}
use Rattle.group_handles.specs.Handles.{sizes, elements_of, generators_of, all_fit, capped, Looked}
use Rattle.group_handles.proofs.Caps.{cap_small, cap_times, capped_bound}
use Rattle.group_handles.proofs.Lists.{sizes_at}
use Rattle.capi_handles.proofs.Looks.{placed}

all_taken : (hs : List Factor) (f : ℕ) → drop f hs ≡ [] → (stride (sizes hs) f ≡ elements_of hs) × (generators_of (take f hs) ≡ generators_of hs)
all_taken [] zero d = (refl, refl)
all_taken [] (suc f) d = (refl, refl)
all_taken (x ∷ hs) zero d = absurd (let z : ◌≡◌ {A = ℕ} 0 1 = cc in omega arith)
all_taken (x ∷ hs) (suc f) d =
    let (p, q) = all_taken hs f d in
    (ap (λ (s : ℕ). x.elements * s) p, ap (λ (k : ℕ). x.generators + k) q)

-- The handles before f fit, and `elements` is the stride of the factor f, as far as 32 bits can tell.
pub record Passing (len : ℕ) (hs : List Factor) (f elements : ℕ) : Type 0 where
  pub fits : all_fit len (drop f hs) ≡ all_fit len hs
  pub strides : elements ≡ capped (stride (sizes hs) f)

pub passing : (len : ℕ) (hs : List Factor) → Passing len hs 0 1
passing len hs = record { fits = refl; strides = sym (cap_small (omega arith)) }

pub passed_small : {len : ℕ} {hs : List Factor} {f p : ℕ} → Passing len hs f p → p ≤ 4294967296
passed_small {hs = hs} {f} w = rw w.strides (capped_bound (stride (sizes hs) f))

module _ {len : ℕ} {hs : List Factor} {f p : ℕ} {h : Factor} (w : Passing len hs f p) (d : drop f hs ≡ h ∷ drop (f + 1) hs) where
  here : fits_in len h && all_fit len (drop (f + 1) hs) ≡ all_fit len hs
  here = ap (all_fit len) (sym d) ∙ w.fits

  stride_there : stride (sizes hs) f * h.elements ≡ stride (sizes hs) (f + 1)
  stride_there =
      let (l, q) = placed hs f d in
      let z : f + 1 ≡ suc f = omega arith in
      rw (z, q, sizes_at hs f l) (sym (stride_next (sizes hs) f))

  pub passes_on : fits_in len h ≡ true → {r : ℕ} → r ≡ capped (p * h.elements) → Passing len hs (f + 1) r
  passes_on k q = record {
    fits = ap (λ b. b && all_fit len (drop (f + 1) hs)) (sym k) ∙ here;
    strides =
        q ∙ ap (λ (s : ℕ). capped (s * h.elements)) w.strides ∙ cap_times (stride (sizes hs) f) h.elements ∙ ap capped stride_there;
  }

  pub passes_stop : fits_in len h ≡ false → (generators : ℕ) → Looked len hs (record { fit = false; elements = p; generators = generators })
  passes_stop k generators = record {
    fits = ap (λ b. b && all_fit len (drop (f + 1) hs)) (sym k) ∙ here;
    whole = λ q. absurd (false_true q);
  }

pub passed_all : {len : ℕ} {hs : List Factor} {f p : ℕ} → Passing len hs f p → drop f hs ≡ [] → (generators : ℕ)
    → Looked len hs (record { fit = true; elements = p; generators = generators })
passed_all {len} {hs} {f} w d generators = record {
  fits = ap (all_fit len) (sym d) ∙ w.fits;
  whole = λ q. w.strides ∙ ap capped (all_taken hs f d).0;
}

pub passed_generators : (hs : List Factor) (f : ℕ) → drop f hs ≡ [] → generators_of (take f hs) ≡ generators_of hs
passed_generators hs f d = (all_taken hs f d).1
