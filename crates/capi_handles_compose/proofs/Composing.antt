-- Laws of two elements composed or conjugated digit by digit, over the question that is asked.
use Prim.Native.Nat.{ℕ, ◌+◌, ◌*◌, ◌/◌, ◌%◌, ◌≤◌, ◌<◌}
use mathlib.Core.Path.{◌≡◌}
use mathlib.Core.Bool.{true}
use mathlib.Core.List.{List, [], ◌∷◌}
use native.Mathlib.Nat.{mod-lt}
use native.Mathlib.Omega.{arith}
use lib.ListN.{length, drop}
use Rattle.egg.specs.declared.Factor.{Factor}
use Rattle.egg.specs.declared.Refusal.{Refusal}
use Rattle.egg.specs.declared.GroupElementId.{GroupElementId}
use Rattle.egg.specs.Answers.{Reached}
use Rattle.std.specs.Prelude.{Ok, Err}
use Rattle.egg.specs.Factor.{fits_in}
use Rattle.egg.proofs.Rooms.{some}
use Rattle.group_handles.specs.Handles.{elements_of, all_fit}
use Rattle.group_digits.specs.Digits.{PartQuestion, digit_of, digitwise}
use Rattle.group_handles.proofs.Lists.{fits_at, positive}
use Rattle.group_digits.proofs.Walks.{Gathering, gathering, gathers_on, gathers_stop, gathers_end, below_element, digit_below, sum_fits, stride_fits}
use Rattle.capi_handles.proofs.Looks.{placed}

-- The digits before f are gathered, in a product whose handles fit and whose elements have numbers of 32 bits.
pub record Composing (k : PartQuestion) (t : List ℕ) (hs : List Factor) (a b f s sum x y : ℕ) : Type 0 where
  pub gathers : Gathering (digit_of k t) hs a b f s sum x y
  pub fits : all_fit (length t) hs ≡ true
  pub few : elements_of hs ≤ 4294967295

pub composing : (k : PartQuestion) (t : List ℕ) (hs : List Factor) (a b : ℕ) → (all_fit (length t) hs ≡ true) × (elements_of hs ≤ 4294967295) → Composing k t hs a b 0 1 0 a b
composing k t hs a b p = record { gathers = gathering hs a b; fits = p.0; few = p.1 }

module _ {k : PartQuestion} {t : List ℕ} {hs : List Factor} {a b f s sum x y : ℕ} {h : Factor} (w : Composing k t hs a b f s sum x y)
    (d : drop f hs ≡ h ∷ drop (f + 1) hs)
  where
    pub handle_fits : fits_in (length t) h ≡ true
    handle_fits = let (l, q) = placed hs f d in rw q (fits_at (length t) hs f w.fits l)

    pub some_there : 0 < h.elements
    some_there = some (length t) h handle_fits

    pub stride_small : s * h.elements ≤ 4294967295
    stride_small = omega (arith, w.few, stride_fits w.gathers.walks d (positive (length t) hs w.fits))

    module _ {r : Reached} (q : r ≡ digit_of k t h (x % h.elements) (y % h.elements)) where
      pub composes_stop : {why : Refusal} → r ≡ Err why → Err why ≡ digitwise (digit_of k t) hs a b
      composes_stop p = gathers_stop w.gathers d q p

      module _ {e : GroupElementId} (p : r ≡ Ok e) where
        in_range : e.0 < h.elements
        in_range = below_element (digit_below k t h (x % h.elements) (y % h.elements) (mod-lt x some_there)) q p

        pub sum_small : sum + s * e.0 ≤ 4294967295
        sum_small = omega (arith, stride_small, sum_fits w.gathers.walks d in_range)

        pub composes_on : Composing k t hs a b (f + 1) (s * h.elements) (sum + s * e.0) (x / h.elements) (y / h.elements)
        composes_on = record { gathers = gathers_on w.gathers d q p in_range; fits = w.fits; few = w.few }

pub composes_end : {k : PartQuestion} {t : List ℕ} {hs : List Factor} {a b f s sum x y : ℕ} → Composing k t hs a b f s sum x y → drop f hs ≡ []
    → Ok (record { 0 = sum }) ≡ digitwise (digit_of k t) hs a b
composes_end w d = gathers_end w.gathers d
