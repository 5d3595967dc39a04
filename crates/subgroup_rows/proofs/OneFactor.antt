-- An overgroup of one factor: its handle.
use Prim.Native.Nat.{ℕ}
use mathlib.Core.Path.{◌≡◌, sym, ap, subst}
use mathlib.Core.Bool.{true}
use mathlib.Core.List.{List, [], ◌∷◌}
use native.Mathlib.Omega.{arith}
use lib.ListN.{length, get_or}
use Rattle.egg.specs.declared.Factor.{Factor}
use Rattle.egg.specs.Factor.{fits_in}
use Rattle.egg.proofs.Rooms.{and_first}
use Rattle.build_lending.specs.Lending.{no_factor}
use Rattle.group_handles.specs.Handles.{all_fit}

pub one_handle : (hs : List Factor) {k : ℕ} {f : Factor} → k ≡ length hs → k ≡ 1 → f ≡ get_or hs 0 no_factor → hs ≡ f ∷ []
one_handle [] p q r = absurd (omega arith)
one_handle (x ∷ []) p q r = ap (λ (y : Factor). y ∷ []) (sym r)
one_handle (x ∷ y ∷ hs) p q r = absurd (omega arith)

pub one_fits : (len : ℕ) {hs : List Factor} {f : Factor} → all_fit len hs ≡ true → hs ≡ f ∷ [] → fits_in len f ≡ true
one_fits len {hs} {f} h q = and_first (fits_in len f) _ (subst (λ (l : List Factor). all_fit len l ≡ true) q h)
