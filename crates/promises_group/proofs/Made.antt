-- What makes products of accepted factors: none, one, and the product of two.
use Prim.Native.Nat.{ℕ, ◌≤◌}
use mathlib.Core.Path.{◌≡◌, refl, sym, subst}
use mathlib.Core.Bool.{Bool, true, false, ◌&&◌}
use mathlib.Core.List.{List, [], ◌∷◌, ◌++◌}
use native.Mathlib.Nat.{mul-one}
use native.Mathlib.Omega.{arith}
use borrow.Author.Tests.{le-leb, leb-true}
use lib.ListN.{length}
use lib.Dec.{leb}
use Rattle.egg.specs.declared.Factor.{Factor}
use Rattle.egg.specs.Answers.{fine, answer_of}
use Rattle.std.specs.Prelude.{Ok}
use Rattle.egg.specs.Scan.{refused_of}
use Rattle.egg.proofs.Scans.{refused_fine}
use Rattle.egg.proofs.Rooms.{and_first, and_second}
use Rattle.build_lending.proofs.Fits.{fits_small}
use Rattle.factor_laws.specs.Accepted.{Accepted}
use Rattle.group_handles.specs.declared.Group.{Group}
use Rattle.group_handles.specs.Handles as hs
use Rattle.group_handles.specs.Handles.{handles, elements_of, all_fit, group_of, joins}
use Rattle.group_handles.proofs.Joins.{handles_of}
use Rattle.promises_group.specs.Products.{AllAccepted, none, more, AcceptedProduct}

pub grouped : (t : List ℕ) (l : List Factor) → AllAccepted t l → length l ≤ 8 → elements_of l ≤ 4294967295 → AcceptedProduct t (group_of l)
unfolding hs.limited
grouped t l As h k = record {
  factors = subst (AllAccepted t) (sym (handles_of l)) As;
  within =
      let q : elements_of (handles (group_of l)) ≤ 4294967295 = subst (λ (x : List Factor). elements_of x ≤ 4294967295) (sym (handles_of l)) k in
      rw (le-leb (length l) 8 h, le-leb (elements_of (handles (group_of l))) 4294967295 q);
}

pub trivial_accepted : (t : List ℕ) → AcceptedProduct t (group_of [])
trivial_accepted t = grouped t [] none (omega arith) (omega arith)

pub one_accepted : {t : List ℕ} {f : Factor} → Accepted t f → AcceptedProduct t (group_of (f ∷ []))
one_accepted {t} {f} A =
    grouped t (f ∷ []) (more A none) (omega arith) (omega (arith, (fits_small (length t) f A.fits).1, mul-one f.elements))

pub all_both : {t : List ℕ} {xs ys : List Factor} → AllAccepted t xs → AllAccepted t ys → AllAccepted t (xs ++ ys)
all_both none Bs = Bs
all_both (more A As) Bs = more A (all_both As Bs)

-- Where `product` is fine, what it made is the product of all the factors of both.
pub joined_accepted : {t : List ℕ} {a b : Group} → AcceptedProduct t a → AcceptedProduct t b → answer_of (joins (length t) a b) ≡ fine
    → (joins (length t) a b ≡ Ok (group_of (handles a ++ handles b))) × AcceptedProduct t (group_of (handles a ++ handles b))
unfolding joins
joined_accepted {t} {a} {b} A B e = by (all_fit (length t) l) (leb a.count 8 && (leb b.count 8 && (leb (length l) 8 && leb (elements_of l) 4294967295))) refl refl where
  l : List Factor
  l = handles a ++ handles b

  by : (x y : Bool) → all_fit (length t) (handles a ++ handles b) ≡ x
      → leb a.count 8 && (leb b.count 8 && (leb (length (handles a ++ handles b)) 8 && leb (elements_of (handles a ++ handles b)) 4294967295)) ≡ y
      → (joins (length t) a b ≡ Ok (group_of (handles a ++ handles b))) × AcceptedProduct t (group_of (handles a ++ handles b))
  by false y p q = let z : refused_of 17 0 0 0 ≡ fine = rw p at e in absurd (refused_fine z)
  by true false p q = let z : refused_of 15 0 0 0 ≡ fine = rw (p, q) at e in absurd (refused_fine z)
  by true true p q =
      let r = and_second (leb b.count 8) _ (and_second (leb a.count 8) _ q) in (
        rw (p, q),
        grouped t (handles a ++ handles b) (all_both A.factors B.factors)
            (leb-true _ _ (and_first (leb (length (handles a ++ handles b)) 8) _ r))
            (leb-true _ _ (and_second (leb (length (handles a ++ handles b)) 8) _ r)),
      )
