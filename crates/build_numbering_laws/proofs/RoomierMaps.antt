-- More room changes no map: the numbers outside are the same, and so are the elements, with zeros beyond.
use Prim.Native.Nat.{ℕ, ◌<◌}
use mathlib.Core.Path.{◌≡◌, sym, ◌∙◌, ap}
use mathlib.Core.List.{List}
use native.Mathlib.Decide.{dec_lt}
use native.Mathlib.Omega.{arith}
use lib.ListN.{get_or}
use lib.Seq.{ext_get_or}
use Rattle.theory.specs.Orbit.{number_of}
use Rattle.build_numbering_laws.specs.Maps.{MapsFilled}
use Rattle.build_numbering_laws.proofs.Order.{number_found, number_at_most}

module _ {M room K room' K' N : ℕ} {elt : ℕ → ℕ} {inn outw inn' outw' : List ℕ} (F : MapsFilled M room K elt N inn outw) (F' : MapsFilled M room' K' elt N inn' outw') where
  pub inward_same : inn ≡ inn'
  inward_same = ext_get_or 0 inn inn' (F.inn_size ∙ sym F'.inn_size) (λ x h. go x (omega (arith, F.inn_size)) (dec_lt (number_of N elt x) N)) where
    go : (x : ℕ) → x < M → Dec (number_of N elt x < N) → get_or inn x 0 ≡ get_or inn' x 0
    go x hx (yes h) =
        let q = number_found N elt x h in
        ap (λ y. get_or inn y 0) (sym q) ∙ F.numbers h ∙ sym (F'.numbers h) ∙ ap (λ y. get_or inn' y 0) q
    go x hx (no f) =
        let none : (e : ℕ) → e < N → elt e ≡ x → ⊥ = λ e h q. f (omega (arith, number_at_most N elt x e q)) in
        F.others hx none ∙ sym (F'.others hx none)

  pub outward_same : (e : ℕ) → get_or outw e 0 ≡ get_or outw' e 0
  outward_same e = go (dec_lt e N) where
    go : Dec (e < N) → get_or outw e 0 ≡ get_or outw' e 0
    go (yes h) = F.elements h ∙ sym (F'.elements h)
    go (no f) = F.beyond (omega arith) ∙ sym (F'.beyond (omega arith))
