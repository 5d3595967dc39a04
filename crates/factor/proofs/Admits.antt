-- Laws of `admits`, one for each of its answers; that it is fine gives the fit of the handle; and what a question answers by its verdict.
use Prim.Native.Nat.{ℕ, ◌≤◌, ◌<◌}
use mathlib.Core.Path.{◌≡◌, refl, sym, ◌∙◌}
use mathlib.Core.Bool.{Bool, true, false}
use native.Mathlib.Omega.{arith}
use borrow.Author.Tests.{le-leb, lt-leb}
use Rattle.egg.specs.declared.Refusal.{Refusal}
use Rattle.egg.specs.declared.Factor.{Factor}
use Rattle.egg.specs.Answers.{Counted, Reached, Verdict, fine}
use Rattle.std.specs.Prelude.{Err}
use Rattle.egg.specs.Scan.{refused_of}
use Rattle.egg.specs.Factor.{fits_in}
use Rattle.factor.specs.Questions.{admits}
use Rattle.egg.specs.Answers.{if_reach, if_count}

module _ (len : ℕ) (f : Factor) (a b : ℕ) where
  pub admits_handle : fits_in len f ≡ false → refused_of 17 0 0 0 ≡ admits len f a b
  unfolding admits
  admits_handle h = rw h

  module _ (fits : fits_in len f ≡ true) where
    pub admits_first : f.elements ≤ a → refused_of 14 0 0 0 ≡ admits len f a b
    unfolding admits
    admits_first h = rw fits (simp (le-leb _ _ h))

    pub admits_second : a < f.elements → f.elements ≤ b → refused_of 14 1 0 0 ≡ admits len f a b
    unfolding admits
    admits_second h k = rw fits (simp (lt-leb _ _ h, le-leb _ _ k))

    pub admits_fine : a < f.elements → b < f.elements → fine ≡ admits len f a b
    unfolding admits
    admits_fine h k = rw fits (simp (lt-leb _ _ h, lt-leb _ _ k))

  -- Where the call goes on, the stretch of the factor may be lent.
  pub admitted : {v : Verdict} → v ≡ admits len f a b → v ≡ fine → fits_in len f ≡ true
  admitted {v} q e = by (fits_in len f) refl where
    by : (t : Bool) → fits_in len f ≡ t → fits_in len f ≡ true
    by true h = h
    by false h =
        let p : refused_of 17 0 0 0 ≡ v = admits_handle h ∙ sym q in
        let z : ◌≡◌ {A = ℕ} 0 1 = cc in
        absurd (omega arith)

module _ {v w : Verdict} (q : v ≡ w) where
  pub reach_refused : {r : Refusal} (x : Reached) → v ≡ Err r → Err r ≡ if_reach w x
  reach_refused x e = rw (← q, e)

  pub reach_fine : (x : Reached) → v ≡ fine → x ≡ if_reach w x
  reach_fine x e = rw (← q, e)

  pub count_refused : {r : Refusal} (x : Counted) → v ≡ Err r → Err r ≡ if_count w x
  count_refused x e = rw (← q, e)

  pub count_fine : (x : Counted) → v ≡ fine → x ≡ if_count w x
  count_fine x e = rw (← q, e)
