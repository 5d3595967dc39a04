-- Numbering in order of first appearance leaves no choice.
use Prim.Native.Nat.{ℕ, suc, ◌<◌, ◌≤◌}
use mathlib.Core.Path.{◌≡◌, sym, ◌∙◌, ap}
use mathlib.Core.Logic.{⊎_elim}
use native.Mathlib.Decide.{dec_lt}
use native.Mathlib.Omega.{arith}
use Rattle.theory.specs.Numbering.{Known, start, old, new, next_row}
use Rattle.theory.specs.Appearance.{row}
use Rattle.theory.proofs.BoundedTests.{below_suc}
use Rattle.theory.proofs.Places.{ahead_row}
use Rattle.theory.proofs.Counting.{row_known}
use Rattle.theory.proofs.RuleLaws.{no_skip, count_within}
use Rattle.theory.specs.Orbit.{numbered_step, Appearing}
use Rattle.build_numbering_laws.proofs.Order.{number_is, step_outside}

module _ {n M M' : ℕ} {out : ℕ → ℕ → ℕ} {x₀ N N' : ℕ} {elt elt' : ℕ → ℕ} (A : Appearing n M out x₀ N elt) (A' : Appearing n M' out x₀ N' elt') where
  abbrev s : ℕ → ℕ → ℕ
  s = numbered_step N elt out

  abbrev s' : ℕ → ℕ → ℕ
  s' = numbered_step N' elt' out

  -- As far as the one has come, so far has the other, with the same elements.
  record Alike (e g c : ℕ) : Type 0 where
    known : Known n (numbered_step N' elt' out) e g c
    same : {i : ℕ} → i < c → elt i ≡ elt' i

  module _ {e g c : ℕ} (K : Known n (numbered_step N elt out) e g c) (hg : g < n) (S : Alike e g c) where
    few : c ≤ N
    few = count_within A.by_rule K

    few' : c ≤ N'
    few' = count_within A'.by_rule S.known

    row_in : e < c
    row_in = row_known K

    outside : elt (s e g) ≡ out (elt e) g
    outside = step_outside A (omega (arith, row_in, few)) hg

    outside' : elt' (s' e g) ≡ out (elt' e) g
    outside' = step_outside A' (omega (arith, row_in, few')) hg

    alike_old : s e g < c → s' e g ≡ s e g
    alike_old h = number_is N' elt' (out (elt' e) g) (s e g) (λ i j. A'.once) (omega (arith, few'))
        (sym (S.same h) ∙ outside ∙ ap (λ x. out x g) (S.same row_in))

    alike_new : s e g ≡ c → s' e g ≡ c
    alike_new is = go (dec_lt (s' e g) c) where
      most : s' e g ≤ c
      most = no_skip S.known hg A'.by_rule.known (ahead_row hg (row (omega (arith, row_in, few', A'.by_rule.last_row))))

      go : Dec (s' e g < c) → s' e g ≡ c
      go (no f) = omega (arith, most)
      go (yes h) = absurd (omega (
        arith,
        number_is N elt (out (elt e) g) (s' e g) (λ i j. A.once) (omega (arith, few)) (S.same h ∙ outside' ∙ ap (λ x. out x g) (sym (S.same row_in))),
      ))

    alike_more : s e g ≡ c → {i : ℕ} → i < suc c → elt i ≡ elt' i
    alike_more is {i} h = ⊎_elim
        (λ q. ap elt (q ∙ sym is) ∙ outside ∙ ap (λ x. out x g) (S.same row_in) ∙ sym outside' ∙ ap elt' (alike_new is ∙ sym q))
        (λ l. S.same l)
        (below_suc h)

  alike : {e g c : ℕ} → Known n (numbered_step N elt out) e g c → Alike e g c
  alike start = record { known = start; same = λ {i} h. let q : i ≡ 0 = omega arith in ap elt q ∙ A.first ∙ sym A'.first ∙ ap elt' (sym q) }
  alike (old K hg h) =
      let S = alike K in
      record { known = old S.known hg (rw (alike_old K hg S h) h); same = S.same }
  alike (new K hg is) =
      let S = alike K in
      record { known = new S.known hg (alike_new K hg S is); same = λ h. alike_more K hg S is h }
  alike (next_row K h) = let S = alike K in record { known = next_row S.known h; same = S.same }

  pub appearing_once : {e : ℕ} → e < N → elt e ≡ elt' e
  appearing_once h = (alike A.by_rule.known).same h
