-- The checks keep the steps, parents and last generators, so a table that follows the numbering rule before them follows it afterwards.
use Prim.Native.Nat.{ℕ}
use mathlib.Core.Path.{◌≡◌, ◌∙◌}
use mathlib.Core.List.{List}
use Rattle.egg.specs.Table.{parent_of, last_of, step_of}
use Rattle.theory.specs.Numbering.{Numbered}
use Rattle.theory.specs.Appearance.{FirstAppearance}
use Rattle.theory.proofs.RuleLaws.{numbered_agree, appearance_agree, appearance_same}
use Rattle.build_checks_laws.specs.Stored.{Kept}
use Rattle.build_checks_laws.specs.Sound.{Sound, Ruled}

pub ruled : {t : List ℕ} {n N : ℕ} → Sound t n N → Numbered n N (step_of t n) → FirstAppearance n N (step_of t n) (parent_of t n) (last_of t n)
    → parent_of t n 0 ≡ 0 → last_of t n 0 ≡ 0 → Ruled t n N
ruled S R F p l = record { rule = record { numbered = R; identity_row_lem = λ g hg. S.identity_row_lem hg }; appearance = F; no_parent = p; no_last = l }

pub ruled_kept : {t t₁ : List ℕ} {n N : ℕ} → Kept t t₁ n N → Sound t₁ n N → Numbered n N (step_of t n)
    → FirstAppearance n N (step_of t n) (parent_of t n) (last_of t n) → parent_of t n 0 ≡ 0 → last_of t n 0 ≡ 0 → Ruled t₁ n N
ruled_kept K S R F p l =
    ruled S (numbered_agree R (λ e g he hg. K.step_same e hg))
    (appearance_same (appearance_agree F (λ e g he hg. K.step_same e hg)) K.parent_same K.last_same) (K.parent_same 0 ∙ p) (K.last_same 0 ∙ l)
