-- The facts that are taken after a new element leave all that is known in 000's table known, and its words as they are.
use Prim.Native.Nat.{ℕ, ◌+◌, ◌*◌, ◌<◌, ◌≤◌}
use mathlib.Core.Path.{◌≡◌, refl, ◌∙◌}
use mathlib.Core.List.{List}
use native.Mathlib.Omega.{arith}
use lib.ListN.{get_or}
use Rattle.theory.specs.Presentation.{order_of}
use Rattle.egg.specs.declared.GroupElementId.{GroupElementId}
use Rattle.egg.specs.declared.GeneratorId.{GeneratorId}
use Rattle.egg.specs.Table.{start_of}
use Rattle.build_reading.specs.Build.{set_step, set_word}
use Rattle.enumeration_run.specs.Run.{discovered}
use Rattle.enumeration_run_laws.specs.Invariant.{StepKnown, RunOk}
use Rattle.enumeration_run.specs.Limits.{Limits}
use Rattle.enumeration_run_laws.proofs.Keeping.{Both, settle_keeps}
use Rattle.enumeration_run_laws.proofs.Knowing.{set_more}
use Rattle.enumeration_run_laws.proofs.Running.{new_state}
use Rattle.enumeration_loop_laws.proofs.Stepping.{stepped}
use Rattle.enumeration_quick_laws.proofs.Alike.{set_rest}

-- From the table t₀ to t: all that was known is known, and the words are as they were.
pub record Lasting (n : ℕ) (t₀ t : List ℕ) : Type 0 where
  pub more : (x h : ℕ) → h < n → StepKnown n t₀ x h → StepKnown n t x h
  pub rest : (x k : ℕ) → 2 * n ≤ k → k < 2 * n + 4 → get_or t (start_of n x + k) 0 ≡ get_or t₀ (start_of n x + k) 0

lasts_both : {n count lt : ℕ} (t₀ : List ℕ) → Both n count lt (Lasting n t₀)
lasts_both {n} t₀ = record {
  both = λ t e g r long he hg hr K.
      let once = set_step t n e g r in
      record {
        more = λ x h hh k. set_more n once r g e x h hh (set_more n t e g r x h hh (K.more x h hh k));
        rest = λ x k low high. set_rest n once r g e hg x k low high ∙ set_rest n t e g r hg x k low high ∙ K.rest x k low high;
      };
}

-- A new element's word and steps are set before any fact is taken.
pub discovered_lasts : {n : ℕ} {o : List ℕ} {room lt lw : ℕ} → Limits n o room lt lw → {c : ℕ} {t w : List ℕ} → RunOk n (order_of o) room lt lw c t w
    → (e : GroupElementId) (g : GeneratorId) → e.0 < c → g.0 < n → c < room → (len : ℕ)
    → let new : GroupElementId = record { 0 = c } in
    Lasting n (stepped t n c e g len) (discovered n o e g new (set_step (set_word t n new e g len) n e g new) w).table
unfolding discovered
discovered_lasts {n} L {c} {t} I e g he hg h len =
    let from : List ℕ = stepped t n c e g len in
    let now : Lasting n from from = record { more = λ x h hh k. k; rest = λ x k low high. refl } in
    settle_keeps L.few (omega (arith, L.limit)) (Lasting n from) (lasts_both {count = c + 1} from) _ (new_state L I e g he hg h len) now
