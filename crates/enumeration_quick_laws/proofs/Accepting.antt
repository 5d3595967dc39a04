-- A table that passes the checks, and 13 at the identity, has steps in which the relations hold, and each of its elements is reached from its parent.
use Prim.Native.Nat.{ℕ, ◌+◌, ◌*◌, ◌≤◌, ◌<◌}
use mathlib.Core.Path.{◌≡◌, sym, ap, subst}
use mathlib.Core.List.{List}
use native.Mathlib.Nat.{mul-le-mul, le_refl}
use native.Mathlib.Omega.{arith}
use lib.ListN.{length}
use Rattle.egg.specs.Answers.{Counted, fine}
use Rattle.std.specs.Prelude.{Ok}
use Rattle.egg.specs.Table.{step_of, parent_of, last_of}
use Rattle.build_lending.specs.Finish.{built, finished}
use Rattle.factor_relations.specs.Relations.{relations_row}
use Rattle.theory.specs.Words.{Parents}
use Rattle.theory.specs.Presentation.{pairs_below, order_of, Holds}
use Rattle.theory.proofs.Recording.{parents_agree}
use Rattle.build_checks_laws.specs.Stored.{Kept}
use Rattle.build_checks_laws.specs.Sound.{Sound}
use Rattle.factor_relations_laws.proofs.Relators.{relations_exact, relations_first}
use Rattle.build_laws.proofs.Settled.{by_count, settled_kept, settled_sound}
use Rattle.enumeration_run_laws.proofs.Running.{pairs_full}
use Rattle.enumeration_run.specs.Limits.{Limits}
use Rattle.enumeration_loop_laws.specs.Rings.{Looped}
use Rattle.enumeration_quick_laws.proofs.Closing.{holds_looped, looped_agree}

module _ (o : List ℕ) {n N : ℕ} {t F : List ℕ} (few : n ≤ 8) (long : length o ≡ pairs_below n) (S : Sound t n N) (K : Kept F t n N) (H : Holds n N (order_of o) (step_of t n)) where
  same : (e g : ℕ) → e < N → g < n → step_of F n e g ≡ step_of t n e g
  same e g he h = sym (K.step_same e h)

  looped : Looped n N o (step_of F n)
  looped = looped_agree o few long (holds_looped o few long S.table H) same

  parents : Parents n N (step_of F n) (parent_of F n) (last_of F n)
  parents = parents_agree S.parents same (λ e pos he. sym (K.parent_same e)) (λ e pos he. sym (K.last_same e))

pub accepted_looped : {n : ℕ} {o : List ℕ} {room lt lw : ℕ} → Limits n o room lt lw → {N : ℕ} → 1 ≤ N → N ≤ room → (F : List ℕ) → length F ≡ lt → (w : List ℕ)
    → {M : ℕ} {t w' : List ℕ} → finished (Ok N) n F w ≡ built (Ok M) t w' → relations_row t n M o 0 ≡ fine
    → Looped n N o (step_of F n) × Parents n N (step_of F n) (parent_of F n) (last_of F n)
accepted_looped {n} {o} {room} {lt} L {N} some within F whole w {M} {t} {w'} q identity =
    let c = by_count (Ok N) n F w q in
    let same : N ≡ M = counts c.0 in
    let E = c.1 in
    let fits : M * (2 * n + 4) ≤ length F = omega (arith, L.table_room, mul-le-mul within (le_refl (2 * n + 4)), ap (λ (x : ℕ). x * (2 * n + 4)) same) in
    let S = settled_sound F w E fits (omega arith) (omega (arith, L.limit)) in
    let K = settled_kept F w E in
    let long = pairs_full L in
    let H = (relations_exact S L.few o long).0 (relations_first S L.few o long identity) in
    subst (λ (x : ℕ). Looped n x o (step_of F n) × Parents n x (step_of F n) (parent_of F n) (last_of F n)) (sym same)
    (looped o L.few long S K H, parents o L.few long S K H) where
      counts : ◌≡◌ {A = Counted} (Ok N) (Ok M) → N ≡ M
      counts e = cc
