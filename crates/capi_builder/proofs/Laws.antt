-- What a list holds after the stores of a builder's answer, and what a builder's call leaves.
use Prim.Native.Nat.{ℕ}
use mathlib.Core.Path.{◌≡◌, ap, ◌∙◌}
use mathlib.Core.List.{List, [], ◌∷◌}
use Rattle.egg.specs.declared.Refusal.{Refusal}
use Rattle.egg.specs.Answers.{Reached, answer_of}
use Rattle.std.specs.Prelude.{Ok, Err}
use Rattle.egg.specs.Table.{put_at}
use Rattle.egg.specs.Factor.{verdict_paper, reached_paper}
use Rattle.egg.specs.declared.GroupElementId.{GroupElementId}
use Rattle.builder.specs.Answers.{Begun, Storing}
use Rattle.builder.specs.declared.Grown.{Grown}
use Rattle.builder.specs.Calls.{Leaving, leaving}
use Rattle.capi_values.specs.Bridge.{paper_into, telling}
use Rattle.capi_builder.specs.Answers.{reached_into, begun_into, grown_into, stored_code, begun_told, grown_told, stored_told}
use Rattle.capi_values.proofs.Laws.{stored_four, told}

pub reached_refused : (r : Refusal) {x : Reached} (l : List ℕ) {m : List ℕ} → x ≡ Err r → m ≡ paper_into (Err r) l → m ≡ reached_into x l
unfolding paper_into reached_into
reached_refused r l e p = rw e p

pub reached_element : (e : GroupElementId) {x : Reached} (l : List ℕ) {l₁ l₂ l₃ l₄ : List ℕ} → x ≡ Ok e → l₁ ≡ put_at l 0 0 → l₂ ≡ put_at l₁ 1 e.0 → l₃ ≡ put_at l₂ 2 0
    → l₄ ≡ put_at l₃ 3 0 → l₄ ≡ reached_into x l
unfolding reached_into
reached_element e l q p₁ p₂ p₃ p₄ = rw q (stored_four l 0 e.0 0 0 p₁ p₂ p₃ p₄)

pub grown_written : (g : Grown) (l : List ℕ) {l₁ l₂ : List ℕ} → l₁ ≡ reached_into g.answer l → l₂ ≡ put_at l₁ 4 g.builder.0.elements → l₂ ≡ grown_into g l
unfolding grown_into
grown_written g l p q = q ∙ rw p

pub begun_told_lem : {b : Begun} {t : List ℕ} {x : Leaving Begun} (out : List ℕ) {r : ℕ} {l : List ℕ} → leaving b t ≡ x
    → (r ≡ (verdict_paper (answer_of b)).number) × (l ≡ begun_into b out) → telling r l (t ∷ []) ≡ begun_told x out
begun_told_lem out e p = told p ∙ ap (λ (y : Leaving Begun). begun_told y out) e

pub grown_told_lem : {g : Grown} {t : List ℕ} {x : Leaving Grown} (out : List ℕ) {r : ℕ} {l : List ℕ} → leaving g t ≡ x
    → (r ≡ (reached_paper g.answer).number) × (l ≡ grown_into g out) → telling r l (t ∷ []) ≡ grown_told x out
grown_told_lem out e p = told p ∙ ap (λ (y : Leaving Grown). grown_told y out) e

pub stored_leaves : {s : Storing} {t : List ℕ} {x : Leaving Storing} {r : ℕ} → leaving s t ≡ x → r ≡ stored_code s → leaving r t ≡ stored_told x
stored_leaves {s} {t} p q = ap (λ (k : ℕ). leaving k t) q ∙ ap stored_told p
