-- What a list holds after the stores of a product's verdict, and what `product` leaves.
use Prim.Native.Nat.{ℕ}
use mathlib.Core.Path.{◌≡◌, ap, ◌∙◌}
use mathlib.Core.List.{List, []}
use Rattle.egg.specs.Answers.{answer_of}
use Rattle.egg.specs.Table.{put_at}
use Rattle.egg.specs.Factor.{verdict_paper}
use Rattle.capi_values.specs.Bridge.{paper_into, telling}
use Rattle.capi_values.proofs.Laws.{told}
use Rattle.group_handles.specs.Answers.{Grouped}
use Rattle.capi_group_build.specs.Product.{factors_of, grouped_into, grouped}

pub grouped_written : (g : Grouped) (l : List ℕ) {l₁ l₂ : List ℕ} → l₁ ≡ paper_into (answer_of g) l → l₂ ≡ put_at l₁ 4 (factors_of g) → l₂ ≡ grouped_into g l
unfolding grouped_into
grouped_written g l p q = q ∙ rw p

pub grouped_told : {g x : Grouped} (out : List ℕ) {r : ℕ} {l : List ℕ} → g ≡ x → (r ≡ (verdict_paper (answer_of g)).number) × (l ≡ grouped_into g out)
    → telling r l [] ≡ grouped x out
grouped_told out e p = told p ∙ ap (λ (y : Grouped). grouped y out) e
