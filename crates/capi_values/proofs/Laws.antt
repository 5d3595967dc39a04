-- What a list holds after the stores of an answer, and what a function leaves by the length of `out`.
use Prim.Native.Nat.{ℕ, ◌<◌, ◌≤◌}
use mathlib.Core.Path.{◌≡◌, ap, ◌∙◌}
use mathlib.Core.List.{List, [], ◌∷◌}
use borrow.Author.Tests.{lt-ltb, le-ltb}
use lib.ListN.{length}
use Rattle.egg.specs.declared.Refusal.{Refusal}
use Rattle.egg.specs.Answers.{Made, Verdict, fine, answer_of}
use Rattle.egg.specs.Refusals.{refusal_paper}
use Rattle.std.specs.Prelude.{Err}
use Rattle.egg.specs.Table.{put_at}
use Rattle.egg.specs.Factor.{verdict_paper}
use Rattle.build_lending.specs.Lending.{Making, making}
use Rattle.capi_values.specs.Bridge.{paper_into, elements_of, made_into, Telling, telling, in_out, verdict_told, bridged}

-- Four stores, one after the other.
pub stored_four : (l : List ℕ) (a b c d : ℕ) {l₁ l₂ l₃ l₄ : List ℕ} → l₁ ≡ put_at l 0 a → l₂ ≡ put_at l₁ 1 b → l₃ ≡ put_at l₂ 2 c → l₄ ≡ put_at l₃ 3 d
    → l₄ ≡ put_at (put_at (put_at (put_at l 0 a) 1 b) 2 c) 3 d
stored_four l a b c d p q r s = s ∙ rw (r, q, p)

pub paper_refused : (r : Refusal) (l : List ℕ) {l₁ l₂ l₃ l₄ : List ℕ} → l₁ ≡ put_at l 0 (refusal_paper r).number → l₂ ≡ put_at l₁ 1 (refusal_paper r).a → l₃ ≡ put_at l₂ 2 (refusal_paper r).b
    → l₄ ≡ put_at l₃ 3 (refusal_paper r).c → l₄ ≡ paper_into (Err r) l
unfolding paper_into
paper_refused r l p q s t = stored_four l (refusal_paper r).number (refusal_paper r).a (refusal_paper r).b (refusal_paper r).c p q s t

pub paper_fine : {v : Verdict} (l : List ℕ) {l₁ l₂ l₃ l₄ : List ℕ} → v ≡ fine → l₁ ≡ put_at l 0 0 → l₂ ≡ put_at l₁ 1 0 → l₃ ≡ put_at l₂ 2 0
    → l₄ ≡ put_at l₃ 3 0 → l₄ ≡ paper_into v l
unfolding paper_into
paper_fine l e p q s t = rw e (stored_four l 0 0 0 0 p q s t)

pub made_written : (m : Made) (l : List ℕ) {l₁ l₂ : List ℕ} → l₁ ≡ paper_into (answer_of m) l → l₂ ≡ put_at l₁ 4 (elements_of m) → l₂ ≡ made_into m l
unfolding made_into
made_written m l p q = q ∙ rw p

-- The number returned and the list written, and the other lists as the call leaves them.
pub told : {n r : ℕ} {o l : List ℕ} {lent : List (List ℕ)} → (r ≡ n) × (l ≡ o) → telling r l lent ≡ telling n o lent
told (p, q) = rw (p, q)

pub verdict_told_lem : {v w : Verdict} (out : List ℕ) {r : ℕ} {l : List ℕ} → v ≡ w → (r ≡ (verdict_paper v).number) × (l ≡ paper_into v out) → telling r l [] ≡ verdict_told w out
verdict_told_lem out e p = told p ∙ ap (λ (x : Verdict). verdict_told x out) e

pub bridge_told : {m : Made} {t w : List ℕ} {x : Making} (out : List ℕ) {r : ℕ} {l : List ℕ} → making m t w ≡ x
    → (r ≡ (verdict_paper (answer_of m)).number) × (l ≡ made_into m out) → telling r l (t ∷ w ∷ []) ≡ bridged x out
bridge_told out e p = told p ∙ ap (λ (x : Making). bridged x out) e

-- Where `out` is long enough, what the function does is what it leaves; else it returns 4 and leaves every list as it was.
module _ (k : ℕ) (out : List ℕ) (lent : List (List ℕ)) (done : Telling) where
  pub out_long : {x : Telling} → k ≤ length out → x ≡ done → x ≡ in_out k out lent done
  unfolding in_out
  out_long h p = simp (le-ltb _ _ h) p

  pub out_short : length out < k → telling 4 out lent ≡ in_out k out lent done
  unfolding in_out
  out_short h = simp (lt-ltb _ _ h)
