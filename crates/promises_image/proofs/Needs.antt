-- What an image's head alone tells: where `need` refuses, the check refuses so whatever work is lent that is not short; where it answers, the head is right and
-- the answer is what the check needs. So a host may ask before it makes any work.
use Prim.Native.Nat.{ℕ, zero, suc, ◌≤◌, ◌<◌}
use mathlib.Core.Path.{◌≡◌, refl, sym, ap, ◌∙◌}
use mathlib.Core.Bool.{Bool, true, false, ◌&&◌}
use mathlib.Core.List.{List}
use native.Mathlib.Omega.{arith}
use borrow.Author.Tests.{eqb-true, eqb-false, ltb-true, lt-ltb}
use lib.Dec.{ltb, eqb}
use lib.ListN.{drop, replicate}
use Rattle.egg.specs.declared.Refusal.{Refusal}
use Rattle.egg.specs.Answers.{Counted, Verdict, fine}
use Rattle.std.specs.Prelude.{Ok, Err}
use Rattle.egg.specs.Scan.{refused_of}
use Rattle.egg.proofs.Rooms.{and_first, and_second}
use Rattle.build_lending.specs.Lending.{table_need, work_need}
use Rattle.build_reading.specs.Reading.{placed, read_row, read_from, read_all, composed_at}
use Rattle.image_cells.specs.Cells.{halves}
use Rattle.image_check.specs.Short.{ruled}
use Rattle.image.specs.Image.{head_generators, head_elements, head_number, bytes_need}
use Rattle.image.specs.Checked.{image_verdict, image_need}
use Rattle.image.proofs.Needs.{need_bad, need_out_of_reach, need_count}
use Rattle.promises_image.specs.Images.{WellFormed}
use Rattle.promises_image.proofs.Heads.{formed}
use Rattle.promises_image.proofs.Back.{bad_verdict, lent_verdict}

-- Without a generator the identity alone is reached, whatever is read.
alone_read : (src : ℕ → ℕ → ℕ) (k : ℕ) (t : List ℕ) → read_all src 0 (suc (suc k)) t ≡ placed (Ok 1) t
unfolding read_from read_row
alone_read src k t = refl

alone_ruled : (size : ℕ) (w rows : List ℕ) (N : ℕ) → 1 < N → ruled size w rows 0 N ≡ refused_of 16 0 0 0
unfolding ruled
alone_ruled size w rows zero h = absurd (omega arith)
alone_ruled size w rows (suc zero) h = absurd (omega arith)
alone_ruled size w rows (suc (suc k)) h = rw (alone_read (composed_at rows 0) k (replicate size 0)) (simp (lt-ltb _ _ h))

-- A refused count as a verdict.
abbrev refusal : Counted → Verdict
refusal (Ok k) = fine
refusal (Err r) = Err r

abbrev count_or_lem : Counted → ℕ
count_or_lem (Ok k) = k
count_or_lem (Err r) = 0

abbrev tag : Counted → ℕ
tag (Ok k) = 0
tag (Err r) = 1

never : {k : ℕ} {r : Refusal} → ◌≡◌ {A = Counted} (Ok k) (Err r) → ⊥
never e = let z : ◌≡◌ {A = ℕ} 0 1 = ap tag e in omega arith

module _ (l : List ℕ) where
  abbrev lone : Bool
  lone = eqb (head_generators l) 0 && ltb 1 (head_elements l)

  alone_verdict : (size : ℕ) → head_number l ≡ 0 → bytes_need (head_generators l) (head_elements l) ≤ size → (eqb (head_generators l) 0 && ltb 1 (head_elements l)) ≡ true
      → image_verdict l size ≡ refused_of 16 0 0 0
  alone_verdict size h long a =
      let none : head_generators l ≡ 0 = eqb-true (head_generators l) 0 (and_first (eqb (head_generators l) 0) _ a) in
      let more : 1 < head_elements l = ltb-true 1 (head_elements l) (and_second (eqb (head_generators l) 0) _ a) in
      lent_verdict l size h long
      ∙ ap (λ (k : ℕ). ruled (table_need (head_generators l) (head_elements l)) (replicate (work_need (head_generators l) (head_elements l)) 0) (halves (drop 8 l)) k (head_elements l)) none
      ∙ alone_ruled (table_need (head_generators l) (head_elements l)) (replicate (work_need (head_generators l) (head_elements l)) 0) (halves (drop 8 l)) (head_elements l) more

  pub need_refused : {r : Refusal} → image_need l ≡ Err r → (size : ℕ)
      → (head_number l ≡ 0 → bytes_need (head_generators l) (head_elements l) ≤ size) → image_verdict l size ≡ Err r
  need_refused {r} q size long = by (eqb (head_number l) 0) refl where
    right : head_number l ≡ 0 → (b : Bool) → lone ≡ b → image_verdict l size ≡ Err r
    right h true a = alone_verdict size h (long h) a ∙ ap refusal (need_out_of_reach l refl h refl refl a refl ∙ q)
    right h false a = absurd (never (need_count l refl h refl refl a refl ∙ q))

    by : (b : Bool) → eqb (head_number l) 0 ≡ b → image_verdict l size ≡ Err r
    by false e = let d = eqb-false (head_number l) 0 e in bad_verdict l size d ∙ ap refusal (need_bad l refl d refl ∙ q)
    by true e = right (eqb-true (head_number l) 0 e) lone refl

  pub need_counted : {k : ℕ} → image_need l ≡ Ok k → WellFormed l × (k ≡ bytes_need (head_generators l) (head_elements l))
  need_counted {k} q = by (eqb (head_number l) 0) refl where
    right : head_number l ≡ 0 → (b : Bool) → lone ≡ b → WellFormed l × (k ≡ bytes_need (head_generators l) (head_elements l))
    right h true a = absurd (never (sym q ∙ sym (need_out_of_reach l refl h refl refl a refl)))
    right h false a = (formed l h, sym (ap count_or_lem (need_count l refl h refl refl a refl ∙ q)))

    by : (b : Bool) → eqb (head_number l) 0 ≡ b → WellFormed l × (k ≡ bytes_need (head_generators l) (head_elements l))
    by false e = absurd (never (sym q ∙ sym (need_bad l refl (eqb-false (head_number l) 0 e) refl)))
    by true e = right (eqb-true (head_number l) 0 e) lone refl
