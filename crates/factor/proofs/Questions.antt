-- Laws of the answers about a word: that a count fits its buffer, and the part that is handed back.
use Prim.Native.Nat.{ℕ, ◌≤◌}
use mathlib.Core.Path.{◌≡◌, refl, sym, ◌∙◌}
use mathlib.Core.List.{List}
use lib.ListN.{length, take}
use Rattle.egg.specs.declared.Refusal.{Refusal}
use Rattle.egg.specs.declared.Factor.{Factor}
use Rattle.egg.specs.declared.GroupElementId.{GroupElementId}
use Rattle.egg.specs.Answers.{Counted, Verdict}
use Rattle.std.specs.Prelude.{Ok, Err}
use Rattle.egg.specs.Factor.{stretch}
use Rattle.factor_words.proofs.Words.{never_both, write_fits}
use Rattle.factor.specs.Questions.{admits, write_answer, filled_by}
use Rattle.egg.specs.Answers.{if_count}

pub counted_by : (v : Verdict) {x : Counted} {k : ℕ} → if_count v x ≡ Ok k → x ≡ Ok k
counted_by (Ok _) h = h
counted_by (Err r) h = absurd (never_both refl h)

pub answer_fits : (t : List ℕ) (f : Factor) (e : GroupElementId) (size : ℕ) {v : Counted} {k : ℕ} → v ≡ write_answer t f e size → v ≡ Ok k → k ≤ size
unfolding write_answer
answer_fits t f e size q h = write_fits (stretch t f) f.generators f.elements e.0 size (counted_by (admits (length t) f e.0 0) (sym q ∙ h))

-- The part that is handed back, by the answer.
module _ {v w : Counted} (q : v ≡ w) {o l : List ℕ} (p : o ≡ l) where
  pub filled_count : {k : ℕ} → v ≡ Ok k → take k o ≡ filled_by w l
  filled_count e = rw (← q, e, p)

  pub filled_none : {r : Refusal} → v ≡ Err r → take 0 o ≡ filled_by w l
  filled_none e = rw (← q, e)
