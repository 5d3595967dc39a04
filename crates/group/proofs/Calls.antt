-- Laws of the call that joins digits, one for each answer; of a word that the call wrote, which had room; and of a call with no argument.
use Prim.Native.Nat.{ℕ, ◌≤◌}
use mathlib.Core.Path.{◌≡◌, refl, sym, ◌∙◌}
use mathlib.Core.Bool.{true, false}
use mathlib.Core.List.{List}
use lib.ListN.{length}
use Rattle.egg.specs.declared.Refusal.{Refusal}
use Rattle.egg.specs.declared.GroupElementId.{GroupElementId}
use Rattle.egg.specs.Answers.{Counted, Reached, Verdict, fine}
use Rattle.std.specs.Prelude.{Ok, Err}
use Rattle.egg.specs.Factor.{refused_reach}
use Rattle.group_handles.specs.declared.Group.{Group}
use Rattle.group_handles.specs.Handles.{handles, sizes, elements_of, all_fit, seen, admits, admits_seen}
use Rattle.group_handles.specs.declared.inner.Seen.{Seen}
use Rattle.group_handles.specs.declared.inner.Limit.TheVariants.{Number}
use Rattle.group_handles.proofs.Admitted.{looked, admits_seen_lem}
use Rattle.group_digits.specs.Splits.{digits_right, join_tail}
use Rattle.group_words.specs.Words.{lengths, readables, writes}
use Rattle.factor.proofs.Questions.{counted_by}
use Rattle.group_words.proofs.Spelling.{by_fits}
use Rattle.group.specs.Questions.{join_answer, write_answer}

module _ (t : List ℕ) (g : Group) (ds : List ℕ) where
  pub join_handle : all_fit (length t) (handles g) ≡ false → refused_reach 17 0 ≡ join_answer t g ds
  unfolding join_answer
  join_handle h = rw h

  module _ (h : all_fit (length t) (handles g) ≡ true) {v : Verdict} (q : v ≡ digits_right (sizes (handles g)) ds) where
    pub join_bad : {r : Refusal} → v ≡ Err r → Err r ≡ join_answer t g ds
    unfolding join_answer
    join_bad e = rw (h, ← q, e)

    pub join_good : v ≡ fine → {x : Reached} → x ≡ join_tail g ds → x ≡ join_answer t g ds
    unfolding join_answer
    join_good e p = p ∙ rw (h, ← q, e)

pub answer_fits : (t : List ℕ) (g : Group) (e : GroupElementId) (size : ℕ) {v : Counted} {k : ℕ} → v ≡ write_answer t g e size → v ≡ Ok k → k ≤ size
unfolding write_answer writes
answer_fits t g e size q h =
    by_fits (lengths t (handles g) e.0) (readables t (handles g) e.0) size (counted_by (admits (length t) g e.0 (elements_of (handles g)) 0 1) (sym q ∙ h))

-- A call with no argument, by what was seen.
pub none_admitted : (len : ℕ) (g : Group) {s : Seen} → s ≡ seen len (handles g) → {v : Verdict} → v ≡ admits_seen s g.count 0 (Number 1) 0 (Number 1)
    → v ≡ admits len g 0 1 0 1
none_admitted len g q e = admits_seen_lem g (looked len (handles g) q) 0 (Number 1) 1 0 (Number 1) 1 e (λ f. refl) (λ f. refl)
