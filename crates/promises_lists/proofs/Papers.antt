-- The answer of a question over lists on paper, by its outcome.
-- Assumes nothing.
use Prim.Native.Nat.{ℕ}
use mathlib.Core.Path.{◌≡◌, refl, sym, ap, ◌∙◌}
use mathlib.Core.Bool.{Bool, true, false}
use mathlib.Core.List.{List, ◌∷◌}
use native.Mathlib.Omega.{arith}
use lib.Dec.{eqb}
use lib.ListN.{length, get_or}
use Rattle.egg.specs.declared.Refusal.{Refusal}
use Rattle.egg.specs.Answers.{Reached}
use Rattle.egg.specs.Refusals.{refusal_paper}
use Rattle.std.specs.Prelude.{Err}
use Rattle.egg.proofs.Refusals.{same_refusal}
use Rattle.egg.specs.Table.{pick}
use Rattle.build_checks_laws.specs.Numbers.{member}
use Rattle.factor_laws.specs.Refuses.{ReachedIn}
use Rattle.lists.specs.Lists.{lengths_right, ListPaper, Answered, over_lists}
use Rattle.lists_laws.specs.Outcomes.{Right, Outcome, unlike, stops, fills}
use Rattle.lists_laws.proofs.Outcomes.{given, lists_exactly}
use Rattle.promises_lists.specs.Places.{paper_of, OnPaper}

-- A single call that is refused is not right.
refused_apart : {x : Reached} {r : Refusal} → x ≡ Err r → Right x → ⊥
refused_apart q h = let e = h.reached in let z : ◌≡◌ {A = ℕ} 0 1 = cc in omega arith

-- A number that is in the list is none that is not.
apart : (l : List ℕ) (k : ℕ) {n : ℕ} → member n l ≡ true → member k l ≡ false → n ≡ k → ⊥
apart l k m none e = let same = ap (λ (x : ℕ). member x l) e in let z : ◌≡◌ {A = ℕ} 0 1 = cc in omega arith

longer : (l : List ℕ) (n : ℕ) → member n l ≡ true → member n (0 ∷ 4 ∷ l) ≡ true
longer l n m = by (eqb n 0) (eqb n 4) where
  by : (x y : Bool) → pick x true (pick y true (member n l)) ≡ true
  by true y = refl
  by false true = refl
  by false false = m

module _ (l : List ℕ) (no-4 : member 4 l ≡ false) (no-0 : member 0 l ≡ false) (first second : ℕ) (single : ℕ → Reached) (out : List ℕ)
    (numbers : (place : ℕ) → ReachedIn l (single place)) where
  by_outcome : {h : Answered} → Outcome first second single out h → over_lists (lengths_right first second (length out)) first single out ≡ h
      → OnPaper l first second single out h
  by_outcome (unlike wrong) e = record {
    among = refl;
    unlike = (λ q. wrong, λ w. refl);
    right = (λ q. absurd (omega arith), λ p. absurd (wrong p.0));
    refused = λ place why m. (
      (λ q. absurd (apart l 4 m no-4 (ap (λ (p : ListPaper). p.refusal.number) (sym q)))),
      (λ p. absurd (wrong p.0)),
    );
  }
  by_outcome (stops place why alike f) e =
      let m = (numbers place).of why f.refused in
      record {
        among = longer l (refusal_paper why).number m;
        unlike = (λ q. absurd (apart l 4 m no-4 q), λ w. absurd (w alike));
        right = (λ q. absurd (apart l 0 m no-0 q), λ p. absurd (refused_apart f.refused (p.1 place f.within)));
        refused = λ place' why' m'. (
          (λ q. let here : place ≡ place' = ap (λ (p : ListPaper). p.place) q in let same : why ≡ why' = same_refusal why why' (ap (λ (p : ListPaper). p.refusal) q) in rw (← here, ← same) (alike, f)),
          (λ p. ap paper_of (sym e ∙ given first second single out (stops place' why' p.0 p.1))),
        );
      }
  by_outcome (fills results alike r) e = record {
    among = refl;
    unlike = (λ q. absurd (omega arith), λ w. absurd (w alike));
    right = (λ q. (alike, λ place u. record { element = record { 0 = get_or results place 0 }; reached = r.right.each place u }), λ p. refl);
    refused = λ place why m. (
      (λ q. absurd (apart l 0 m no-0 (ap (λ (p : ListPaper). p.refusal.number) (sym q)))),
      (λ p. ap paper_of (sym e ∙ given first second single out (stops place why p.0 p.1))),
    );
  }

  pub paper_exactly : OnPaper l first second single out (over_lists (lengths_right first second (length out)) first single out)
  paper_exactly = by_outcome ((lists_exactly first second single out _).0 refl) refl
