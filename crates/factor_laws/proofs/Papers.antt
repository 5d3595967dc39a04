-- Of an accepted factor every answer on paper is the group's; and a paper tells its answer apart from any other, since no refusal has the number 0.
use Prim.Native.Nat.{ℕ}
use mathlib.Core.Path.{◌≡◌, refl, sym, ap, ◌∙◌}
use mathlib.Core.Bool.{false}
use mathlib.Core.List.{List}
use Rattle.egg.specs.declared.Refusal.{Refusal}
use Rattle.egg.specs.declared.Factor.{Factor}
use Rattle.egg.specs.Answers.{Counted, Reached, Verdict, fine}
use Rattle.std.specs.Prelude.{Ok, Err}
use Rattle.egg.specs.Factor.{Paper, refusal_paper, verdict_paper, reached_paper, counted_paper}
use Rattle.egg.proofs.Refusals.{same_refusal}
use Rattle.egg.proofs.Rooms.{false_true}
use Rattle.factor.specs.Relations.{check_answer}
use Rattle.build_checks_laws.specs.Numbers.{member, RefusalIn}
use Rattle.factor_laws.specs.Accepted.{Accepted}
use Rattle.factor_laws.specs.Refuses.{VerdictIn, ReachedIn, CountedIn}
use Rattle.factor_laws.specs.Papers.{value_paper, PapersOf}
use Rattle.factor_laws.proofs.Answers.{accepted_answers}
use Rattle.factor_laws.proofs.Refuses.{questions_refuse}

-- Two answers with one paper are one answer, where no refusal of theirs has the number 0.
module _ (l : List ℕ) (none : member 0 l ≡ false) where
  no_value : (k : ℕ) (r : Refusal) → RefusalIn l r → value_paper k ≡ refusal_paper r → ⊥
  no_value k r m q = let z : 0 ≡ (refusal_paper r).number = ap (λ (p : Paper). p.number) q in false_true (sym none ∙ rw (← z) at m)

  pub verdict_once : (u v : Verdict) → VerdictIn l u → VerdictIn l v → verdict_paper u ≡ verdict_paper v → u ≡ v
  verdict_once (Ok _) (Ok _) p q e = refl
  verdict_once (Ok _) (Err s) p q e = absurd (no_value 0 s (q.of s refl) e)
  verdict_once (Err r) (Ok _) p q e = absurd (no_value 0 r (p.of r refl) (sym e))
  verdict_once (Err r) (Err s) p q e = ap Err (same_refusal r s e)

  pub reached_once : (x y : Reached) → ReachedIn l x → ReachedIn l y → reached_paper x ≡ reached_paper y → x ≡ y
  reached_once (Ok a) (Ok b) p q e = ap (λ (z : Paper). Ok (record { 0 = z.a })) e
  reached_once (Ok a) (Err s) p q e = absurd (no_value a.0 s (q.of s refl) e)
  reached_once (Err r) (Ok b) p q e = absurd (no_value b.0 r (p.of r refl) (sym e))
  reached_once (Err r) (Err s) p q e = ap Err (same_refusal r s e)

  pub counted_once : (x y : Counted) → CountedIn l x → CountedIn l y → counted_paper x ≡ counted_paper y → x ≡ y
  counted_once (Ok a) (Ok b) p q e = ap (λ (z : Paper). Ok z.a) e
  counted_once (Ok a) (Err s) p q e = absurd (no_value a s (q.of s refl) e)
  counted_once (Err r) (Ok b) p q e = absurd (no_value b r (p.of r refl) (sym e))
  counted_once (Err r) (Err s) p q e = ap Err (same_refusal r s e)

  -- So a verdict whose paper is 0 is the acceptance.
  pub paper_fine : (v : Verdict) → VerdictIn l v → verdict_paper v ≡ value_paper 0 → v ≡ fine
  paper_fine (Ok _) p e = refl
  paper_fine (Err r) p e = absurd (no_value 0 r (p.of r refl) (sym e))

pub accepted_papers : {t : List ℕ} {f : Factor} → Accepted t f → (op : ℕ → ℕ → ℕ) × (inv : ℕ → ℕ) × PapersOf t f op inv
accepted_papers {t} {f} A =
    let (op, inv, R) = accepted_answers A in (
      op,
      inv,
      record {
        group = R.group;
        right_steps = R.right_steps;
        counts = ap counted_paper R.counts;
        generators = λ hg. ap reached_paper (R.generators hg);
        steps = λ he hg. ap reached_paper (R.steps he hg);
        composes = λ ha hb. ap reached_paper (R.composes ha hb);
        inverts = λ ha. ap reached_paper (R.inverts ha);
        conjugates = λ ha hb. ap reached_paper (R.conjugates ha hb);
        lengths = λ he. ap counted_paper (R.lengths he);
        writes = λ size he h. ap counted_paper (R.writes size he h);
        checks = λ o right. (
          λ q. (R.checks o right).0 (paper_fine _ refl (check_answer t f o) ((questions_refuse t f).checks o) q),
          λ h. ap verdict_paper ((R.checks o right).1 h),
        );
      },
    )
