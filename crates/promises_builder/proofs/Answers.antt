-- `build` answers a number with its places exactly in the case that is set out for it.
use Prim.Native.Nat.{ℕ, ◌<◌}
use mathlib.Core.Path.{◌≡◌, refl, sym, ap, ◌∙◌, subst}
use mathlib.Core.Logic.{◌↔◌, inl, inr, ⊎_elim}
use mathlib.Core.Bool.{Bool, true, false}
use mathlib.Core.List.{List}
use borrow.Author.Tests.{leb-true, leb-false, lt-leb}
use lib.Dec.{leb}
use lib.ListN.{length}
use Rattle.egg.specs.declared.Refusal.{Refusal}
use Rattle.egg.specs.Answers.{Made, answer_of}
use Rattle.std.specs.Prelude.{Ok, Err}
use Rattle.egg.specs.Factor.{Paper, refusal_paper, verdict_paper, fits_in}
use Rattle.egg.specs.Answers.{numbered}
use Rattle.builder.specs.declared.Builder.{Builder}
use Rattle.build_lending.specs.Lending.{work_need, refused_made, Making, making}
use Rattle.builder.specs.Calls.{builds}
use Rattle.promises.specs.Papers.{made_paper}
use Rattle.promises_builder.specs.Own.{own_refusal}
use Rattle.promises_builder.specs.Builds.{BuildRight, RefusedBy}
use Rattle.promises_builder.specs.Answers.{BuildPaper, no_handle, short, stops, nowhere, lacks, late, taken}
use Rattle.promises_builder.proofs.Ways.{ways}
use Rattle.promises_builder.proofs.Builds.{build_exactly}
use Rattle.promises_builder.proofs.Refused.{build_stops, build_8}
use Rattle.promises_builder.proofs.Faults.{build_faults}

module _ (t : List ℕ) (b : Builder) (w : List ℕ) where
  started : BuildRight t b w → (m : Making) → builds t b w ≡ m → BuildPaper t b w (made_paper m)
  started R (making m t' w') q = by m refl where
    with : (x : Made) → m ≡ x → builds t b w ≡ making x t' w'
    with x h = q ∙ ap (λ (y : Made). making y t' w') h

    refused : {r : Refusal} → RefusedBy t b w r → BuildPaper t b w (refusal_paper r)
    refused {r} a = ⊎_elim
        (λ x. subst (λ (y : Refusal). BuildPaper t b w (refusal_paper y)) (sym x.2) (stops R x.1))
        (⊎_elim (λ x. subst (λ (y : Refusal). BuildPaper t b w (refusal_paper y)) (sym x.2) (nowhere R x.0 x.1))
        (⊎_elim (λ x. lacks x.0 R x.1 x.2)
        (λ x. late R x.0 x.2 ((build_faults t b w R.fits R.enough x.0 x.2 r).0 a) x.1)))
        (ways t b w R.fits R.enough a)

    by : (x : Made) → m ≡ x → BuildPaper t b w (verdict_paper (answer_of m))
    by (Ok f) h = let p = (build_exactly t b w R.fits R.enough).0 (f, t', w', with (Ok f) h) in rw h (taken R p.0 p.1)
    by (Err r) h = rw h (refused (t', w', with (Err r) h))

  is_unfit : fits_in (length t) b.0 ≡ false → builds t b w ≡ making (refused_made 17 0) t w
  unfolding builds
  is_unfit p = rw p

  is_short : fits_in (length t) b.0 ≡ true → length w < work_need b.0.generators b.0.room → builds t b w ≡ making (refused_made 4 0) t w
  unfolding builds
  is_short p l = rw (p, lt-leb _ _ l)

  some_answer : BuildPaper t b w (made_paper (builds t b w))
  some_answer = by (fits_in (length t) b.0) refl (leb (work_need b.0.generators b.0.room) (length w)) refl where
    by : (c : Bool) → fits_in (length t) b.0 ≡ c → (d : Bool) → leb (work_need b.0.generators b.0.room) (length w) ≡ d
        → BuildPaper t b w (made_paper (builds t b w))
    by true p true q = started (record { fits = p; enough = leb-true _ _ q }) (builds t b w) refl
    by true p false q = rw (is_short p (leb-false _ _ q)) (short p (leb-false _ _ q))
    by false p d q = rw (is_unfit p) (no_handle p)

  -- The other way: what is refused by r has r for its paper.
  paper_of_lem : {r : Refusal} → RefusedBy t b w r → made_paper (builds t b w) ≡ refusal_paper r
  paper_of_lem a = ap made_paper a.2

  given : {p : Paper} → BuildPaper t b w p → made_paper (builds t b w) ≡ p
  given (no_handle h) = ap made_paper (is_unfit h)
  given (short h l) = ap made_paper (is_short h l)
  given (stops {r} R F) = paper_of_lem ((build_stops t b w R.fits R.enough (own_refusal b.0.elements r)).1 (inl (r, F, refl))).0
  given (nowhere R z l) = paper_of_lem ((build_stops t b w R.fits R.enough (numbered 17 0 0 0)).1 (inr (z, l, refl))).0
  given (lacks {r} c R G L) = paper_of_lem ((build_8 t b w R.fits R.enough r).1 (c, G, L)).0
  given (late {r} R F K G m) = paper_of_lem ((build_faults t b w R.fits R.enough F K r).1 G)
  given (taken R F T) = ap made_paper ((build_exactly t b w R.fits R.enough).1 (F, T)).3

  pub build_answers : (p : Paper) → made_paper (builds t b w) ≡ p ↔ BuildPaper t b w p
  build_answers p = (λ q. subst (λ (x : Paper). BuildPaper t b w x) q some_answer, given)
