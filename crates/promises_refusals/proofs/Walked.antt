-- A walk is answered by the steps exactly when its handle fits and its start and letters are in range; and 17, 14 and 15 come before, each exactly when. The tests
-- are one scan over the list of all arguments, of which the code looks at the first by itself.
use Prim.Native.Nat.{ℕ, zero, suc, ◌+◌, ◌<◌}
use mathlib.Core.Path.{◌≡◌, refl, sym, ◌∙◌, subst}
use mathlib.Core.Logic.{◌↔◌, inl, inr}
use mathlib.Core.Bool.{Bool, true, false}
use mathlib.Core.List.{List, [], ◌∷◌, map}
use native.Mathlib.Omega.{arith}
use borrow.Author.Tests.{lt-leb, leb-true, leb-false}
use lib.Dec.{leb}
use lib.ListN.{length, get_or, length-map}
use Rattle.egg.specs.declared.Factor.{Factor}
use Rattle.egg.specs.declared.GroupElementId.{GroupElementId}
use Rattle.egg.specs.Answers.{Reached, Verdict, fine, numbered, if_reach}
use Rattle.std.specs.Prelude.{Ok, Err}
use Rattle.egg.specs.Table.{pick}
use Rattle.egg.specs.Scan.{refused_of, and_then, scan}
use Rattle.egg.specs.Factor.{Paper, refusal_paper, reached_paper, fits_in, stretch}
use Rattle.egg.proofs.Rooms.{some}
use Rattle.egg.proofs.Scans.{scan_fine}
use Rattle.factor_questions.specs.Walks.{follow}
use Rattle.factor_walk.specs.Walked.{shown, letter_right, letters_right, walk_in}
use Rattle.factor.specs.Questions.{admits, walk_answer}
use Rattle.promises_refusals.specs.Asked.{Argument, below, Outside}
use Rattle.promises_refusals.specs.Walked.{walk_arguments, WalkAsked, no_handle, out_of_range, too_large, in_range}
use Rattle.promises_refusals.proofs.Firsts.{Decides, decides_fine, first_found, first_refused_lem, first_fine}

abbrev argument_at : List Argument → ℕ → Verdict
argument_at l i = pick (leb (get_or l i (below 0 1)).limit (get_or l i (below 0 1)).value) (refused_of 14 (shown i) 0 0) fine

abbrev pub walk_tests : Bool → List Argument → Bool → Verdict
walk_tests fits l within = pick fits (and_then (scan (length l) (argument_at l) 0) (pick within fine (refused_of 15 0 0 0))) (refused_of 17 0 0 0)

abbrev pub afterwards : Verdict → Paper → Paper
afterwards (Ok _) p = p
afterwards (Err r) p = refusal_paper r

argument_decided : (l : List Argument) (i : ℕ) → i < length l → Decides (Outside l i) (numbered 14 (shown i) 0 0) (argument_at l i)
argument_decided l i h = by (leb (get_or l i (below 0 1)).limit (get_or l i (below 0 1)).value) refl where
  by : (b : Bool) → leb (get_or l i (below 0 1)).limit (get_or l i (below 0 1)).value ≡ b
      → Decides (Outside l i) (numbered 14 (shown i) 0 0) (pick b (refused_of 14 (shown i) 0 0) fine)
  by true q = inl (leb-true _ _ q, refl)
  by false q = let m = leb-false (get_or l i (below 0 1)).limit (get_or l i (below 0 1)).value q in inr (λ o. omega arith, refl)

module _ (l : List Argument) (inside : Paper) where
  some_asked : (fits within : Bool) → WalkAsked fits l within inside (afterwards (walk_tests fits l within) inside)
  some_asked false within = no_handle refl
  some_asked true within = by (scan (length l) (argument_at l) 0) within refl where
    by : (v : Verdict) (b : Bool) → scan (length l) (argument_at l) 0 ≡ v → WalkAsked true l b inside (afterwards (and_then v (pick b fine (refused_of 15 0 0 0))) inside)
    by (Ok _) true q = in_range refl (λ i h. decides_fine (argument_decided l i h) ((scan_fine (length l) (argument_at l)).0 q i h)) refl
    by (Ok _) false q = too_large refl (λ i h. decides_fine (argument_decided l i h) ((scan_fine (length l) (argument_at l)).0 q i h)) refl
    by (Err r) b q = let p = first_found (argument_decided l) q in rw p.2 (out_of_range refl p.1)

  given_asked : (fits within : Bool) {p : Paper} → WalkAsked fits l within inside p → afterwards (walk_tests fits l within) inside ≡ p
  given_asked fits within (no_handle q) = rw q
  given_asked fits within (out_of_range q F) = rw (q, first_refused_lem (argument_decided l) F)
  given_asked fits within (too_large q all z) = rw (q, first_fine (argument_decided l) all, z)
  given_asked fits within (in_range q all z) = rw (q, first_fine (argument_decided l) all, z)

  pub walk_asked : {fits within : Bool} {answer : Paper} → answer ≡ afterwards (walk_tests fits l within) inside → (p : Paper) → answer ≡ p ↔ WalkAsked fits l within inside p
  walk_asked {fits} {within} q p = (
    λ h. subst (WalkAsked fits l within inside) (sym q ∙ h) (some_asked fits within),
    λ a. q ∙ given_asked fits within a,
  )

-- The letters, from the second place of the list on.
shifted : (k : ℕ) (f g : ℕ → Verdict) (i j : ℕ) → ((m : ℕ) → m < k → f (i + m) ≡ g (j + m)) → scan k f i ≡ scan k g j
unfolding scan
shifted zero f g i j q = refl
shifted (suc k) f g i j q =
    let a : i + 0 ≡ i = omega arith in
    let b : j + 0 ≡ j = omega arith in
    let here : f i ≡ g j = rw (a, b) at (q zero (omega arith)) in
    let rest : scan k f (i + 1) ≡ scan k g (j + 1) =
    shifted k f g (i + 1) (j + 1) (λ m l. let c : i + 1 + m ≡ i + suc m = omega arith in let d : j + 1 + m ≡ j + suc m = omega arith in rw (c, d) (q (suc m) (omega arith))) in
    rw (here, rest)

mapped : (n : ℕ) (w : List ℕ) (i : ℕ) → i < length w → get_or (map (λ g. below g n) w) i (below 0 1) ≡ below (get_or w i 0) n
mapped n [] i l = absurd (omega arith)
mapped n (x ∷ w) zero l = refl
mapped n (x ∷ w) (suc i) l = mapped n w i (omega arith)

module _ (N n e : ℕ) (w : List ℕ) where
  letters_shifted : letters_right n w ≡ scan (length (map (λ (g : ℕ). below g n) w)) (argument_at (walk_arguments N n e w)) 1
  unfolding letters_right
  letters_shifted =
      rw (length-map w (λ (g : ℕ). below g n))
      (shifted (length w) (letter_right n w) (argument_at (walk_arguments N n e w)) 0 1
      (λ m l. let c : 0 + m ≡ m = omega arith in let d : 1 + m ≡ suc m = omega arith in let z : m + 1 ≡ suc m = omega arith in rw (c, d, mapped n w m l, z)))

  pub walk_scanned : and_then (pick (leb N e) (refused_of 14 0 0 0) fine) (letters_right n w) ≡ scan (length (walk_arguments N n e w)) (argument_at (walk_arguments N n e w)) 0
  unfolding scan
  walk_scanned = rw letters_shifted

-- In a factor.
module _ (t : List ℕ) (f : Factor) (e : GroupElementId) (w : List ℕ) where
  walked : reached_paper (walk_answer t f e w)
      ≡ afterwards (walk_tests (fits_in (length t) f) (walk_arguments f.elements f.generators e.0 w) true)
      (reached_paper (follow (stretch t f) f.generators f.elements e.0 w))
  unfolding walk_answer admits walk_in
  walked =
      rw (← walk_scanned f.elements f.generators e.0 w)
      (by (fits_in (length t) f) refl (leb f.elements e.0) (letters_right f.generators w) (follow (stretch t f) f.generators f.elements e.0 w))
    where
      by : (x : Bool) → fits_in (length t) f ≡ x → (y : Bool) (v : Verdict) (r : Reached)
          → reached_paper (if_reach (pick x (pick y (refused_of 14 0 0 0) (pick (leb f.elements 0) (refused_of 14 1 0 0) fine)) (refused_of 17 0 0 0)) (if_reach v r))
          ≡ afterwards (pick x (and_then (and_then (pick y (refused_of 14 0 0 0) fine) v) fine) (refused_of 17 0 0 0)) (reached_paper r)
      by false q y v r = refl
      by true q true v r = refl
      by true q false (Ok _) r = rw (lt-leb f.elements 0 (some (length t) f q))
      by true q false (Err s) r = rw (lt-leb f.elements 0 (some (length t) f q))

  pub factor_walk_asked : (p : Paper)
      → reached_paper (walk_answer t f e w) ≡ p
      ↔ WalkAsked (fits_in (length t) f) (walk_arguments f.elements f.generators e.0 w) true
      (reached_paper (follow (stretch t f) f.generators f.elements e.0 w)) p
  factor_walk_asked = walk_asked (walk_arguments f.elements f.generators e.0 w) _ walked
