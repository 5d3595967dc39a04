-- Laws of the refusals of a walk, one for each answer, and what is known where it goes on.
use Prim.Native.Nat.{ℕ, ◌≤◌, ◌<◌}
use mathlib.Core.Path.{◌≡◌, refl, sym, ap, ◌∙◌}
use mathlib.Core.Bool.{Bool, true, false}
use mathlib.Core.List.{List}
use borrow.Author.Tests.{le-leb, lt-leb, leb-true, leb-false}
use lib.Dec.{leb}
use Rattle.egg.specs.declared.Refusal.{Refusal}
use Rattle.egg.specs.Answers.{Verdict, fine}
use Rattle.std.specs.Prelude.{Ok, Err}
use Rattle.egg.specs.Scan.{refused_of}
use Rattle.egg.proofs.Scans.{refused_fine}
use Rattle.factor_walk.specs.Walked.{letters_right}
use Rattle.group_handles.specs.declared.Group.{Group}
use Rattle.group_handles.specs.declared.inner.Seen.{Seen}
use Rattle.group_handles.specs.Handles.{handles, elements_of, generators_of, all_fit, limited, seen}
use Rattle.group_handles.proofs.Admitted.{looked, elements_seen}
use Rattle.group_walk.specs.Walked.{admits_walk, Walkable}

module _ (len : ℕ) (g : Group) (e : ℕ) (w : List ℕ) where
  pub walk_handle : all_fit len (handles g) ≡ false → refused_of 17 0 0 0 ≡ admits_walk len g e w
  unfolding admits_walk
  walk_handle h = rw h

  module _ (fits : all_fit len (handles g) ≡ true) where
    pub walk_start : elements_of (handles g) ≤ e → refused_of 14 0 0 0 ≡ admits_walk len g e w
    unfolding admits_walk
    walk_start h = rw fits (simp (le-leb _ _ h))

    module _ (h : e < elements_of (handles g)) {v : Verdict} (q : v ≡ letters_right (generators_of (handles g)) w) where
      pub walk_letter : {r : Refusal} → v ≡ Err r → Err r ≡ admits_walk len g e w
      unfolding admits_walk
      walk_letter k = rw fits (simp (lt-leb _ _ h) (rw (← q, k)))

      module _ (k : v ≡ fine) where
        pub walk_large : limited g ≡ false → refused_of 15 0 0 0 ≡ admits_walk len g e w
        unfolding admits_walk
        walk_large z = rw fits (simp (lt-leb _ _ h) (rw (← q, k, z)))

        pub walk_fine : limited g ≡ true → fine ≡ admits_walk len g e w
        unfolding admits_walk
        walk_fine z = rw fits (simp (lt-leb _ _ h) (rw (← q, k, z)))

  goes : admits_walk len g e w ≡ fine → Walkable len g e w
  goes q =
      by (all_fit len (handles g)) (leb (elements_of (handles g)) e) (letters_right (generators_of (handles g)) w) (limited g) refl refl refl refl
    where
      by : (x y : Bool) (v : Verdict) (z : Bool) → all_fit len (handles g) ≡ x → leb (elements_of (handles g)) e ≡ y
          → letters_right (generators_of (handles g)) w ≡ v → limited g ≡ z → Walkable len g e w
      by false y v z a b c d = absurd (refused_fine (walk_handle a ∙ q))
      by true true v z a b c d = absurd (refused_fine (walk_start a (leb-true _ _ b) ∙ q))
      by true false (Err r) z a b c d = absurd (refused_fine (walk_letter a (leb-false _ _ b) (sym c) refl ∙ q))
      by true false (Ok _) false a b c d = absurd (refused_fine (walk_large a (leb-false _ _ b) (sym c) refl d ∙ q))
      by true false (Ok _) true a b c d = record { fits = a; start = leb-false _ _ b; letters = c; within = d }

  pub going : {v : Verdict} → v ≡ admits_walk len g e w → v ≡ fine → Walkable len g e w
  going q k = goes (sym q ∙ k)

-- What one pass over the handles shows of the start and the letters.
module _ (len : ℕ) (g : Group) {s : Seen} (q : s ≡ seen len (handles g)) where
  pub seen_start : {e : ℕ} → e < 4294967296 → s.fit ≡ true → leb s.elements e ≡ leb (elements_of (handles g)) e
  seen_start h f = elements_seen g (looked len (handles g) q) h f

  module _ {e : ℕ} (h : e < 4294967296) (f : s.fit ≡ true) where
    pub start_beyond : s.elements ≤ e → elements_of (handles g) ≤ e
    start_beyond k = leb-true _ _ (sym (seen_start h f) ∙ le-leb _ _ k)

    pub start_within : e < s.elements → e < elements_of (handles g)
    start_within k = leb-false _ _ (sym (seen_start h f) ∙ lt-leb _ _ k)

  pub seen_letters : (w : List ℕ) {v : Verdict} → v ≡ letters_right s.generators w → v ≡ letters_right (generators_of (handles g)) w
  seen_letters w p = p ∙ ap (λ (x : Seen). letters_right x.generators w) q
