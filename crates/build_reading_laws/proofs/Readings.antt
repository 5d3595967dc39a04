-- Reading composed numbers into a zeroed table: what is accepted and what it leaves, what is refused and why. Each is exact, since the reading comes to
-- one or the other (Runs) and the two exclude each other (OnePlace).
use Prim.Native.Nat.{ℕ, zero, suc, ◌+◌, ◌*◌, ◌≤◌, ◌<◌}
use mathlib.Core.Path.{◌≡◌, refl, sym, ap, ◌∙◌, subst}
use mathlib.Core.Logic.{◌↔◌, ◌⊎◌, inl, inr}
use mathlib.Core.List.{List}
use native.Mathlib.Omega.{arith}
use lib.ListN.{length, replicate}
use Rattle.egg.specs.Table.{parent_of, last_of, length_of, step_of}
use Rattle.egg.specs.declared.Refusal.{Refusal}
use Rattle.egg.specs.Refusals.{refusal_paper}
use Rattle.std.specs.Prelude.{Ok, Err}
use Rattle.build_reading.specs.Reading.{Placed, placed, read_all}
use Rattle.theory.specs.Words.{word_of_lem}
use Rattle.theory.specs.Numbering.{Numbered}
use Rattle.theory.specs.Appearance.{FirstAppearance, recorded}
use Rattle.theory.proofs.Induction.{induction}
use Rattle.theory.proofs.Recording.{word_of_recorded, length_grow}
use Rattle.theory.proofs.FirstPlaces.{first_parents, first_recorded}
use Rattle.theory.proofs.Reading.{numbered_once}
use Rattle.build_reading_laws.specs.Read.{Read, Readable, Stops, skips_ahead, no_room, long_word, ReadingRefused}
use Rattle.theory.proofs.RuleLaws.{numbered_agree, appearance_agree}
use Rattle.build_reading_laws.proofs.ReadingState.{On}
use Rattle.build_reading_laws.proofs.Runs.{read_all_lem}
use Rattle.build_reading_laws.proofs.OnePlace.{refuses_once, readable_not_refused}

-- The words that the table records are those that the numbers record, and the lengths are theirs.
module _ {src : ℕ → ℕ → ℕ} {n room size N : ℕ} {t : List ℕ} (R : Read src n room size N t) where
  pub read_words : (e : ℕ) → e < N → word_of_lem (parent_of t n) (last_of t n) e ≡ recorded n src e
  read_words = first_recorded R.by_rule R.appearance (word_of_recorded (first_parents R.appearance))

  letters : (e : ℕ) → e < N → length_of t n e ≡ length (word_of_lem (parent_of t n) (last_of t n) e)
  letters = induction (λ e. e < N → length_of t n e ≡ length (word_of_lem (parent_of t n) (last_of t n) e)) go where
    go : (e : ℕ) → ((d : ℕ) → d < e → d < N → length_of t n d ≡ length (word_of_lem (parent_of t n) (last_of t n) d))
        → e < N → length_of t n e ≡ length (word_of_lem (parent_of t n) (last_of t n) e)
    go zero ih h = R.no_letters
    go (suc e) ih h =
        let p : 0 < suc e = omega arith in
        let l = (R.appearance.first p h).earlier in
        R.one_more p h ∙ ap suc (ih (parent_of t n (suc e)) l (omega arith)) ∙ sym (length_grow (word_of_recorded (first_parents R.appearance)) p h)

  pub read_letters : (e : ℕ) → e < N → length_of t n e ≡ length (recorded n src e)
  read_letters e h = letters e h ∙ ap length (read_words e h)

  -- The table's own steps are those numbers, so they follow the numbering rule too.
  pub read_steps : (e g : ℕ) → e < N → g < n → step_of t n e g ≡ src e g
  read_steps e g he hg = omega (arith, R.successor he hg)

  pub read_rule : Numbered n N (step_of t n)
  read_rule = numbered_agree R.by_rule read_steps

  pub read_appearance : FirstAppearance n N (step_of t n) (parent_of t n) (last_of t n)
  read_appearance = appearance_agree R.appearance read_steps

  pub read_readable : Readable src n room N
  read_readable = record { by_rule = R.by_rule; within = R.within; short = λ {e} h. rw (← read_letters e h) (R.short h) }

module _ (src : ℕ → ℕ → ℕ) (n room size : ℕ) (hn : n ≤ 8) (lo : 1 ≤ room) (hi : room ≤ 65535) (fits : room * (2 * n + 4) ≤ size) where
  comes_to : On (Read src n room size) (ReadingRefused src n room) (read_all src n room (replicate size 0))
  comes_to = read_all_lem src n room size hn hi fits lo

  -- What an accepted reading leaves.
  pub accepted_read : {N : ℕ} {t : List ℕ} → read_all src n room (replicate size 0) ≡ placed (Ok N) t → Read src n room size N t
  accepted_read q = subst (On (Read src n room size) (ReadingRefused src n room)) q comes_to

  -- What a refused reading has met.
  pub refused_read : {r : Refusal} {t : List ℕ} → read_all src n room (replicate size 0) ≡ placed (Err r) t → ReadingRefused src n room r
  refused_read q = subst (On (Read src n room size) (ReadingRefused src n room)) q comes_to

  -- What reading takes.
  pub readable_accepted : {N : ℕ} → Readable src n room N → (t : List ℕ) × (read_all src n room (replicate size 0) ≡ placed (Ok N) t)
  readable_accepted {N} R = go (read_all src n room (replicate size 0)) refl comes_to where
    go : (p : Placed) → read_all src n room (replicate size 0) ≡ p → On (Read src n room size) (ReadingRefused src n room) p
        → (t : List ℕ) × (read_all src n room (replicate size 0) ≡ placed (Ok N) t)
    go (placed (Ok c) t) q a = (t, q ∙ ap (λ k. placed (Ok k) t) (numbered_once a.by_rule R.by_rule))
    go (placed (Err r) t) q a = absurd (readable_not_refused R a)

  -- What it refuses, and how.
  pub refuses_refused : {r : Refusal} → ReadingRefused src n room r → (t : List ℕ) × (read_all src n room (replicate size 0) ≡ placed (Err r) t)
  refuses_refused {r} F = go (read_all src n room (replicate size 0)) refl comes_to where
    go : (p : Placed) → read_all src n room (replicate size 0) ≡ p → On (Read src n room size) (ReadingRefused src n room) p
        → (t : List ℕ) × (read_all src n room (replicate size 0) ≡ placed (Err r) t)
    go (placed (Ok c) t) q a = absurd (readable_not_refused (read_readable a) F)
    go (placed (Err s) t) q a = (t, q ∙ ap (λ k. placed (Err k) t) (refuses_once a F))

  -- Both at once, as equivalences.
  pub accepts_exactly : (N : ℕ) → ((t : List ℕ) × (read_all src n room (replicate size 0) ≡ placed (Ok N) t)) ↔ Readable src n room N
  accepts_exactly N = (λ p. read_readable (accepted_read p.1), readable_accepted)

  pub refuses_exactly : (r : Refusal) → ((t : List ℕ) × (read_all src n room (replicate size 0) ≡ placed (Err r) t)) ↔ ReadingRefused src n room r
  refuses_exactly r = (λ p. refused_read p.1, refuses_refused)

module _ {src : ℕ → ℕ → ℕ} {n room : ℕ} where
  -- Only 7, 5 and 6 are given.
  pub refused_number : {r : Refusal} → ReadingRefused src n room r → ((refusal_paper r).number ≡ 7) ⊎ (((refusal_paper r).number ≡ 5) ⊎ ((refusal_paper r).number ≡ 6))
  refused_number F = go F.stops where
    go : {x g c : ℕ} {r : Refusal} → Stops src n room x g c r → ((refusal_paper r).number ≡ 7) ⊎ (((refusal_paper r).number ≡ 5) ⊎ ((refusal_paper r).number ≡ 6))
    go (skips_ahead l) = inl refl
    go (no_room p q) = inr (inl refl)
    go (long_word p q w) = inr (inr refl)
