-- A build by numbering is a build from the numbers of the numbered step, and leaves the two maps; after a refusal they are zero.
use Prim.Native.Nat.{ℕ, ◌+◌, ◌*◌, ◌≤◌}
use mathlib.Core.Path.{◌≡◌, refl, sym, ◌∙◌, ap, subst}
use mathlib.Core.Logic.{◌↔◌}
use mathlib.Core.List.{List}
use lib.ListN.{length, replicate}
use Rattle.egg.specs.declared.Refusal.{Refusal}
use Rattle.egg.specs.Answers.{Reached}
use Rattle.std.specs.Prelude.{Ok, Err}
use Rattle.egg.specs.Table.{step_of}
use Rattle.build_lending.specs.Finish.{Built, built, zeroed, finished_placed}
use Rattle.build_lending.proofs.Finishing.{refused_counted}
use Rattle.build_lending.specs.Lending.{work_need}
use Rattle.build_reading.specs.Reading.{read_all}
use Rattle.build_laws.specs.Taken.{Taken, Holding}
use Rattle.build_laws.proofs.Built.{passed, built_holds, built_work, taken_built}
use Rattle.theory.specs.Orbit.{Inside, numbered_step, Appearing}
use Rattle.build_numbering.specs.Renumber.{Mapped, mapped, map_all}
use Rattle.build_numbering_laws.specs.Source.{Answering}
use Rattle.build_numbering_laws.specs.Maps.{placed_of, MapsFilled, RenumberedLists}
use Rattle.build_numbering.specs.Build.{Renumbering, renumbering, settled_maps, finished_mapped, renumber_in}
use Rattle.build_numbering_laws.proofs.Numberings.{numbering_placed, numbering_filled, filled_held}
use Rattle.build_numbering_laws.proofs.Sizes.{Long, all_long}

abbrev pub built_of : Renumbering → Built
built_of (renumbering b inn outw) = b

pub settled_built : (b : Built) (inn outw : List ℕ) → built_of (settled_maps b inn outw) ≡ b
settled_built (built (Ok c) t w) inn outw = refl
settled_built (built (Err r) t w) inn outw = refl

finished_built : (m : Mapped) (n : ℕ) (w : List ℕ) → built_of (finished_mapped m n w) ≡ finished_placed (placed_of m) n w
finished_built (mapped p inn outw) n w = settled_built (finished_placed p n w) inn outw

-- Refused builds that are equal are refused alike, and a refused one is not an accepted one.
pub same_refusal : {r r' : Refusal} {t t' w w' i i' o o' : List ℕ} → renumbering (built (Err r) t w) i o ≡ renumbering (built (Err r') t' w') i' o' → r ≡ r'
same_refusal h = cc

pub not_refused : {r : Refusal} {c : ℕ} {t t' w w' i i' o o' : List ℕ} → renumbering (built (Err r) t w) i o ≡ renumbering (built (Ok c) t' w') i' o' → ⊥
not_refused h = refused_counted (ap built_of h)

-- The maps of an accepted build are those of its numbering; those of a refused one are zero.
pub settled_count : (b : Built) (inn outw : List ℕ) {c : ℕ} {t w i o : List ℕ} → settled_maps b inn outw ≡ renumbering (built (Ok c) t w) i o
    → (b ≡ built (Ok c) t w) × ((inn ≡ i) × (outw ≡ o))
settled_count (built (Ok k) t₁ w₁) inn outw q = (cc, (cc, cc))
settled_count (built (Err r) t₁ w₁) inn outw q = absurd (not_refused q)

settled_refused : (b : Built) (inn outw : List ℕ) {r : Refusal} {t w i o : List ℕ} → settled_maps b inn outw ≡ renumbering (built (Err r) t w) i o
    → (zeroed inn ≡ i) × (zeroed outw ≡ o)
settled_refused (built (Ok k) t₁ w₁) inn outw q = absurd (not_refused (sym q))
settled_refused (built (Err s) t₁ w₁) inn outw q = (cc, cc)

-- "Once it has started, any refusal .. leaves .. subgroup maps, zero", whatever the source says.
pub refused_maps : (size : ℕ) (w : List ℕ) (source : ℕ → ℕ → Reached) (n room M K x₀ : ℕ) {r : Refusal} {t w₁ inn outw : List ℕ}
    → renumber_in size w source n room M K x₀ ≡ renumbering (built (Err r) t w₁) inn outw → (inn ≡ replicate M 0) × (outw ≡ replicate K 0)
unfolding renumber_in
refused_maps size w source n room M K x₀ {r} {t} {w₁} {inn} {outw} q = go (map_all source n room M K x₀ (replicate size 0)) (all_long source n room M K x₀ (replicate size 0)) q where
  go : (m : Mapped) → Long M K m → finished_mapped m n w ≡ renumbering (built (Err r) t w₁) inn outw → (inn ≡ replicate M 0) × (outw ≡ replicate K 0)
  go (mapped p i o) h z =
      let s = settled_refused (finished_placed p n w) i o z in
      (sym s.0 ∙ ap (λ (k : ℕ). replicate k 0) h.0, sym s.1 ∙ ap (λ (k : ℕ). replicate k 0) h.1)

module _ {n M : ℕ} {out : ℕ → ℕ → ℕ} {x₀ N : ℕ} {elt : ℕ → ℕ} (A : Appearing n M out x₀ N elt) (I : Inside n M out x₀) (small : M ≤ 4294967295)
    (source : ℕ → ℕ → Reached) (answering : Answering n M out source) (room K : ℕ) (lo : 1 ≤ room) (hi : room ≤ 65535) (lent : room ≤ K)
    (size : ℕ) (w : List ℕ) (few : n ≤ 8) (fits : room * (2 * n + 4) ≤ size) (work : work_need n room ≤ length w) where
  -- Answer, table and work are those of a build from the numbers of the numbered step.
  pub renumber_built : built_of (renumber_in size w source n room M K x₀) ≡ finished_placed (read_all (numbered_step N elt out) n room (replicate size 0)) n w
  unfolding renumber_in
  renumber_built =
      finished_built (map_all source n room M K x₀ (replicate size 0)) n w
      ∙ ap (λ p. finished_placed p n w) (numbering_placed A I small source answering room K lo hi lent (replicate size 0))

  module _ {c : ℕ} {t w₁ inn outw : List ℕ} (q : renumber_in size w source n room M K x₀ ≡ renumbering (built (Ok c) t w₁) inn outw) where
    by_placed : finished_placed (read_all (numbered_step N elt out) n room (replicate size 0)) n w ≡ built (Ok c) t w₁
    by_placed = sym renumber_built ∙ ap built_of q

    -- What an accepted build holds: table, maps and work.
    pub renumber_holds : Holding (numbered_step N elt out) n room size c t
    renumber_holds = built_holds (numbered_step N elt out) n room size w few lo hi fits work by_placed

    pub renumber_work : w₁ ≡ replicate (length w) 0
    renumber_work = built_work (numbered_step N elt out) n room size w few lo hi fits work by_placed

    pub renumber_filled : (c ≡ N) × MapsFilled M room K elt c inn outw
    unfolding renumber_in
    renumber_filled = go (map_all source n room M K x₀ (replicate size 0)) refl q where
      go : (m : Mapped) → map_all source n room M K x₀ (replicate size 0) ≡ m → finished_mapped m n w ≡ renumbering (built (Ok c) t w₁) inn outw
          → (c ≡ N) × MapsFilled M room K elt c inn outw
      go (mapped p i o) z h =
          let s = settled_count (finished_placed p n w) i o h in
          let P = passed p n w s.0 in
          let W = numbering_filled A I small source answering room K lo hi lent (replicate size 0) (z ∙ ap (λ p. mapped p i o) P.count) in
          (W.0, rw (s.1.0, s.1.1) at W.1)

    pub renumber_maps : RenumberedLists n M room K out x₀ c (step_of t n) inn outw
    renumber_maps =
        let W = renumber_filled in
        subst (λ k. RenumberedLists n M room K out x₀ k (step_of t n) inn outw) (sym W.0)
        (filled_held A (rw W.0 at W.1) hi (λ e g h hg. renumber_holds.steps (rw W.0 h) hg))

  -- Accepted exactly when the numbered step is taken.
  pub renumber_exactly : ((t : List ℕ) × (w₁ : List ℕ) × (inn : List ℕ) × (outw : List ℕ)
      × (renumber_in size w source n room M K x₀ ≡ renumbering (built (Ok N) t w₁) inn outw))
      ↔ Taken (numbered_step N elt out) n room N
  renumber_exactly = (
    λ a. (renumber_holds a.4).taken,
    λ G.
        let b = taken_built (numbered_step N elt out) n room size w few lo hi fits work G in
        go (renumber_in size w source n room M K x₀) refl (renumber_built ∙ b.2),
  ) where
    go : {t w₁ : List ℕ} (m : Renumbering) → renumber_in size w source n room M K x₀ ≡ m
        → built_of (renumber_in size w source n room M K x₀) ≡ built (Ok N) t w₁
        → (t : List ℕ) × (w₁ : List ℕ) × (inn : List ℕ) × (outw : List ℕ)
        × (renumber_in size w source n room M K x₀ ≡ renumbering (built (Ok N) t w₁) inn outw)
    go {t} {w₁} (renumbering b inn outw) q z = (t, w₁, inn, outw, q ∙ ap (λ b. renumbering b inn outw) (sym (ap built_of q) ∙ z))
