-- What a numbering comes to: it is the reading of the numbered step, and leaves the two maps.
use Prim.Native.Nat.{ℕ, ◌<◌, ◌≤◌}
use mathlib.Core.Path.{◌≡◌, refl, sym, ◌∙◌, ap, subst}
use mathlib.Core.Logic.{◌⊎◌, inl, inr}
use mathlib.Core.List.{List}
use native.Mathlib.Decide.{dec_lt}
use native.Mathlib.Omega.{arith}
use lib.ListN.{get_or}
use Rattle.egg.specs.declared.Refusal.{Refusal}
use Rattle.egg.specs.Answers.{Reached}
use Rattle.std.specs.Prelude.{Ok, Err}
use Rattle.egg.specs.Answers.{numbered}
use Rattle.build_reading.specs.Reading.{Placed, placed, read_all}
use Rattle.theory.specs.Appearance.{row}
use Rattle.theory.proofs.Places.{ahead_row}
use Rattle.theory.proofs.Counting.{row_known, numbered_table}
use Rattle.theory.proofs.RuleLaws.{numbered_agree, no_skip, count_within}
use Rattle.build_reading_laws.specs.Read.{ReadSoFar, Stops, skips_ahead, no_room, long_word, ReadingRefused}
use Rattle.theory.specs.Orbit.{Orbit, Inside, number_of, numbered_step, Appearing, Renumbered}
use Rattle.build_numbering.specs.Renumber.{no_number, Mapped, mapped, map_all}
use Rattle.build_numbering_laws.specs.Source.{Answering}
use Rattle.build_numbering_laws.specs.Maps.{placed_of, MapsFilled}
use Rattle.build_numbering_laws.specs.Maps as maps
use Rattle.build_numbering_laws.proofs.Order.{number_found, number_at_most, step_outside, step_below, orbit_numbered, number_below, number_elt, elt_number}
use Rattle.build_numbering_laws.proofs.Following.{Agree, all_follows}

agree_placed : (B : ℕ → List ℕ → List ℕ → Type 0) (p : Placed) (m : Mapped) → Agree B p m → placed_of m ≡ p
agree_placed B p (mapped (placed (Ok c) t) inn outw) a = sym a.0
agree_placed B p (mapped (placed (Err r) t) inn outw) a = sym a

-- The numbering itself, with no list.
pub appearing_renumbered : {n M : ℕ} {out : ℕ → ℕ → ℕ} {x₀ N : ℕ} {elt : ℕ → ℕ} → Appearing n M out x₀ N elt
    → Renumbered n M out x₀ N (numbered_step N elt out) (number_of N elt) elt
appearing_renumbered A = record {
  by_rule = A.by_rule;
  origin = A.first;
  outward = A.reached;
  outward_below = A.below;
  inward = number_below A;
  there_and_back = number_elt A;
  back_and_there = elt_number A;
  once = A.once;
  steps = step_outside A;
}

-- The maps at the end.
module _ {n M : ℕ} {out : ℕ → ℕ → ℕ} {x₀ N : ℕ} {elt : ℕ → ℕ} (A : Appearing n M out x₀ N elt) {room K : ℕ} {inn outw : List ℕ}
    (F : MapsFilled M room K elt N inn outw) (limited : room ≤ 65535) where
  number_of_lem : {x : ℕ} → Orbit n out x₀ x → (e : ℕ) × (e < N) × (elt e ≡ x) × (get_or inn x 0 ≡ e)
  number_of_lem o = let (e, h, q) = orbit_numbered A o in (e, h, q, ap (λ x. get_or inn x 0) (sym q) ∙ F.numbers h)

  none_or_reached : {x : ℕ} → x < M → (get_or inn x 0 ≡ no_number) ⊎ Orbit n out x₀ x
  none_or_reached {x} hx = go (dec_lt (number_of N elt x) N) where
    go : Dec (number_of N elt x < N) → (get_or inn x 0 ≡ no_number) ⊎ Orbit n out x₀ x
    go (yes h) = inr (subst (Orbit n out x₀) (number_found N elt x h) (A.reached h))
    go (no f) = inl (F.others hx (λ e h q. f (omega (arith, number_at_most N elt x e q))))

  pub filled_held : {step : ℕ → ℕ → ℕ} → ((e g : ℕ) → e < N → g < n → step e g ≡ numbered_step N elt out e g)
      → maps.RenumberedLists n M room K out x₀ N step inn outw
  filled_held {step} agree =
      let origin : 0 < N = (numbered_table A.by_rule).origin in
      record {
        renumbered = record {
          by_rule = numbered_agree A.by_rule agree;
          origin = F.elements origin ∙ A.first;
          outward = λ {e} h. rw (F.elements h) (A.reached h);
          outward_below = λ {e} h. rw (F.elements h) (A.below h);
          inward = λ {x} o. let (e, h, q, p) = number_of_lem o in rw p h;
          there_and_back = λ {e} h. rw (F.elements h) (F.numbers h);
          back_and_there = λ {x} o. let (e, h, q, p) = number_of_lem o in rw p (F.elements h ∙ q);
          once = λ {d} {e} h k q. A.once h k (sym (F.elements h) ∙ q ∙ F.elements k);
          steps = λ {e} {g} h hg. rw (agree e g h hg, F.elements h) (F.elements (step_below A h hg) ∙ step_outside A h hg);
        };
        reached = λ {x} hx f. by f (none_or_reached hx);
        unreached = λ {x} hx f. by_not f (none_or_reached hx);
        beyond = λ {e} h. F.beyond h;
        within = F.within;
        inn_size = F.inn_size;
        outw_size = F.outw_size;
      }
    where
      by : {x : ℕ} → ¬ (get_or inn x 0 ≡ no_number) → (get_or inn x 0 ≡ no_number) ⊎ Orbit n out x₀ x → Orbit n out x₀ x
      by f (inl q) = absurd (f q)
      by f (inr o) = o

      by_not : {x : ℕ} → ¬ Orbit n out x₀ x → (get_or inn x 0 ≡ no_number) ⊎ Orbit n out x₀ x → get_or inn x 0 ≡ no_number
      by_not f (inl q) = q
      by_not f (inr o) = absurd (f o)

module _ {n M : ℕ} {out : ℕ → ℕ → ℕ} {x₀ N : ℕ} {elt : ℕ → ℕ} (A : Appearing n M out x₀ N elt) (I : Inside n M out x₀) (small : M ≤ 4294967295)
    (source : ℕ → ℕ → Reached) (answering : Answering n M out source) (room K : ℕ) (lo : 1 ≤ room) (hi : room ≤ 65535) (lent : room ≤ K) where
  -- The table and the answer are those of a reading of the numbered step.
  pub numbering_placed : (t : List ℕ) → placed_of (map_all source n room M K x₀ t) ≡ read_all (numbered_step N elt out) n room t
  numbering_placed t = agree_placed _ _ (map_all source n room M K x₀ t) (all_follows A small room K hi lent I source answering lo t)

  -- The maps of an accepted numbering.
  pub numbering_filled : (t₀ : List ℕ) {c : ℕ} {t inn outw : List ℕ} → map_all source n room M K x₀ t₀ ≡ mapped (placed (Ok c) t) inn outw
      → (c ≡ N) × MapsFilled M room K elt c inn outw
  numbering_filled t₀ q =
      (subst (Agree (λ c inn outw. (c ≡ N) × MapsFilled M room K elt c inn outw) (read_all (numbered_step N elt out) n room t₀)) q
      (all_follows A small room K hi lent I source answering lo t₀)).1

  -- 7 is never given: only 5 and 6 are, at an element and a generator.
  pub refused_5_or_6 : {r : Refusal} → ReadingRefused (numbered_step N elt out) n room r
      → (e : ℕ) × (g : ℕ) × (g < n) × ((r ≡ numbered 5 e g 0) ⊎ (r ≡ numbered 6 e g 0))
  refused_5_or_6 {r} R = (R.row, R.column, R.place, go R.before R.place R.stops) where
    go : {e g c : ℕ} {r : Refusal} → ReadSoFar (numbered_step N elt out) n room e g c → g < n → Stops (numbered_step N elt out) n room e g c r → (r ≡ numbered 5 e g 0) ⊎ (r ≡ numbered 6 e g 0)
    go H hg (skips_ahead l) =
        let k = row_known H.known in
        absurd (omega (
          arith,
          no_skip H.known hg A.by_rule.known (ahead_row hg (row (omega (arith, k, count_within A.by_rule H.known, A.by_rule.last_row)))),
        ))
    go H hg (no_room p q) = inl refl
    go H hg (long_word p q w) = inr refl
