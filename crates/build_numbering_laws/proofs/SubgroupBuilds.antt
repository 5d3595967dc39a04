-- A subgroup's build: accepted exactly when its elements are within the room, its words within 4,096, and its generators different and none the identity;
-- refused by 9 for the first that is the identity, else by 11 for the first that is as an earlier one. (5 and 6 come before, in the numbering.)
use Prim.Native.Nat.{ℕ, suc, ◌+◌, ◌*◌, ◌<◌, ◌≤◌}
use mathlib.Core.Path.{◌≡◌, refl, sym, ◌∙◌, ap, subst}
use mathlib.Core.Logic.{◌↔◌, ◌⊎◌, inl, inr}
use mathlib.Core.List.{List}
use native.Mathlib.Omega.{arith}
use lib.ListN.{length, replicate}
use Rattle.egg.specs.declared.Refusal.{Refusal}
use Rattle.egg.specs.Answers.{Reached}
use Rattle.std.specs.Prelude.{Ok, Err}
use Rattle.build_checks.specs.Checks.{checked, check_group}
use Rattle.egg.specs.Answers.{numbered}
use Rattle.build_lending.specs.Finish.{Built, built, zeroed}
use Rattle.build_lending.specs.Lending.{work_need}
use Rattle.build_reading.specs.Reading.{Placed, placed, read_all}
use Rattle.theory.specs.Group.{GroupOn, RightRegular}
use Rattle.theory.specs.Appearance.{recorded}
use Rattle.theory.proofs.Reading.{numbered_once}
use Rattle.theory.proofs.AnyCarrier.{any_carrier}
use Rattle.theory.proofs.IdentityRows.{row_so_far}
use Rattle.build_reading_laws.specs.Read.{Read, Readable, ReadingRefused}
use Rattle.build_reading_laws.proofs.Readings.{accepted_read, refused_read, readable_accepted, read_readable}
use Rattle.build_laws.proofs.Built.{work_enough, rows_fit}
use Rattle.build_laws.proofs.Twelve.{refused_build, refused_reading}
use Rattle.theory.specs.Orbit.{number_of, numbered_step, Appearing, Renumbered}
use Rattle.build_numbering_laws.specs.Source.{Answering}
use Rattle.build_numbering.specs.Build.{Renumbering, renumbering, renumber_in}
use Rattle.theory.specs.Subgroup.{right_by, Proper, FirstIdentity, FirstRepeat}
use Rattle.build_numbering_laws.proofs.Order.{origin_below, step_below}
use Rattle.build_numbering_laws.proofs.Numberings.{appearing_renumbered}
use Rattle.theory.proofs.Subgroups.{right_inside, numbers_regular, generator_outside, identity_row_proper}
use Rattle.build_numbering_laws.proofs.Builds.{built_of, same_refusal, not_refused, renumber_built, renumber_exactly}
use Rattle.build_numbering_laws.proofs.Refusals.{check_9, check_11}
use Rattle.theory.proofs.FirstRow.{sooner_apart, generators_are}

-- The maps of whatever was built.
pub with_maps : (m : Renumbering) {b : Built} → built_of m ≡ b → (inn : List ℕ) × (outw : List ℕ) × (m ≡ renumbering b inn outw)
with_maps (renumbering b inn outw) q = (inn, outw, ap (λ b. renumbering b inn outw) q)

module _ {M : ℕ} {op : ℕ → ℕ → ℕ} {inv : ℕ → ℕ} (G : GroupOn M op inv) {n : ℕ} {gen : ℕ → ℕ} (gens : (g : ℕ) → g < n → gen g < M)
    {N : ℕ} {elt : ℕ → ℕ} (A : Appearing n M (right_by op gen) 0 N elt) where
  abbrev src : ℕ → ℕ → ℕ
  src = numbered_step N elt (right_by op gen)

  R : Renumbered n M (right_by op gen) 0 N (numbered_step N elt (right_by op gen)) (number_of N elt) elt
  R = appearing_renumbered A

  pub subgroup_regular : RightRegular n N (numbered_step N elt (right_by op gen))
  subgroup_regular = numbers_regular G gens R

  -- A generator's number is 0 just if it is the identity, and two are the same just if the generators are.
  outside : {g : ℕ} → g < n → elt (src 0 g) ≡ gen g
  outside hg = generator_outside G gens R hg

  zero_identity : {g : ℕ} → g < n → src 0 g ≡ 0 → gen g ≡ 0
  zero_identity hg q = sym (outside hg) ∙ ap elt q ∙ A.first

  identity_zero : {g : ℕ} → g < n → gen g ≡ 0 → src 0 g ≡ 0
  identity_zero hg q = A.once (step_below A (origin_below A) hg) (origin_below A) (outside hg ∙ q ∙ sym A.first)

  number_same : {g h : ℕ} → g < n → h < n → src 0 g ≡ src 0 h → gen g ≡ gen h
  number_same hg hh q = sym (outside hg) ∙ ap elt q ∙ outside hh

  same_number : {g h : ℕ} → g < n → h < n → gen g ≡ gen h → src 0 g ≡ src 0 h
  same_number hg hh q = A.once (step_below A (origin_below A) hg) (step_below A (origin_below A) hh) (outside hg ∙ q ∙ sym (outside hh))

  module _ (small : M ≤ 4294967295) (source : ℕ → ℕ → Reached) (answering : Answering n M (right_by op gen) source)
      (room K : ℕ) (lo : 1 ≤ room) (hi : room ≤ 65535) (lent : room ≤ K) (size : ℕ) (w : List ℕ) (few : n ≤ 8) (fits : room * (2 * n + 4) ≤ size)
      (work : work_need n room ≤ length w) where
    abbrev build : Renumbering
    build = renumber_in size w source n room M K 0

    -- Accepted exactly when.
    pub subgroup_exactly : ((t : List ℕ) × (w₁ : List ℕ) × (inn : List ℕ) × (outw : List ℕ)
        × (renumber_in size w source n room M K 0 ≡ renumbering (built (Ok N) t w₁) inn outw))
        ↔ ((N ≤ room) × (((e : ℕ) → e < N → length (recorded n (numbered_step N elt (right_by op gen)) e) ≤ 4096) × Proper n gen))
    subgroup_exactly =
        let E = renumber_exactly A (right_inside G gens) small source answering room K lo hi lent size w few fits work in (
          λ a. let T = E.0 a in (T.readable.within, (λ e h. T.readable.short h, (identity_row_proper G gens R).0 T.identity_row_lem)),
          λ b. E.1 (record {
            readable = record { by_rule = A.by_rule; within = b.0; short = λ {e} h. b.1.0 e h };
            identity_row_lem = (identity_row_proper G gens R).1 b.1.1;
            group = any_carrier.1 subgroup_regular;
          }),
        )

    module _ (within : N ≤ room) (short : (e : ℕ) → e < N → length (recorded n (numbered_step N elt (right_by op gen)) e) ≤ 4096) where
      read : (t : List ℕ) × (read_all src n room (replicate size 0) ≡ placed (Ok N) t)
      read = readable_accepted src n room size few lo hi fits (record { by_rule = A.by_rule; within = within; short = λ {e} h. short e h })

      is_read : Read src n room size N read.0
      is_read = accepted_read src n room size few lo hi fits read.1

      inside : N * (2 * n + 4) ≤ length read.0
      inside = rows_fit src n room size w few lo hi fits work within is_read.whole

      enough : 0 < n → N ≤ length w
      enough = work_enough src n room size w few lo hi fits work within

      refused : {r : Refusal} {t₁ w₁ : List ℕ} → check_group read.0 w n N ≡ checked (Err r) t₁ w₁
          → (t : List ℕ) × (w₁ : List ℕ) × (inn : List ℕ) × (outw : List ℕ) × (build ≡ renumbering (built (Err r) t w₁) inn outw)
      refused {r} {t₁} {w₁} c =
          let b = renumber_built A (right_inside G gens) small source answering room K lo hi lent size w few fits work ∙ refused_build n w read.1 c in
          let m = with_maps build b in
          (zeroed t₁, zeroed w₁, m.0, m.1, m.2)

      -- "An identity generator is 9."
      pub subgroup_9 : {g : ℕ} → FirstIdentity n gen g
          → (t : List ℕ) × (w₁ : List ℕ) × (inn : List ℕ) × (outw : List ℕ)
          × (renumber_in size w source n room M K 0 ≡ renumbering (built (Err (numbered 9 0 g 0)) t w₁) inn outw)
      subgroup_9 {g} F = refused (check_9 is_read subgroup_regular few hi inside w enough F.place (identity_zero F.place F.identity)
          (λ h l q. F.before l (zero_identity (omega (arith, F.place)) q)))

      -- A generator that is as an earlier one is 11.
      pub subgroup_11 : {g : ℕ} → FirstRepeat n gen g
          → (t : List ℕ) × (w₁ : List ℕ) × (inn : List ℕ) × (outw : List ℕ)
          × (renumber_in size w source n room M K 0 ≡ renumbering (built (Err (numbered 11 g 0 0)) t w₁) inn outw)
      subgroup_11 {g} F =
          let so_far : (h : ℕ) → h < g → src 0 h ≡ suc h = row_so_far n src g (omega (arith, F.place))
          (λ h l q. F.moves (omega (arith, F.place)) (zero_identity (omega (arith, F.place)) q))
          (λ h i a b q. sooner_apart (λ h i l b. F.before l b) a b (number_same (omega (arith, F.place)) (omega (arith, F.place)) q)) A.by_rule in
          refused (check_11 is_read subgroup_regular few hi inside w enough F.place (λ h hh q. F.moves hh (zero_identity hh q))
          (λ q. omega (arith, F.sooner, so_far F.earlier F.sooner, same_number (omega (arith, F.sooner, F.place)) F.place F.same)) so_far)

    -- And these are all refusals: 5 or 6 as the numbering meets it, or, where that ends, 9 or 11.
    pub subgroup_refused : {r : Refusal} {t w₁ inn outw : List ℕ} → renumber_in size w source n room M K 0 ≡ renumbering (built (Err r) t w₁) inn outw
        → ReadingRefused (numbered_step N elt (right_by op gen)) n room r
        ⊎ (((g : ℕ) × FirstIdentity n gen g × (r ≡ numbered 9 0 g 0)) ⊎ ((g : ℕ) × FirstRepeat n gen g × (r ≡ numbered 11 g 0 0)))
    subgroup_refused {r} {t} {w₁} {inn} {outw} q = go (read_all src n room (replicate size 0)) refl where
      by : Readable src n room N
          → ((g : ℕ) × FirstIdentity n gen g) ⊎ (((g : ℕ) × FirstRepeat n gen g) ⊎ Proper n gen)
          → ReadingRefused src n room r ⊎ (((g : ℕ) × FirstIdentity n gen g × (r ≡ numbered 9 0 g 0)) ⊎ ((g : ℕ) × FirstRepeat n gen g × (r ≡ numbered 11 g 0 0)))
      by L (inl (g, F)) = let b = subgroup_9 L.within (λ e h. L.short h) F in inr (inl (g, F, same_refusal (sym q ∙ b.4)))
      by L (inr (inl (g, F))) = let b = subgroup_11 L.within (λ e h. L.short h) F in inr (inr (g, F, same_refusal (sym q ∙ b.4)))
      by L (inr (inr P)) = let b = subgroup_exactly.1 (L.within, (λ e h. L.short h, P)) in absurd (not_refused (sym q ∙ b.4))

      go : (p : Placed) → read_all src n room (replicate size 0) ≡ p
          → ReadingRefused src n room r ⊎ (((g : ℕ) × FirstIdentity n gen g × (r ≡ numbered 9 0 g 0)) ⊎ ((g : ℕ) × FirstRepeat n gen g × (r ≡ numbered 11 g 0 0)))
      go (placed (Err s) t₀) z =
          let b : built (Err r) t w₁ ≡ built (Err s) (zeroed t₀) (zeroed w) = sym (ap built_of q) ∙ renumber_built A (right_inside G gens) small source answering room K lo hi lent size w few fits work ∙ refused_reading n w z in
          let e : s ≡ r = cc in
          inl (subst (ReadingRefused src n room) e (refused_read src n room size few lo hi fits z))
      go (placed (Ok c) t₀) z =
          let L = read_readable (accepted_read src n room size few lo hi fits z) in
          let e : c ≡ N = numbered_once L.by_rule A.by_rule in
          by (subst (Readable src n room) e L) (generators_are n gen)
