-- Laws of the product of two, one for each answer.
use Rattle.std.specs.Prelude.{Ok, Err}
use Rattle.egg.specs.Refusals.{numbered}
use Prim.Native.Nat.{ℕ, ◌+◌, ◌-◌, ◌≤◌, ◌<◌}
use mathlib.Core.Path.{◌≡◌, refl, sym, ap, ◌∙◌}
use mathlib.Core.Bool.{Bool, true, false, ◌&&◌, and_assoc}
use mathlib.Core.List.{List, [], ◌∷◌, ◌++◌}
use borrow.Author.Tests.{le-leb, lt-leb}
use lib.ListN.{length, replicate}
use lib.Seq.{take-append_seam}
use Rattle.egg.specs.declared.Factor.{Factor}
use Rattle.egg.specs.Factor.{fits_in}
use Rattle.build_lending.specs.Lending.{no_factor}
use Rattle.group_handles.specs.declared.Group.{Group}
use Rattle.group_handles.specs.Answers.{Grouped}
use Rattle.group_handles.specs.Handles.{handles, elements_of, all_fit, capped, group_of, joins}
use Rattle.group_handles.proofs.Caps.{cap_within}
use Rattle.group_handles.proofs.Sums.{both_length}

pub fit_both : (len : ℕ) (xs ys : List Factor) → all_fit len (xs ++ ys) ≡ all_fit len xs && all_fit len ys
fit_both len [] ys = refl
fit_both len (x ∷ xs) ys = ap (λ (b : Bool). fits_in len x && b) (fit_both len xs ys) ∙ sym (and_assoc (fits_in len x) (all_fit len xs) (all_fit len ys))

pub handles_of : (hs : List Factor) → handles (group_of hs) ≡ hs
handles_of hs = take-append_seam hs (replicate (8 - length hs) no_factor)

abbrev pub refused_group : ℕ → Grouped
refused_group k = Err (numbered k 0 0 0)

module _ (len : ℕ) (a b : Group) where
  pub joins_first : all_fit len (handles a) ≡ false → refused_group 17 ≡ joins len a b
  unfolding joins
  joins_first h = rw (fit_both len (handles a) (handles b), h)

  module _ (ha : all_fit len (handles a) ≡ true) where
    pub joins_second : all_fit len (handles b) ≡ false → refused_group 17 ≡ joins len a b
    unfolding joins
    joins_second h = rw (fit_both len (handles a) (handles b), ha, h)

    module _ (hb : all_fit len (handles b) ≡ true) where
      pub joins_many : 8 < a.count → refused_group 15 ≡ joins len a b
      unfolding joins
      joins_many h = rw (fit_both len (handles a) (handles b), ha, hb, lt-leb a.count 8 h)

      module _ (ka : a.count ≤ 8) where
        pub joins_more : 8 < b.count → refused_group 15 ≡ joins len a b
        unfolding joins
        joins_more h = rw (fit_both len (handles a) (handles b), ha, hb, le-leb a.count 8 ka, lt-leb b.count 8 h)

        module _ (kb : b.count ≤ 8) where
          pub joins_long : {k : ℕ} → k ≡ length (handles a) + length (handles b) → 8 < k → refused_group 15 ≡ joins len a b
          unfolding joins
          joins_long {k} q h =
              let z : 8 < length (handles a ++ handles b) = rw (both_length (handles a) (handles b), ← q) h in
              rw (fit_both len (handles a) (handles b), ha, hb, le-leb a.count 8 ka, le-leb b.count 8 kb, lt-leb (length (handles a ++ handles b)) 8 z)

          module _ {k : ℕ} (q : k ≡ length (handles a) + length (handles b)) (l : k ≤ 8) {g : Group} (r : g ≡ group_of (handles a ++ handles b)) {m : ℕ} (s : m ≡ capped (elements_of (handles g))) where
            short : length (handles a ++ handles b) ≤ 8
            short = rw (both_length (handles a) (handles b), ← q) l

            size : m ≡ capped (elements_of (handles a ++ handles b))
            size = s ∙ ap (λ (x : Group). capped (elements_of (handles x))) r ∙ ap (λ (x : List Factor). capped (elements_of x)) (handles_of (handles a ++ handles b))

            pub joins_large : 4294967295 < m → refused_group 15 ≡ joins len a b
            unfolding joins
            joins_large h =
                rw (
                  fit_both len (handles a) (handles b),
                  ha,
                  hb,
                  le-leb a.count 8 ka,
                  le-leb b.count 8 kb,
                  le-leb (length (handles a ++ handles b)) 8 short,
                  ← cap_within (elements_of (handles a ++ handles b)) size,
                  lt-leb m 4294967295 h,
                )

            pub joins_fine : m ≤ 4294967295 → Ok g ≡ joins len a b
            unfolding joins
            joins_fine h =
                rw (
                  fit_both len (handles a) (handles b),
                  ha,
                  hb,
                  le-leb a.count 8 ka,
                  le-leb b.count 8 kb,
                  le-leb (length (handles a ++ handles b)) 8 short,
                  ← cap_within (elements_of (handles a ++ handles b)) size,
                  le-leb m 4294967295 h,
                  r,
                )
