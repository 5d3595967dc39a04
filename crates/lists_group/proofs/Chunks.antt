-- From the chunks to what the single call answers at each place.
-- Assumes nothing.
use Prim.Native.Nat.{ℕ, ◌+◌, ◌-◌, ◌%◌, ◌≤◌, ◌<◌}
use mathlib.Core.Path.{◌≡◌, refl, sym, ap, ◌∙◌, subst, fun_ext}
use mathlib.Core.List.{List, []}
use native.Mathlib.Omega.{arith}
use borrow.Rule.Slice.PartMut.{mid_of, put_mid}
use lib.ListN.{length, get_or}
use lib.IntN.{ℤ, pos}
use Rattle.egg.specs.Answers.{Reached, Verdict, fine}
use Rattle.std.specs.Prelude.{Ok}
use Rattle.lists.specs.Answers.{Listed}
use Rattle.lists.specs.Worked.{Worked, AllRight}
use Rattle.lists.proofs.Parts.{mid_at, put_back}
use Rattle.lists_factor.specs.Each as factor
use Rattle.group_handles.specs.declared.Group.{Group}
use Rattle.group_handles.specs.declared.inner.Seen.{Seen}
use Rattle.group_handles.specs.declared.inner.Limit.TheVariants.{Number}
use Rattle.group_handles.specs.Handles.{handles, elements_of, seen, admits_seen}
use Rattle.group_handles.specs.Alone.{Alone}
use Rattle.group_handles.proofs.Admitted.{Goes, goes_on, admits_fine, few_elements, count_told}
use Rattle.build_lending.specs.Lending.{no_factor}
use Rattle.group_digits.specs.Digits.{Compose, Inverse, composes, inverts}
use Rattle.group.specs.Questions.{compose_answer, inverse_answer}
use Rattle.group.proofs.Calls.{none_admitted}
use Rattle.group.proofs.OneFactor.{one_compose, one_inverse, one_powi}
use Rattle.lists_group.specs.Each.{compose_at, inverse_at, powi_at}
use Rattle.lists_group.specs.Passes.{Copied, Gathered, Sound}

-- A product of one factor is asked as the factor is.
module _ (t : List ℕ) (g : Group) (a : List ℕ) (o : Alone g) where
  pub compose_alone : (b : List ℕ) {k : ℕ} {results : List ℕ} → AllRight k (factor.compose_at t (get_or g.factors 0 no_factor) a b) results
      → AllRight k (compose_at t g a b) results
  compose_alone b w = record {
    each = λ i u. sym (one_compose t g (get_or g.factors 0 no_factor) o.counted o.listed (record { 0 = get_or a i 0 }) (record { 0 = get_or b i 0 })) ∙ w.each i u;
  }

  pub inverse_alone : {k : ℕ} {r : Listed} {results : List ℕ} → Worked k (factor.inverse_at t (get_or g.factors 0 no_factor) a) r results
      → Worked k (inverse_at t g a) r results
  inverse_alone {k} {r} {results} w =
      let same : (i : ℕ) → factor.inverse_at t (get_or g.factors 0 no_factor) a i ≡ inverse_at t g a i =
      λ i. one_inverse t g (get_or g.factors 0 no_factor) o.counted o.listed (record { 0 = get_or a i 0 }) in
      subst (λ (single : ℕ → Reached). Worked k single r results) (fun_ext same) w

  pub powi_alone_lem : (exponents : List ℤ) {k : ℕ} {r : Listed} {results : List ℕ} → Worked k (factor.powi_at t (get_or g.factors 0 no_factor) a exponents) r results
      → Worked k (powi_at t g a exponents) r results
  powi_alone_lem exponents {k} {r} {results} w =
      let same : (i : ℕ) → factor.powi_at t (get_or g.factors 0 no_factor) a exponents i ≡ powi_at t g a exponents i =
      λ i. one_powi t g (get_or g.factors 0 no_factor) o.counted o.listed (record { 0 = get_or a i 0 }) (get_or exponents i (pos 0)) in
      subst (λ (single : ℕ → Reached). Worked k single r results) (fun_ext same) w

-- What a pass over the handles has shown.
pub sound : (len : ℕ) (g : Group) {s : Seen} {v : Verdict} → s ≡ seen len (handles g) → v ≡ admits_seen s g.count 0 (Number 1) 0 (Number 1) → v ≡ fine
    → Sound len g (s.elements % 4294967296)
sound len g {s} q p e =
    let G : Goes len g 0 1 0 1 = goes_on len g 0 1 0 1 (none_admitted len g q p) e in
    record { fits = G.fits; within = G.within; count = count_told (ap (λ (x : Seen). x.elements) q) (few_elements g G.within) }

-- One chunk.
pub chunk_right : (t : List ℕ) (g : Group) (a b : List ℕ) {elements : ℕ} {xs ys sums : List ℕ} → Sound (length t) g elements → length b ≡ length a
    → Copied elements a xs → Copied elements b ys → Gathered Compose t g (length a) xs ys sums → AllRight (length a) (compose_at t g a b) sums
unfolding compose_answer
chunk_right t g a b {elements} {xs} {ys} {sums} S q x y w = record {
  each = λ i u. let v : i < length b = omega (arith, q) in
      let first : get_or a i 0 < elements_of (handles g) = rw (← S.count) (x.small i u) in
      let second : get_or b i 0 < elements_of (handles g) = rw (← S.count) (y.small i v) in
      let whole : composes t (handles g) (get_or a i 0) (get_or b i 0) ≡ Ok (record { 0 = get_or sums i 0 }) =
      rw (← x.same.each i u, ← y.same.each i v) (w.each i u) in
      rw (← admits_fine (length t) g (get_or a i 0) (elements_of (handles g)) (get_or b i 0) (elements_of (handles g)) S.fits first second S.within) whole;
}

pub inverses_right_lem : (t : List ℕ) (g : Group) (a : List ℕ) {elements : ℕ} {xs sums : List ℕ} → Sound (length t) g elements → Copied elements a xs
    → Gathered Inverse t g (length a) xs [] sums → AllRight (length a) (inverse_at t g a) sums
unfolding inverse_answer
inverses_right_lem t g a {elements} {xs} {sums} S x w = record {
  each = λ i u. let first : get_or a i 0 < elements_of (handles g) = rw (← S.count) (x.small i u) in
      let whole : inverts t (handles g) (get_or a i 0) ≡ Ok (record { 0 = get_or sums i 0 }) = rw (← x.same.each i u) (w.each i u) in
      rw (← admits_fine (length t) g (get_or a i 0) (elements_of (handles g)) 0 1 S.fits first (omega arith) S.within) whole;
}

-- One chunk more: its results stand after those of the chunks before it.
pub next_chunk : (at e : ℕ) (results part : List ℕ) → at ≤ length results → {single here : ℕ → Reached} {k : ℕ} → k ≡ e - at → length part ≡ e - at
    → ((j : ℕ) → j < e - at → single (at + j) ≡ here j) → AllRight at single results → AllRight k here part → AllRight e single (put_mid at (e - at) results part)
next_chunk at e results part inside {single} q long same w p = record {
  each =
      put_back at (e - at) results part inside (λ i x. single i ≡ Ok (record { 0 = x })) refl long w.each (λ j u. same j u ∙ p.each j (omega (arith, q)));
}

-- The single calls at the places of a chunk.
module _ (t : List ℕ) (g : Group) (at k : ℕ) (a : List ℕ) where
  pub compose_places : (b : List ℕ) (j : ℕ) → j < k → compose_at t g a b (at + j) ≡ compose_at t g (mid_of at k a) (mid_of at k b) j
  compose_places b j u = rw (mid_at 0 at k a j u, mid_at 0 at k b j u)

  pub inverse_places : (j : ℕ) → j < k → inverse_at t g a (at + j) ≡ inverse_at t g (mid_of at k a) j
  inverse_places j u = rw (mid_at 0 at k a j u)
