-- The overgroup as a product of accepted factors: its `compose` answers the product's operation. And what an accepted build by generators gives there.
use Prim.Native.Nat.{ℕ, ◌+◌, ◌*◌, ◌<◌, ◌≤◌}
use mathlib.Core.Path.{◌≡◌, subst}
use mathlib.Core.Logic.{◌↔◌}
use mathlib.Core.List.{List}
use native.Mathlib.Omega.{arith}
use lib.ListN.{length, get_or}
use Rattle.egg.specs.declared.Factor.{Factor}
use Rattle.egg.specs.Answers.{Reached}
use Rattle.std.specs.Prelude.{Ok}
use Rattle.build_lending.specs.Finish.{built}
use Rattle.build_lending.specs.Lending.{work_need}
use Rattle.theory.specs.Group.{GroupOn}
use Rattle.theory_products.specs.Product.{product}
use Rattle.theory_products.proofs.ProductLaws.{product_group}
use Rattle.group_digits.specs.Digits.{Compose, digit_of, digitwise}
use Rattle.group_handles.specs.Handles.{elements_of}
use Rattle.promises_group.specs.Products.{parts, AllAccepted}
use Rattle.promises_group.proofs.Parts.{parts_elements, all_groups, composes_are}
use Rattle.build_numbering.specs.Renumber as appear
use Rattle.build_numbering.specs.Build.{renumbering, renumber_in}
use Rattle.build_numbering_laws.specs.Source.{Answering}
use Rattle.theory.specs.Subgroup.{right_by, Generated}
use Rattle.build_numbering_laws.proofs.Order.{appearing}
use Rattle.theory.proofs.Subgroups.{right_inside, orbit_generated, identity_row_proper}
use Rattle.build_numbering_laws.proofs.Builds.{renumber_holds, renumber_work, renumber_maps}
use Rattle.promises_subgroup.specs.Made.{SubgroupMade}
use Rattle.promises_subgroup.proofs.Held.{held_carried, held_homomorphic}

module _ (t : List ℕ) {hs : List Factor} (As : AllAccepted t hs) where
  pub product_answers : (y x : ℕ) → y < elements_of hs → x < elements_of hs
      → digitwise (digit_of Compose t) hs y x ≡ Ok (record { 0 = (product (parts t hs)).op y x })
  product_answers y x hy hx = composes_are t As y x (rw (parts_elements t hs) hy) (rw (parts_elements t hs) hx)

  pub product_overgroup : GroupOn (elements_of hs) (product (parts t hs)).op (product (parts t hs)).inv
  product_overgroup = subst (λ (k : ℕ). GroupOn k (product (parts t hs)).op (product (parts t hs)).inv) (parts_elements t hs) (product_group (all_groups t As)).laws

pub generated_as : {n M : ℕ} {op : ℕ → ℕ → ℕ} {inv gen : ℕ → ℕ} {H K : ℕ → Type 0} → ((x : ℕ) → H x ↔ K x) → Generated n M op inv gen H → Generated n M op inv gen K
generated_as {H = H} {K} same S = record {
  subgroup = record {
    below = λ {a} k. S.subgroup.below ((same a).1 k);
    identity = (same 0).0 S.subgroup.identity;
    products = λ {a} {b} k l. (same _).0 (S.subgroup.products ((same a).1 k) ((same b).1 l));
    inverses = λ {a} k. (same _).0 (S.subgroup.inverses ((same a).1 k));
  };
  generators = λ {g} hg. (same _).0 (S.generators hg);
  smallest = λ {K = L} {a} B k h. S.smallest B k ((same a).1 h);
}

module _ {M : ℕ} {op : ℕ → ℕ → ℕ} {inv : ℕ → ℕ} (G : GroupOn M op inv) (small : M ≤ 4294967295) {n : ℕ} {gen : ℕ → ℕ}
    (gens : (g : ℕ) → g < n → gen g < M) (source : ℕ → ℕ → Reached) (answering : Answering n M (right_by op gen) source)
    (room K : ℕ) (lo : 1 ≤ room) (hi : room ≤ 65535) (lent : room ≤ K) (size : ℕ) (w : List ℕ) (few : n ≤ 8) (fits : room * (2 * n + 4) ≤ size)
    (work : work_need n room ≤ length w) {c : ℕ} {t w₁ inn outw : List ℕ}
    (q : renumber_in size w source n room M K 0 ≡ renumbering (built (Ok c) t w₁) inn outw) where
  pub subgroup_made : SubgroupMade op inv n M room K size (length w) gen c t w₁ inn outw
  subgroup_made =
      let I = right_inside G gens in
      let A = (appearing I).2 in
      let H = renumber_holds A I small source answering room K lo hi lent size w few fits work q in
      let D = renumber_maps A I small source answering room K lo hi lent size w few fits work q in
      record {
        sound = H.sound;
        ruled = H.ruled;
        hops = H.hops;
        held = D;
        generated = generated_as (λ x. (λ o. ((orbit_generated G gens).subgroup.below o, not_none x (D.renumbered.inward o) D.within), λ p. D.reached p.0 p.1))
            (orbit_generated G gens);
        proper = (identity_row_proper G gens D.renumbered).0 (λ g hg. H.sound.identity_row_lem hg);
        carried = held_carried D hi;
        homomorphic = held_homomorphic G gens D H.sound;
        size_kept = H.size_kept;
        beyond = H.beyond;
        work_zero = renumber_work A I small source answering room K lo hi lent size w few fits work q;
      }
    where
      not_none : (x : ℕ) → get_or inn x 0 < c → c ≤ room → ¬ (get_or inn x 0 ≡ appear.no_number)
      not_none x l h e = omega arith
