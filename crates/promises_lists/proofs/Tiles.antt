-- Live and delayed viewers land on one state at every place of a wall. At a place it is the promise of one viewer; the delayed one's product is the only one.
-- Assumes nothing.
use Prim.Native.Nat.{ℕ, ◌+◌, ◌<◌}
use mathlib.Core.Path.{◌≡◌, refl, sym, ap, fun_ext, ◌∙◌}
use mathlib.Core.List.{List, [], ◌∷◌}
use native.Mathlib.Nat.{mul-one}
use native.Mathlib.Omega.{arith}
use lib.ListN.{length}
use Rattle.egg.specs.declared.Factor.{Factor}
use Rattle.egg.specs.declared.GroupElementId.{GroupElementId}
use Rattle.egg.specs.Answers.{Reached}
use Rattle.std.specs.Prelude.{Ok}
use Rattle.factor.specs.Questions as factor
use Rattle.group_handles.specs.declared.Group.{Group}
use Rattle.group.specs.Questions as product
use Rattle.group.proofs.OneFactor.{one_step, one_walk, one_generator, one_compose}
use Rattle.factor_laws.specs.Accepted.{Accepted}
use Rattle.promises.specs.Viewers.{then_from, identity}
use Rattle.promises.specs.Viewers as factor-viewers
use Rattle.promises_group.specs.Viewers.{live, gathered, OneState}
use Rattle.promises_group.specs.Products.{AcceptedProduct}
use Rattle.promises_group.proofs.Made.{one_accepted}
use Rattle.promises_group.proofs.Viewers.{product_viewers}
use Rattle.lists.specs.Lists.{Answered, number_of}
use Rattle.lists_laws.proofs.Outcomes.{filled_by_lem}
use Rattle.lists_factor.specs.Each as factor_lists
use Rattle.lists_group.specs.Each as product_lists
use Rattle.promises_lists.specs.Walls.{element_at}
use Rattle.promises_lists.specs.Alone.{alone}
use Rattle.promises_lists.specs.Tiles.{Tile, Tiles, FactorTiles, ProductTiles}
use Rattle.promises_lists.proofs.Alone.{factor_alone}

one_element : {x y : GroupElementId} → ◌≡◌ {A = Reached} (Ok x) (Ok y) → x ≡ y
one_element q = cc

-- At one place: the product that was sent is where the turns lead.
tile : {t : List ℕ} {g : Group} {from sent state : GroupElementId} {u : List ℕ} (S : OneState t g from u) → live t g identity u ≡ Ok sent → S.state ≡ state
    → Tile (live t g) (gathered t g) (product.walk_answer t g) from sent state u
tile S q e =
    let same = one_element (sym S.turned ∙ q) in
    record {
      multiplied = S.multiplied ∙ ap Ok same;
      walk_turned = S.walk_turned ∙ ap Ok same;
      live_lands = S.live_lands ∙ ap Ok e;
      walk_lands = S.walk_lands ∙ ap Ok e;
    }

-- At all places of a wall of a product of accepted factors: the call over lists comes to the states.
pub product_tiles : {t : List ℕ} {g : Group} → AcceptedProduct t g → ProductTiles t g
unfolding product_lists.compose_each
product_tiles {t} {g} A = λ from products out turns l here words sent.
    let single : ℕ → Reached = product_lists.compose_at t g from products in
    let lands : (i : ℕ) → i < length from → OneState t g (element_at from i) (turns i) = λ i u. product_viewers A (here i u) (words i u) in
    let at : (i : ℕ) (u : i < length from) → single i ≡ Ok (lands i u).state =
    λ i u. ap (λ (p : GroupElementId). product.compose_answer t g (element_at from i) p) (one_element (sym (sent i u) ∙ (lands i u).turned)) ∙ (lands i u).delayed_lands in
    let F = filled_by_lem single out l (λ i. number_of (single i)) (λ i u. at i u ∙ ap (λ (x : Reached). Ok (record { 0 = number_of x })) (sym (at i u))) in
    record {
      states = F.results;
      answers = F.answers;
      long = F.long;
      each = λ i u. tile (lands i u) (sent i u) (ap (λ (n : ℕ). record { 0 = n }) (ap number_of (sym (at i u)) ∙ sym (F.each i u)));
    }

-- A factor's viewers are those of the product of that factor alone.
module _ (t : List ℕ) (f : Factor) where
  live_alone : (e : GroupElementId) (u : List ℕ) → factor-viewers.live t f e u ≡ live t (alone f) e u
  live_alone e [] = refl
  live_alone e (x ∷ u) =
      ap (λ (r : Reached). then_from r (λ y. factor-viewers.live t f y u)) (one_step t (alone f) f refl refl e (record { 0 = x }))
      ∙ ap (then_from (product.step_answer t (alone f) e (record { 0 = x }))) (fun_ext λ y. live_alone y u)

  gathered_alone : (e : GroupElementId) (u : List ℕ) → factor-viewers.gathered t f e u ≡ gathered t (alone f) e u
  gathered_alone e [] = refl
  gathered_alone e (x ∷ u) =
      ap (λ (r : Reached). then_from r (λ s. then_from (factor.compose_answer t f e s) (λ y. factor-viewers.gathered t f y u))) (one_generator t (alone f) f refl refl (record { 0 = x }))
      ∙ ap (then_from (product.generator_answer t (alone f) (record { 0 = x }))) (fun_ext λ s.
      ap (λ (r : Reached). then_from r (λ y. factor-viewers.gathered t f y u)) (one_compose t (alone f) f refl refl e s)
      ∙ ap (then_from (product.compose_answer t (alone f) e s)) (fun_ext λ y. gathered_alone y u))

-- So a wall of an accepted factor, whichever call accepted it, is a wall of that product.
pub factor_tiles : {t : List ℕ} {f : Factor} → Accepted t f → FactorTiles t f
factor_tiles {t} {f} A =
    let lived : factor-viewers.live t f ≡ live t (alone f) = fun_ext λ e. fun_ext (live_alone t f e) in
    let gather : factor-viewers.gathered t f ≡ gathered t (alone f) = fun_ext λ e. fun_ext (gathered_alone t f e) in
    let walked : factor.walk_answer t f ≡ product.walk_answer t (alone f) = fun_ext λ e. fun_ext (one_walk t (alone f) f refl refl e) in
    let composed : factor_lists.compose_each t f ≡ product_lists.compose_each t (alone f) =
    fun_ext λ a. fun_ext λ b. fun_ext ((factor_alone t f).composes_alike a b) in
    let letters : f.generators ≡ f.generators + 0 = omega arith in
    as_product (sym (mul-one f.elements)) letters lived gather walked composed (product_tiles (one_accepted A)) where
      as_product : {count count' generators generators' : ℕ} {live live' gathered gathered' walks walks' : GroupElementId → List ℕ → Reached}
          {composed composed' : List ℕ → List ℕ → List ℕ → Answered} → count ≡ count' → generators ≡ generators' → live ≡ live' → gathered ≡ gathered' → walks ≡ walks'
          → composed ≡ composed' → Tiles count' generators' live' gathered' walks' composed' → Tiles count generators live gathered walks composed
      as_product a b c d e f T = rw (a, b, c, d, e, f) T
