-- On an image whose check is 0 the walk is the walk in its group, so live and delayed viewers land on one state.
use Prim.Native.Nat.{ℕ, ◌≤◌, ◌<◌}
use mathlib.Core.Path.{◌≡◌, refl, sym, ap, ◌∙◌}
use mathlib.Core.List.{List, [], ◌∷◌}
use Rattle.egg.specs.declared.Factor.{Factor}
use Rattle.std.specs.Prelude.{Ok}
use Rattle.egg.specs.Factor.{reached_paper}
use Rattle.build_lending.specs.Lending.{making}
use Rattle.theory.specs.Words.{Word, empty, letter, walk}
use Rattle.theory.specs.Group.{GroupOn, RightSteps}
use Rattle.theory.proofs.AnyCarrier.{any_carrier}
use Rattle.theory.proofs.Walking.{walk_closed}
use Rattle.theory.proofs.Complete.{walk_is_op}
use Rattle.image.specs.Image.{head_generators, head_elements, bytes_need, image_number}
use Rattle.image.specs.Read.{read_image}
use Rattle.image.specs.Walked.{walk_number}
use Rattle.promises_image.specs.Images.{Bytes, image_step, GroupImage}
use Rattle.promises_image.specs.Viewers.{live, OneState}
use Rattle.promises_image.proofs.Back.{number_exactly}
use Rattle.promises_image.proofs.Walks.{image_table, walk_group_image, walk_composes}

-- The turns one by one lead where the word leads.
module _ {l : List ℕ} (I : GroupImage l) where
  live_walk : {e : ℕ} {u : List ℕ} → e < head_elements l → Word (head_generators l) u → live l e u ≡ walk (image_step l) e u
  unfolding live
  live_walk he empty = refl
  live_walk {e} he (letter {g = g} {w = u} hg hu) =
      ap (λ (x : ℕ). live l x u) (walk_group_image l e (g ∷ []) I he (letter hg empty)) ∙ live_walk {e = image_step l e g} ((image_table I).closed he hg) hu

module _ (l : List ℕ) (B : Bytes l) (size : ℕ) (long : bytes_need (head_generators l) (head_elements l) ≤ size) (checked : image_number l size ≡ 0) where
  image : GroupImage l
  image = (number_exactly l B size long).0 checked

  -- The image's group: its elements are 0 to N-1, its right steps the image's; and a walk is a product in it.
  pub walk_in_group : (op : ℕ → ℕ → ℕ) × (inv : ℕ → ℕ) × GroupOn (head_elements l) op inv × RightSteps (head_generators l) (head_elements l) (image_step l) op
      × ((e : ℕ) (u : List ℕ) → e < head_elements l → Word (head_generators l) u → walk_number l e u ≡ op e (walk_number l 0 u))
  walk_in_group =
      let G = any_carrier.0 image.taken.group in (
        G.op,
        G.inv,
        G.group,
        G.steps,
        λ e u he hu.
            walk_group_image l e u image he hu ∙ walk_is_op G.group G.steps he hu
            ∙ ap (G.op e) (sym (walk_group_image l 0 u image (image_table image).origin hu)),
      )

  -- Two words with one product lead from every element to one: so whoever is behind may be sent any word for it.
  pub one_product : (e : ℕ) (u v : List ℕ) → e < head_elements l → Word (head_generators l) u → Word (head_generators l) v
      → walk_number l 0 u ≡ walk_number l 0 v → walk_number l e u ≡ walk_number l e v
  one_product e u v he hu hv q = let G = walk_in_group in G.4 e u he hu ∙ ap (G.0 e) q ∙ sym (G.4 e v he hv)

  -- Live turns one by one, and the element that is their product composed at once, end at one element.
  pub image_viewers : (table : List ℕ) (start : ℕ) (work : List ℕ) {f : Factor} {t w : List ℕ}
      → read_image l table start work ≡ making (Ok f) t w
      → (e : ℕ) (u : List ℕ) → e < head_elements l → Word (head_generators l) u → OneState l t f e u
  image_viewers table start work read e u he hu =
      let T = image_table image in
      let walked = walk_group_image l e u image he hu in
      let from-identity = walk_group_image l 0 u image T.origin hu in
      record {
        product = walk_number l 0 u;
        an_element = rw from-identity (walk_closed T T.origin hu);
        turned = refl;
        state = walk_number l e u;
        a_state = rw walked (walk_closed T he hu);
        live_lands = live_walk image he hu ∙ sym walked;
        walked_lands = refl;
        delayed_lands = ap reached_paper (walk_composes l B table start work read e u he hu);
      }
