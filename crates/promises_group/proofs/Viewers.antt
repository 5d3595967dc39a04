-- Live and delayed viewers land on one state in a product as well. Both answers are walks by the direct product's steps, and to walk is to multiply by what
-- the word spells.
use Prim.Native.Nat.{ℕ, ◌<◌}
use mathlib.Core.Path.{◌≡◌, refl, sym, ap, ◌∙◌, subst}
use mathlib.Core.List.{List, [], ◌∷◌}
use lib.ListN.{length}
use Rattle.egg.specs.declared.GroupElementId.{GroupElementId}
use Rattle.egg.specs.Answers.{fine}
use Rattle.egg.specs.Factor.{reached_paper}
use Rattle.theory.specs.Table.{Table}
use Rattle.theory.specs.Words.{Word, empty, letter, walk}
use Rattle.theory.proofs.Walking.{word_left, word_right, walk_append, walk_closed}
use Rattle.theory.proofs.Complete.{right_table, walk_is_op}
use Rattle.factor_laws.specs.Accepted.{reach}
use Rattle.factor_laws.specs.Papers.{value_paper}
use Rattle.promises.specs.Viewers.{identity, Batch, one_by_one, at_once, turns_of}
use Rattle.group_handles.specs.declared.Group.{Group}
use Rattle.factor_walk.specs.Walked.{letters_right}
use Rattle.factor_laws.proofs.Handles.{letters_fine}
use Rattle.group_handles.specs.Handles.{handles, elements_of, generators_of}
use Rattle.group_walk.specs.Walked.{follows}
use Rattle.group_walk.proofs.Admits.{walk_fine}
use Rattle.group.specs.Questions.{step_answer, walk_answer, compose_answer}
use Rattle.promises_group.specs.Products.{AcceptedProduct, direct, ProductAnswers}
use Rattle.promises_group.specs.Viewers.{live, gathered, watched, OneState}
use Rattle.promises_group.proofs.Parts.{all_fit_lem, parts_elements, parts_generators, steps_are}
use Rattle.promises_group.proofs.Answers.{product_answers}

module _ {t : List ℕ} {g : Group} (A : AcceptedProduct t g) where
  Q : ProductAnswers t g (direct t g)
  Q = product_answers A

  T : Table (direct t g).generators (direct t g).elements (direct t g).step
  T = right_table Q.group Q.right_steps

  step_walks : {e x : ℕ} → e < (direct t g).elements → x < (direct t g).generators
      → step_answer t g (record { 0 = e }) (record { 0 = x }) ≡ reach ((direct t g).step e x)
  step_walks he hx = Q.steps he hx ∙ ap reach (sym (Q.right_steps.step_is he hx))

  compose_turns : {e : ℕ} {u : List ℕ} → e < (direct t g).elements → Word (direct t g).generators u
      → compose_answer t g (record { 0 = e }) (record { 0 = walk (direct t g).step 0 u }) ≡ reach (walk (direct t g).step e u)
  compose_turns he hu = Q.composes he (walk_closed T Q.group.identity hu) ∙ ap reach (sym (walk_is_op Q.group Q.right_steps he hu))

  live_walk : {e : ℕ} {u : List ℕ} → e < (direct t g).elements → Word (direct t g).generators u
      → live t g (record { 0 = e }) u ≡ reach (walk (direct t g).step e u)
  live_walk he empty = refl
  live_walk {e = e} he (letter {g = x} {w = w} hx hu) = rw (step_walks he hx) (live_walk {e = (direct t g).step e x} (T.closed he hx) hu)

  gathered_walk : {e : ℕ} {u : List ℕ} → e < (direct t g).elements → Word (direct t g).generators u
      → gathered t g (record { 0 = e }) u ≡ reach (walk (direct t g).step e u)
  gathered_walk he empty = refl
  gathered_walk {e = e} he (letter {g = x} {w = w} hx hu) = rw (Q.generators hx, compose_turns he (letter hx empty)) (gathered_walk {e = (direct t g).step e x} (T.closed he hx) hu)

  -- One walk along all the turns.
  follows_walk : {e : ℕ} {u : List ℕ} → e < (direct t g).elements → Word (direct t g).generators u
      → follows t (handles g) e u ≡ reach (walk (direct t g).step e u)
  unfolding follows
  follows_walk he empty = refl
  follows_walk {e = e} he (letter {g = x} {w = w} hx hu) = rw (steps_are t A.factors _ _ he hx) (follows_walk {e = (direct t g).step e x} (T.closed he hx) hu)

  walk_turns : {e : ℕ} {u : List ℕ} → e < (direct t g).elements → Word (direct t g).generators u
      → walk_answer t g (record { 0 = e }) u ≡ reach (walk (direct t g).step e u)
  unfolding walk_answer
  walk_turns {e} {u} he hu =
      let start : e < elements_of (handles g) = subst (λ (n : ℕ). e < n) (parts_elements t (handles g)) he in
      let right : letters_right (generators_of (handles g)) u ≡ fine = subst (λ (n : ℕ). letters_right n u ≡ fine) (parts_generators t (handles g)) (letters_fine hu) in
      rw (sym (walk_fine (length t) g e u (all_fit_lem t A.factors) start refl right A.within)) (follows_walk he hu)

  -- One walk along the turns is the steps one after another.
  pub product_walk_is_steps : {e : ℕ} {u : List ℕ} → e < (direct t g).elements → Word (direct t g).generators u
      → walk_answer t g (record { 0 = e }) u ≡ live t g (record { 0 = e }) u
  product_walk_is_steps he hu = walk_turns he hu ∙ sym (live_walk he hu)

  pub product_viewers : {e : ℕ} {u : List ℕ} → e < (direct t g).elements → Word (direct t g).generators u → OneState t g (record { 0 = e }) u
  product_viewers {e} {u} he hu = record {
    product = record { 0 = walk (direct t g).step 0 u };
    turned = live_walk Q.group.identity hu;
    multiplied = gathered_walk Q.group.identity hu;
    state = record { 0 = walk (direct t g).step e u };
    live_lands = live_walk he hu;
    delayed_lands = compose_turns he hu;
    walk_turned = walk_turns Q.group.identity hu;
    walk_lands = walk_turns he hu;
  }

  -- On paper: no refusal, and this element, for both.
  pub product_viewers_on_paper : {e : ℕ} {u : List ℕ} → e < (direct t g).elements → Word (direct t g).generators u → (product : GroupElementId) × (state : ℕ)
      × (reached_paper (live t g identity u) ≡ value_paper product.0)
      × (reached_paper (live t g (record { 0 = e }) u) ≡ value_paper state)
      × (reached_paper (compose_answer t g (record { 0 = e }) product) ≡ value_paper state)
  product_viewers_on_paper he hu =
      let S = product_viewers he hu in
      (S.product, S.state.0, ap reached_paper S.turned, ap reached_paper S.live_lands, ap reached_paper S.delayed_lands)

  watched_walk : {e : ℕ} (l : List Batch) → e < (direct t g).elements → Word (direct t g).generators (turns_of l)
      → watched t g (record { 0 = e }) l ≡ reach (walk (direct t g).step e (turns_of l))
  watched_walk [] he hw = refl
  watched_walk {e} (one_by_one u ∷ l) he hw =
      let hu = word_left u (turns_of l) hw in
      rw (live_walk he hu, walk_append (direct t g).step e u (turns_of l)) (watched_walk {e = walk (direct t g).step e u} l (walk_closed T he hu) (word_right u (turns_of l) hw))
  watched_walk {e} (at_once u ∷ l) he hw =
      let hu = word_left u (turns_of l) hw in
      rw (gathered_walk Q.group.identity hu, compose_turns he hu, walk_append (direct t g).step e u (turns_of l))
      (watched_walk {e = walk (direct t g).step e u} l (walk_closed T he hu) (word_right u (turns_of l) hw))

  -- However often a viewer falls behind and catches up, he lands where the live viewer does.
  pub product_watched_lands : {e : ℕ} (l : List Batch) → e < (direct t g).elements → Word (direct t g).generators (turns_of l)
      → watched t g (record { 0 = e }) l ≡ live t g (record { 0 = e }) (turns_of l)
  product_watched_lands l he hw = watched_walk l he hw ∙ sym (live_walk he hw)
