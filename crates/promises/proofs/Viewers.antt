-- Live and delayed viewers land on one state. Both answers are walks in the factor's table; that composing is walking along any word which reaches the second
-- is what check 12 decides.
use Prim.Native.Nat.{ℕ, ◌<◌}
use mathlib.Core.Path.{◌≡◌, refl, sym, ap, ◌∙◌}
use mathlib.Core.List.{List, [], ◌∷◌}
use Rattle.egg.specs.declared.Factor.{Factor}
use Rattle.egg.specs.declared.GroupElementId.{GroupElementId}
use Rattle.egg.specs.Factor.{reached_paper}
use Rattle.factor.specs.Questions.{compose_answer, walk_answer}
use Rattle.theory.specs.Words.{Word, empty, letter, walk}
use Rattle.theory.proofs.Walking.{word_left, word_right, walk_append, walk_closed}
use Rattle.theory.proofs.Sound.{compose_walk}
use Rattle.factor_laws.specs.Accepted.{Accepted, factor_step, reach}
use Rattle.factor_laws.specs.Papers.{value_paper}
use Rattle.factor_laws.proofs.Handles.{step_answer_lem, walk_answer_lem, compose_answer_lem, generator_answer_lem}
use Rattle.promises.specs.Viewers.{live, gathered, identity, OneState, Batch, one_by_one, at_once, turns_of, watched}

module _ {t : List ℕ} {f : Factor} (A : Accepted t f) where
  -- Composing with the element that a word reaches is walking along the word.
  compose_turns : {e : ℕ} {u : List ℕ} → e < f.elements → Word f.generators u
      → compose_answer t f (record { 0 = e }) (record { 0 = walk (factor_step t f) 0 u }) ≡ reach (walk (factor_step t f) e u)
  compose_turns he hu =
      compose_answer_lem A he (walk_closed A.sound.table A.sound.table.origin hu)
      ∙ ap reach (compose_walk A.sound.table A.sound.spelled A.sound.check he hu)

  live_walk : {e : ℕ} {u : List ℕ} → e < f.elements → Word f.generators u → live t f (record { 0 = e }) u ≡ reach (walk (factor_step t f) e u)
  live_walk he empty = refl
  live_walk {e = e} he (letter {g = g} {w = w} hg hu) =
      rw (step_answer_lem A he hg) (live_walk {e = factor_step t f e g} (A.sound.table.closed he hg) hu)

  gathered_walk : {e : ℕ} {u : List ℕ} → e < f.elements → Word f.generators u → gathered t f (record { 0 = e }) u ≡ reach (walk (factor_step t f) e u)
  gathered_walk he empty = refl
  gathered_walk {e = e} he (letter {g = g} {w = w} hg hu) =
      rw (generator_answer_lem A hg, ← A.sound.identity_row_lem hg, compose_turns he (letter hg empty))
      (gathered_walk {e = factor_step t f e g} (A.sound.table.closed he hg) hu)

  pub viewers : {e : ℕ} {u : List ℕ} → e < f.elements → Word f.generators u → OneState t f (record { 0 = e }) u
  viewers {e} {u} he hu = record {
    product = record { 0 = walk (factor_step t f) 0 u };
    turned = live_walk A.sound.table.origin hu;
    multiplied = gathered_walk A.sound.table.origin hu;
    state = record { 0 = walk (factor_step t f) e u };
    live_lands = live_walk he hu;
    delayed_lands = compose_turns he hu;
    walk_turned = walk_answer_lem A A.sound.table.origin hu;
    walk_lands = walk_answer_lem A he hu;
  }

  -- One walk along the turns is the steps one after another.
  pub walk_is_steps : {e : ℕ} {u : List ℕ} → e < f.elements → Word f.generators u → walk_answer t f (record { 0 = e }) u ≡ live t f (record { 0 = e }) u
  walk_is_steps he hu = walk_answer_lem A he hu ∙ sym (live_walk he hu)

  -- On paper: no refusal, and this element, for both.
  pub viewers_on_paper : {e : ℕ} {u : List ℕ} → e < f.elements → Word f.generators u → (product : GroupElementId) × (state : ℕ)
      × (reached_paper (live t f identity u) ≡ value_paper product.0)
      × (reached_paper (live t f (record { 0 = e }) u) ≡ value_paper state)
      × (reached_paper (compose_answer t f (record { 0 = e }) product) ≡ value_paper state)
  viewers_on_paper he hu =
      let S = viewers he hu in
      (S.product, S.state.0, ap reached_paper S.turned, ap reached_paper S.live_lands, ap reached_paper S.delayed_lands)

  watched_walk : {e : ℕ} (l : List Batch) → e < f.elements → Word f.generators (turns_of l)
      → watched t f (record { 0 = e }) l ≡ reach (walk (factor_step t f) e (turns_of l))
  watched_walk [] he hw = refl
  watched_walk {e} (one_by_one u ∷ l) he hw =
      let hu = word_left u (turns_of l) hw in
      rw (live_walk he hu, walk_append (factor_step t f) e u (turns_of l)) (watched_walk {e = walk (factor_step t f) e u} l (walk_closed A.sound.table he hu) (word_right u (turns_of l) hw))
  watched_walk {e} (at_once u ∷ l) he hw =
      let hu = word_left u (turns_of l) hw in
      rw (gathered_walk A.sound.table.origin hu, compose_turns he hu, walk_append (factor_step t f) e u (turns_of l))
      (watched_walk {e = walk (factor_step t f) e u} l (walk_closed A.sound.table he hu) (word_right u (turns_of l) hw))

  -- However often a viewer falls behind and catches up, he lands where the live viewer does.
  pub watched_lands : {e : ℕ} (l : List Batch) → e < f.elements → Word f.generators (turns_of l)
      → watched t f (record { 0 = e }) l ≡ live t f (record { 0 = e }) (turns_of l)
  watched_lands l he hw = watched_walk l he hw ∙ sym (live_walk he hw)
