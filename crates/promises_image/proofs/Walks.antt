-- A word walked on a group's image is theory's walk along its steps; and in the factor that is read from the image it is the product of the start with the
-- element that the word reaches from the identity: live turns and the catch-up product land on one state.
use Prim.Native.Nat.{ℕ, ◌+◌, ◌≤◌, ◌<◌}
use mathlib.Core.Path.{◌≡◌, refl, sym, ap, ◌∙◌}
use mathlib.Core.Bool.{Bool, true, false}
use mathlib.Core.List.{List, [], ◌∷◌}
use borrow.Author.Tests.{eq-eqb, ne_eqb, le-leb, lt-leb, lt-ltb, ltb-true}
use lib.Dec.{ltb}
use lib.ListN.{drop}
use Rattle.egg.specs.declared.Factor.{Factor}
use Rattle.std.specs.Prelude.{Ok}
use Rattle.egg.specs.Table.{pick}
use Rattle.egg.proofs.Rooms.{and_first, and_second}
use Rattle.build_lending.specs.Lending.{making}
use Rattle.build_reading.specs.Reading.{composed_at}
use Rattle.factor.specs.Questions.{compose_answer}
use Rattle.image_cells.specs.Cells.{halves}
use Rattle.theory.specs.Table.{Table}
use Rattle.theory.specs.Words.{Word, empty, letter, walk}
use Rattle.theory.proofs.Counting.{numbered_table}
use Rattle.theory.proofs.Complete.{walk_is_op}
use Rattle.theory.proofs.Walking.{walk_closed, walk_agree}
use Rattle.build_checks_laws.proofs.Accepted.{sound_group, sound_right_steps}
use Rattle.factor_laws.specs.Accepted.{factor_step, reach}
use Rattle.factor_laws.proofs.Handles.{compose_answer_lem}
use Rattle.image.specs.Image.{head_generators, head_elements, head_number}
use Rattle.image.specs.Read.{read_image}
use Rattle.image_walk.specs.Walked.{letters_below, follow_rows}
use Rattle.image.specs.Walked.{walk_number}
use Rattle.promises_image.specs.Images.{Bytes, image_step, WellFormed, GroupImage}
use Rattle.promises_image.proofs.Heads.{formed_head}
use Rattle.promises_image.proofs.Back.{read_given}

-- The letters' test is the word's.
letters_to : (n : ℕ) (w : List ℕ) → letters_below n w ≡ true → Word n w
unfolding letters_below
letters_to n [] h = empty
letters_to n (g ∷ w) h = letter (ltb-true g n (and_first (ltb g n) _ h)) (letters_to n w (and_second (ltb g n) _ h))

letters_from : {n : ℕ} {w : List ℕ} → Word n w → letters_below n w ≡ true
unfolding letters_below
letters_from empty = refl
letters_from (letter h w) = simp (lt-ltb _ _ h) (letters_from w)

follow_walk : (rows : List ℕ) (n N : ℕ) → Table n N (composed_at rows n) → {e : ℕ} {w : List ℕ} → e < N → Word n w
    → follow_rows rows n N e w ≡ walk (composed_at rows n) e w
unfolding follow_rows
follow_walk rows n N T he empty = refl
follow_walk rows n N T {e = e} he (letter {g = g} {w = w'} hg w) = simp (lt-leb _ _ (T.closed he hg)) (follow_walk rows n N T {e = composed_at rows n e g} (T.closed he hg) w)

pub image_table : {l : List ℕ} → GroupImage l → Table (head_generators l) (head_elements l) (image_step l)
image_table S = numbered_table S.taken.readable.by_rule

module _ (l : List ℕ) where
  -- A bad head, then 14 for the start, then 14 for a letter.
  pub walk_head : (start : ℕ) (word : List ℕ) → (head_number l ≡ 0 → ⊥) → walk_number l start word ≡ 65536 + head_number l
  unfolding walk_number
  walk_head start word d = simp (ne_eqb _ _ d)

  pub walk_start : (start : ℕ) (word : List ℕ) → WellFormed l → head_elements l ≤ start → walk_number l start word ≡ 65536 + 14
  unfolding walk_number
  walk_start start word F h = let z = formed_head l F in simp (eq-eqb _ _ z, le-leb _ _ h)

  pub walk_letter : (start : ℕ) (word : List ℕ) → WellFormed l → start < head_elements l → ¬ Word (head_generators l) word → walk_number l start word ≡ 65536 + 14
  unfolding walk_number
  walk_letter start word F h none = let z = formed_head l F in simp (eq-eqb _ _ z, lt-leb _ _ h) (by (letters_below (head_generators l) word) refl) where
    by : (b : Bool) → letters_below (head_generators l) word ≡ b
        → pick b (follow_rows (halves (drop 8 l)) (head_generators l) (head_elements l) start word) 65550 ≡ 65536 + 14
    by true e = absurd (none (letters_to (head_generators l) word e))
    by false e = refl

  -- And on a group's image the walk along its steps: no other number is given.
  pub walk_group_image : (start : ℕ) (word : List ℕ) → GroupImage l → start < head_elements l → Word (head_generators l) word
      → walk_number l start word ≡ walk (image_step l) start word
  unfolding walk_number
  walk_group_image start word S h w =
      let z = formed_head l S.formed in
      simp (eq-eqb _ _ z, lt-leb _ _ h, letters_from w) (follow_walk (halves (drop 8 l)) (head_generators l) (head_elements l) (image_table S) h w)

-- In the factor that was read, the walk from an element is the product of the element with what the word reaches from the identity.
module _ (l : List ℕ) (B : Bytes l) (table : List ℕ) (start : ℕ) (work : List ℕ) {f : Factor} {t w : List ℕ}
    (q : read_image l table start work ≡ making (Ok f) t w) where
  pub walk_composes : (from : ℕ) (word : List ℕ) → from < head_elements l → Word (head_generators l) word
      → compose_answer t f (record { 0 = from }) (record { 0 = walk_number l 0 word }) ≡ reach (walk_number l from word)
  walk_composes from word h ws =
      let g = read_given l B table start work q in
      let G = g.1 in
      let A = G.accepted in
      let S = A.sound in
      let T = image_table g.0 in
      let gens : head_generators l ≡ f.generators = sym (ap (λ (x : Factor). x.generators) G.handle) in
      let ws' : Word f.generators word = rw gens at ws in
      let h' : from < f.elements = rw g.2 h in
      let same : (e x : ℕ) → e < f.elements → x < f.generators → image_step l e x ≡ factor_step t f e x = λ e x he hx. sym (G.steps he (rw gens hx)) in
      let zero_in : 0 < head_elements l = T.origin in
      let here : walk_number l 0 word ≡ walk (factor_step t f) 0 word
      = walk_group_image l 0 word g.0 zero_in ws ∙ walk_agree S.table same S.table.origin ws' in
      let there : walk_number l from word ≡ walk (factor_step t f) from word = walk_group_image l from word g.0 h ws ∙ walk_agree S.table same h' ws' in
      let b : walk (factor_step t f) 0 word < f.elements = walk_closed S.table S.table.origin ws' in
      ap (λ (x : ℕ). compose_answer t f (record { 0 = from }) (record { 0 = x })) here
      ∙ compose_answer_lem A h' b
      ∙ ap reach (sym (walk_is_op (sound_group S) (sound_right_steps S) h' ws') ∙ sym there)
