-- One read step, and the walk along a recorded word, forward and back, are the table's own.
use Prim.Native.Nat.{ℕ, zero, suc, ◌/◌, ◌≤◌, ◌<◌}
use mathlib.Core.Bool.{Bool, true, false}
use mathlib.Core.Path.{◌≡◌, refl, sym, ap, ◌∙◌}
use mathlib.Core.List.{List, [], ◌∷◌}
use native.Mathlib.Omega.{arith}
use borrow.Author.Tests.{lt-ltb, le-ltb, lt-leb}
use lib.Dec.{ltb, leb}
use lib.ListN.{length}
use Rattle.egg.specs.Table.{pick, parent_of, hop_of, last_of, length_of, step_of, back_of}
use Rattle.egg.specs.Answers.{Reached}
use Rattle.factor_word_walks.proofs.Walks.{back_element}
use Rattle.factor_word_letters.specs.Spell.{cell_by, cell_within, readable_by, readable, letters_by, letters}
use Rattle.factor_questions.specs.Walks.{follow, along, read_step_back, back_by, back_along, compose_in, inverse_in, conjugate_in, generator_in}
use Rattle.build_word_cells.specs.Hops.{hop_from, Hops}
use Rattle.build_word_cells.proofs.Hops.{hop_element, hop_letter, hop_before}
use Rattle.theory.specs.Words.{Word, empty, letter, walk, retrace}
use Rattle.theory.specs.Regular.{compose, inverse}
use Rattle.theory.specs.Group.{GroupOn, conjugate}
use Rattle.theory.proofs.Walking.{retrace_closed, walk_retrace}
use Rattle.theory.proofs.GroupLaws.{inverse_unique, inv_inv}
use Rattle.theory.proofs.Recording.{retrace_grow, length_grow}
use Rattle.build_checks_laws.specs.Stored.{word_of}
use Rattle.build_checks_laws.specs.Sound.{Sound, Ruled}
use Rattle.build_checks_laws.proofs.Accepted.{sound_group, read_step_lem}
use Rattle.factor_laws.specs.Accepted.{reach}

pub no_letters : (w : List ℕ) → 0 ≡ length w → w ≡ []
no_letters [] q = refl
no_letters (g ∷ w) q = absurd (omega arith)

either : {x y z : Reached} (v : Bool) → (v ≡ true → x ≡ z) → y ≡ z → pick v x y ≡ z
either true p q = p refl
either false p q = q

-- What has b's inverse as its product with a is the inverse of a·b.
inverse_of_rest : {N : ℕ} {op : ℕ → ℕ → ℕ} {inv : ℕ → ℕ} (G : GroupOn N op inv) {x a b : ℕ} → x < N → a < N → b < N → op x a ≡ inv b → inv x ≡ op a b
inverse_of_rest {N} {op} {inv} G {x} {a} {b} hx ha hb e =
    let one : op x (op a b) ≡ 0 = sym (G.assoc hx ha hb) ∙ ap (λ (y : ℕ). op y b) e ∙ G.left_inverse hb in
    ap inv (inverse_unique G (G.op_closed ha hb) hx one) ∙ inv_inv G (G.op_closed ha hb)

-- What an element's row has above its last letter: the letters before it.
pub rest_of : {s : List ℕ} {n N e : ℕ} → Hops s n N → e < N → hop_of s n e / 8 ≡ hop_from 4 s n (parent_of s n e)
rest_of {s} {n} {e = e} H he = ap (λ (c : ℕ). c / 8) (H.five he) ∙ hop_before 4 s n e

module _ {s : List ℕ} {n N : ℕ} (S : Sound s n N) where
  -- An element with a letter in its word is not the identity.
  pub not_first : (e : ℕ) {k : ℕ} → suc k ≡ length (word_of s n e) → 0 < e
  not_first zero q = absurd (omega (arith, ap length S.recorded.start))
  not_first (suc e) q = omega arith

  -- The parent's word has one letter less.
  pub parent_length : {e k : ℕ} → 0 < e → e < N → suc k ≡ length (word_of s n e) → k ≡ length (word_of s n (parent_of s n e))
  parent_length pos he q = omega (arith, length_grow S.recorded pos he)

  pub parent_below : {e : ℕ} → 0 < e → e < N → parent_of s n e < N
  parent_below pos he = let up = S.parents.earlier pos he in omega arith

  -- Along a list of generators.
  pub follow_word : {a : ℕ} {w : List ℕ} → a < N → Word n w → follow s n N a w ≡ reach (walk (step_of s n) a w)
  unfolding follow
  follow_word ha empty = refl
  follow_word {a = a} ha (letter {g = g} {w = w'} hg w) = rw (read_step_lem S ha hg) (follow_word {a = step_of s n a g} (S.table.closed ha hg) w)

  pub read_back : {e g : ℕ} → e < N → g < n → read_step_back s n N e g ≡ reach (back_of s n e g)
  read_back {e} {g} he hg =
      let q = S.stored.predecessor he hg in
      sym (back_element s n N e g refl (omega arith) (omega (arith, S.columns.closed he hg)))

  pub inverse_in_lem : {a : ℕ} → a < N → inverse_in s n N a ≡ reach (inverse (back_of s n) (word_of s n) a)
  unfolding inverse_in
  inverse_in_lem {a} ha =
      let small : inverse (back_of s n) (word_of s n) a < N = (sound_group S).inv_closed ha in
      simp (S.inverses ha, lt-leb _ _ small)

  pub generator_in_lem : {g : ℕ} → g < n → generator_in s n N g ≡ reach (suc g)
  unfolding generator_in
  generator_in_lem {g} hg = simp (lt-leb _ _ hg, read_step_lem S S.table.origin hg, S.identity_row_lem hg)

  -- Back along the word of b's inverse is to b's product: going forward along it again leads to a.
  pub back_is_product : {a b : ℕ} → a < N → b < N
      → retrace (back_of s n) a (word_of s n (inverse (back_of s n) (word_of s n) b)) ≡ compose (step_of s n) (word_of s n) a b
  back_is_product {a} {b} ha hb =
      let G = sound_group S in
      let i = G.inv_closed hb in
      let over = S.spelled.over i in
      let y = retrace_closed S.columns ha over in
      let forth : compose (step_of s n) (word_of s n) (retrace (back_of s n) a (word_of s n (inverse (back_of s n) (word_of s n) b))) (inverse (back_of s n) (word_of s n) b) ≡ a
      = walk_retrace S.columns ha over in
      cc (forth, G.assoc y i hb, G.left_inverse hb, G.right_identity y)

  -- Back along the word of a from b's inverse is to the inverse of the product: going forward along it again leads to b's inverse.
  pub back_is_inverse : {a b : ℕ} → a < N → b < N
      → inverse (back_of s n) (word_of s n) (retrace (back_of s n) (inverse (back_of s n) (word_of s n) b) (word_of s n a)) ≡ compose (step_of s n) (word_of s n) a b
  back_is_inverse {a} {b} ha hb =
      let G = sound_group S in
      let i = G.inv_closed hb in
      let over = S.spelled.over ha in
      let y = retrace_closed S.columns i over in
      let forth : compose (step_of s n) (word_of s n) (retrace (back_of s n) (inverse (back_of s n) (word_of s n) b) (word_of s n a)) a ≡ inverse (back_of s n) (word_of s n) b
      = walk_retrace S.columns i over in
      inverse_of_rest G y ha hb forth

  -- Where the rows have five letters each, and nothing before a word's first.
  module _ (R : Ruled s n N) (H : Hops s n N) (few : N ≤ 65535) where
    last_below : (e : ℕ) → 0 < n → e < N → last_of s n e < n
    last_below zero hn he = rw R.no_last hn
    last_below (suc e) hn he = S.parents.generator (omega arith) he

    up_below : (e : ℕ) → e < N → parent_of s n e < N
    up_below zero he = rw R.no_parent he
    up_below (suc e) he = parent_below (omega arith) he

    -- Every cell of letters is in range as a whole.
    cell_by_lem : (j : ℕ) {e : ℕ} → 0 < n → e < N → cell_by j n N (hop_from j s n e) ≡ true
    cell_by_lem zero {e} hn he = rw (hop_element s n e (omega arith)) (lt-ltb _ _ he)
    cell_by_lem (suc j) {e} hn he = rw (hop_letter j s n e, hop_before j s n e, lt-ltb (last_of s n e) n (last_below e hn he)) (cell_by_lem j hn (up_below e he))

    row_within : {e g : ℕ} → g < n → e < N → cell_within n N (hop_of s n e) ≡ true
    row_within hg he = ap (λ (c : ℕ). cell_within n N c) (H.five he) ∙ cell_by_lem 5 (omega arith) he

    readable_by_lem : (k j : ℕ) {e : ℕ} → e < N → k ≡ length (word_of s n e) → readable_by k j s n N (hop_from j s n e) ≡ true
    unfolding readable_by
    readable_by_lem zero j he q = refl
    readable_by_lem (suc k) zero {e} he q =
        let pos = not_first e q in
        rw (hop_element s n e (omega arith), lt-ltb e N he, row_within (S.parents.generator pos he) he, rest_of H he)
        (readable_by_lem k 4 (parent_below pos he) (parent_length pos he q))
    readable_by_lem (suc k) (suc j) {e} he q =
        let pos = not_first e q in
        rw (hop_before j s n e) (readable_by_lem k j (parent_below pos he) (parent_length pos he q))

    pub word_readable : (k : ℕ) {e : ℕ} → e < N → k ≡ length (word_of s n e) → readable k s n N e ≡ true
    word_readable k {e} he q = rw (hop_element s n e (omega arith)) at (readable_by_lem k 0 he q)

    -- The letters that stand there are those of the word.
    letters_by_lem : (k j : ℕ) {e : ℕ} → e < N → k ≡ length (word_of s n e) → letters_by k j s n (hop_from j s n e) ≡ word_of s n e
    unfolding letters_by
    letters_by_lem zero j {e} he q = sym (no_letters (word_of s n e) q)
    letters_by_lem (suc k) zero {e} he q =
        let pos = not_first e q in
        rw (hop_element s n e (omega arith), rest_of H he, letters_by_lem k 4 (parent_below pos he) (parent_length pos he q)) (sym (S.recorded.grow pos he))
    letters_by_lem (suc k) (suc j) {e} he q =
        let pos = not_first e q in
        rw (hop_letter j s n e, hop_before j s n e, letters_by_lem k j (parent_below pos he) (parent_length pos he q)) (sym (S.recorded.grow pos he))

    word_letters : (k : ℕ) {e : ℕ} → e < N → k ≡ length (word_of s n e) → letters k s n e ≡ word_of s n e
    word_letters k {e} he q = rw (hop_element s n e (omega arith)) at (letters_by_lem k 0 he q)

    along_word : (k a : ℕ) {e : ℕ} → a < N → e < N → k ≡ length (word_of s n e) → along k s n N a e ≡ reach (walk (step_of s n) a (word_of s n e))
    unfolding along
    along_word k a {e} ha he q = rw (word_readable k he q, word_letters k he q) (follow_word ha (S.spelled.over he))

    -- Back along a word of which j letters stand in the number at hand.
    back_by_lem : (k j a : ℕ) {e : ℕ} → a < N → e < N → k ≡ length (word_of s n e)
        → back_by k j s n N a (hop_from j s n e) ≡ reach (retrace (back_of s n) a (word_of s n e))
    unfolding back_by
    back_by_lem zero j a {e} ha he q = rw (no_letters (word_of s n e) q)
    back_by_lem (suc k) zero a {e} ha he q =
        let pos = not_first e q in
        let last = S.parents.generator pos he in
        rw (
          hop_element s n e (omega arith),
          lt-leb N e he,
          row_within last he,
          read_back ha last,
          rest_of H he,
          back_by_lem k 4 (back_of s n a (last_of s n e)) (S.columns.closed ha last) (parent_below pos he) (parent_length pos he q),
        )
        (ap reach (sym (retrace_grow S.recorded (back_of s n) a pos he)))
    back_by_lem (suc k) (suc j) a {e} ha he q =
        let pos = not_first e q in
        let last = S.parents.generator pos he in
        rw (hop_letter j s n e, hop_before j s n e)
        (simp (
          read_back ha last,
          back_by_lem k j (back_of s n a (last_of s n e)) (S.columns.closed ha last) (parent_below pos he) (parent_length pos he q),
        )
        (ap reach (sym (retrace_grow S.recorded (back_of s n) a pos he))))

    pub back_word : (k a : ℕ) {e : ℕ} → a < N → e < N → k ≡ length (word_of s n e)
        → back_along k s n N a e ≡ reach (retrace (back_of s n) a (word_of s n e))
    back_word k a {e} ha he q = rw (hop_element s n e (omega arith)) at (back_by_lem k 0 a ha he q)

    -- Forward where five letters are enough, and otherwise the three other ways.
    pub compose_in_lem : {a b : ℕ} → a < N → b < N → compose_in s n N a b ≡ reach (compose (step_of s n) (word_of s n) a b)
    unfolding compose_in
    compose_in_lem {a} {b} ha hb =
        let small : inverse (back_of s n) (word_of s n) b < N = (sound_group S).inv_closed hb in
        let rest : retrace (back_of s n) (inverse (back_of s n) (word_of s n) b) (word_of s n a) < N = retrace_closed S.columns small (S.spelled.over ha) in
        either (leb (length_of s n b) 5) (λ h. along_word (length_of s n b) a ha hb (S.stored.lengths hb))
        (simp (le-ltb _ _ (S.short hb), S.inverses hb, lt-leb _ _ small)
        (either (ltb (length_of s n a) (length_of s n b))
        (λ h. rw (back_word (length_of s n a) (inverse (back_of s n) (word_of s n) b) small ha (S.stored.lengths ha)) (inverse_in_lem rest ∙ ap reach (back_is_inverse ha hb)))
        (simp (le-ltb _ _ (S.short ha), le-ltb _ _ (S.short small))
        (either (ltb (length_of s n b) (length_of s n (inverse (back_of s n) (word_of s n) b))) (λ h. along_word (length_of s n b) a ha hb (S.stored.lengths hb))
        (back_word (length_of s n (inverse (back_of s n) (word_of s n) b)) a ha small (S.stored.lengths small) ∙ ap reach (back_is_product ha hb))))))

    pub conjugate_in_lem : {a b : ℕ} → a < N → b < N
        → conjugate_in s n N a b ≡ reach (conjugate (compose (step_of s n) (word_of s n)) (inverse (back_of s n) (word_of s n)) a b)
    unfolding conjugate_in
    conjugate_in_lem {a} {b} ha hb =
        let G = sound_group S in
        simp (compose_in_lem ha hb, inverse_in_lem ha) (compose_in_lem (G.op_closed ha hb) (G.inv_closed ha))
