-- If the check passes, the composition is a group's, and the table's steps are multiplication on the right.
use mathlib.Core.Path.{◌≡◌, refl, sym, ap}
use mathlib.Core.List.{List, ◌∷◌, ◌++◌}
use Prim.Native.Nat.{ℕ, ◌<◌}
use Rattle.theory.specs.Table.{Table, Columns}
use Rattle.theory.specs.Words.{Word, empty, letter, walk, Spelled}
use Rattle.theory.specs.Group.{GroupOn, RightSteps}
use Rattle.theory.specs.Regular.{compose, inverse, left, Check}
use Rattle.theory.proofs.Walking.{word_append, walk_append, walk_closed, retrace_closed, walk_retrace}

module _ {n N : ℕ} {step : ℕ → ℕ → ℕ} {word : ℕ → List ℕ} (T : Table n N step) (S : Spelled n N step word) (C : Check n N step word) where
  -- Multiplication on the left by a generator commutes with every walk.
  left_walk_lem : {s x : ℕ} {v : List ℕ} → s < n → x < N → Word n v → left step word s (walk step x v) ≡ walk step (left step word s x) v
  left_walk_lem s x empty = refl
  left_walk_lem {x = y} s x (letter {g = h} g v) = rw (← C.commutes s g x) (left_walk_lem {x = step y h} s (T.closed x g) v)

  left_spells : {s : ℕ} {u : List ℕ} → s < n → Word n u → left step word s (walk step 0 u) ≡ walk step 0 (s ∷ u)
  left_spells s u = rw S.start at (left_walk_lem s T.origin u)

  -- So where a word leads from any element depends only on where it leads from 0.
  walk_depends : {u v w : List ℕ} → Word n u → Word n v → Word n w → walk step 0 v ≡ walk step 0 w
      → walk step (walk step 0 u) v ≡ walk step (walk step 0 u) w
  walk_depends empty v w e = e
  walk_depends (letter s u) v w e =
      let x = walk_closed T T.origin u in
      rw (← left_spells s u, ← left_walk_lem s x v, ← left_walk_lem s x w) (ap (left step word _) (walk_depends u v w e))

  -- To compose a with what v spells is to walk along v from a.
  pub compose_walk : {a : ℕ} {v : List ℕ} → a < N → Word n v → compose step word a (walk step 0 v) ≡ walk step a v
  compose_walk a v =
      let b = walk_closed T T.origin v in
      rw (S.spells a) at (walk_depends (S.over a) (S.over b) v (S.spells b))

  -- Composing what two words reach reaches what the joined word reaches.
  pub compose_words : {u v : List ℕ} → Word n u → Word n v → compose step word (walk step 0 u) (walk step 0 v) ≡ walk step 0 (u ++ v)
  compose_words u v = rw walk_append (compose_walk (walk_closed T T.origin u) v)

  compose_closed : {a b : ℕ} → a < N → b < N → compose step word a b < N
  compose_closed a b = walk_closed T a (S.over b)

  compose_assoc : {a b c : ℕ} → a < N → b < N → c < N
      → compose step word (compose step word a b) c ≡ compose step word a (compose step word b c)
  compose_assoc a b c = sym (simp (walk_append, S.spells b) at (compose_walk a (word_append (S.over b) (S.over c))))

  -- The steps are that group's right steps.
  pub sound_steps : RightSteps n N step (compose step word)
  sound_steps = record { element = T.closed T.origin; step_is = λ e g. sym (compose_walk e (letter g empty)) }

  module _ {back : ℕ → ℕ → ℕ} (B : Columns n N step back) where
    inverse_closed : {a : ℕ} → a < N → inverse back word a < N
    inverse_closed a = retrace_closed B T.origin (S.over a)

    left_inverse : {a : ℕ} → a < N → compose step word (inverse back word a) a ≡ 0
    left_inverse a = walk_retrace B T.origin (S.over a)

    -- With i for the inverse of a and j for that of i: a·i = (j·i)·(a·i) = j·((i·a)·i) = j·i.
    right_inverse : {a : ℕ} → a < N → compose step word a (inverse back word a) ≡ 0
    right_inverse a =
        let i = inverse_closed a in
        let j = inverse_closed i in
        let ai = compose_closed a i in
        cc (S.spells ai, S.spells i, left_inverse a, left_inverse i, compose_assoc j i ai, compose_assoc i a i)

    -- The composition and the inverse are a group's.
    pub sound : GroupOn N (compose step word) (inverse back word)
    sound = record {
      identity = T.origin;
      op_closed = compose_closed;
      inv_closed = inverse_closed;
      assoc = compose_assoc;
      left_identity = S.spells;
      right_identity = λ a. rw S.start;
      left_inverse = left_inverse;
      right_inverse = right_inverse;
    }
