-- If the table's steps are multiplication on the right in some group, the check passes, and the group is the one that `compose` describes.
use mathlib.Core.Path.{◌≡◌, ap, refl, sym, ◌∙◌}
use mathlib.Core.List.{List}
use Prim.Native.Nat.{ℕ, zero, suc, ◌<◌}
use lib.IntN.{ℤ, pos, negsuc}
use Rattle.theory.specs.Table.{Table, Columns}
use Rattle.theory.specs.Words.{Word, empty, letter, walk, Spelled}
use Rattle.theory.specs.Group.{GroupOn, RightSteps, conjugate, power, integer_power}
use Rattle.theory.specs.Regular.{compose, inverse, left, Check}
use Rattle.theory.proofs.GroupLaws.{cancel_left, cancel_right, inverse_unique, inv_inv, power_closed}
use Rattle.theory.proofs.Walking.{walk_closed, retrace_closed, walk_retrace}

module _ {n N : ℕ} {step op : ℕ → ℕ → ℕ} {inv : ℕ → ℕ} (G : GroupOn N op inv) (R : RightSteps n N step op) where
  -- The right steps of a group are a table.
  pub right_table : Table n N step
  right_table = record { origin = G.identity; closed = λ he hg. rw (R.step_is he hg) (G.op_closed he (R.element hg)) }

  -- To walk from a is to multiply on the right by what the word spells.
  pub walk_is_op : {a : ℕ} {w : List ℕ} → a < N → Word n w → walk step a w ≡ op a (walk step 0 w)
  walk_is_op a empty = sym (G.right_identity a)
  walk_is_op {a = x} a (letter {g = h} g w) =
      let s = R.element g in
      cc (walk_is_op {a = step x h} (right_table.closed a g) w, walk_is_op {a = step 0 h} s w, R.step_is a g, G.assoc a s (walk_closed right_table G.identity w))

  -- A generator fixes no element, unless it is the identity.
  pub no_fixed_point : {e g : ℕ} → e < N → g < n → step e g ≡ e → step 0 g ≡ 0
  no_fixed_point e g h = cancel_left G (R.element g) G.identity e (cc (R.step_is e g, G.right_identity e))

  -- The columns are injective.
  pub injective : {a b g : ℕ} → a < N → b < N → g < n → step a g ≡ step b g → a ≡ b
  injective a b g h = cancel_right G a b (R.element g) (cc (R.step_is a g, R.step_is b g))

  -- So the columns are permutations.
  pub columns : Columns n N step (λ e g. op e (inv (step 0 g)))
  columns = record {
    closed = λ e g. G.op_closed e (G.inv_closed (R.element g));
    step_back = λ e g.
        let s = R.element g in
        let i = G.inv_closed s in
        cc (R.step_is (G.op_closed e i) g, G.assoc e i s, G.left_inverse s, G.right_identity e);
    back_step = λ e g.
        let s = R.element g in
        cc (R.step_is e g, G.assoc e s (G.inv_closed s), G.right_inverse s, G.right_identity e);
  }

  -- Only the identity is led by g to the element of g.
  pub only_identity : {e g : ℕ} → e < N → g < n → step e g ≡ step 0 g → e ≡ 0
  only_identity e g h = injective e G.identity g h

  module _ {word : ℕ → List ℕ} (S : Spelled n N step word) where
    -- The walk composition is the group's operation.
    pub compose_is_op : {a b : ℕ} → a < N → b < N → compose step word a b ≡ op a b
    compose_is_op a b = cc (walk_is_op a (S.over b), S.spells b)

    pub power_is : {a : ℕ} → a < N → (k : ℕ) → power (compose step word) a k ≡ power op a k
    power_is a zero = refl
    power_is a (suc k) = cc (power_is a k, compose_is_op (power_closed G a k) a)

    -- The check passes.
    pub complete : Check n N step word
    complete = record { commutes = λ s g x. commutes s g x } where
      commutes : {s g x : ℕ} → s < n → g < n → x < N → left step word s (step x g) ≡ step (left step word s x) g
      commutes s g x =
          let s₀ = R.element s in
          let xg = right_table.closed x g in
          cc (compose_is_op s₀ xg, compose_is_op s₀ x, R.step_is (G.op_closed s₀ x) g, R.step_is x g, G.assoc s₀ x (R.element g))

    module _ {back : ℕ → ℕ → ℕ} (B : Columns n N step back) where
      -- The inverse by the reversed word is the group's, so that refusal 10 is not given.
      pub inverse_is_inv : {a : ℕ} → a < N → inverse back word a ≡ inv a
      inverse_is_inv a =
          let i = retrace_closed B G.identity (S.over a) in
          inverse_unique G a i (cc (compose_is_op i a, walk_retrace B G.identity (S.over a)))

      pub inverse_involution : {a : ℕ} → a < N → inverse back word (inverse back word a) ≡ a
      inverse_involution a = cc (inverse_is_inv a, inverse_is_inv (G.inv_closed a), inv_inv G a)

      -- Conjugates and powers by composing are the group's.
      pub conjugate_is : {a b : ℕ} → a < N → b < N → conjugate (compose step word) (inverse back word) a b ≡ conjugate op inv a b
      conjugate_is a b = cc (compose_is_op a b, compose_is_op (G.op_closed a b) (G.inv_closed a), inverse_is_inv a)

      pub integer_power_is : {a : ℕ} → a < N → (z : ℤ) → integer_power (compose step word) (inverse back word) a z ≡ integer_power op inv a z
      integer_power_is a (pos k) = power_is a k
      integer_power_is a (negsuc k) = ap (λ x. power (compose step word) x (suc k)) (inverse_is_inv a) ∙ power_is (G.inv_closed a) (suc k)
