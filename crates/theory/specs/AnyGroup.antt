-- Groups on any type of elements, and the tables that are such a group with its elements numbered. "Some group" in a promise means any group at all,
-- so it is stated with these and not with the groups on numbers of Group.antt.
use Rattle.std.specs.Prelude.{◌≡◌, List, [], ◌∷◌, ℕ, ◌<◌}

-- The textbook's group, on the elements of a type.
pub record GroupOver (A : Type 0) : Type 0 where
  pub op : A → A → A
  pub unit : A
  pub inv : A → A
  pub assoc : (a b c : A) → op (op a b) c ≡ op a (op b c)
  pub left_unit : (a : A) → op unit a ≡ a
  pub right_unit : (a : A) → op a unit ≡ a
  pub left_inverse : (a : A) → op (inv a) a ≡ unit
  pub right_inverse : (a : A) → op a (inv a) ≡ unit

-- The group's elements are numbered 0 .. N-1, each once, and the identity is 0: `num` gives an element's number, `elt` the element that has a number,
-- and they undo each other.
pub record Numbers {A : Type 0} (G : GroupOver A) (N : ℕ) : Type 0 where
  pub num : A → ℕ
  pub elt : ℕ → A
  pub num_below : (a : A) → num a < N
  pub elt_num : (a : A) → elt (num a) ≡ a
  pub num_elt : {e : ℕ} → e < N → num (elt e) ≡ e
  pub num_unit : num G.unit ≡ 0

-- The table has the right steps of some group: a step by g is multiplication on the right by an element `gen g` of it. Refusal 12 is "no group has
-- these right steps".
pub record SomeGroup (n N : ℕ) (step : ℕ → ℕ → ℕ) : Type 1 where
  pub Carrier : Type 0
  pub group : GroupOver Carrier
  pub numbers : Numbers group N
  pub gen : ℕ → Carrier
  pub steps : {e g : ℕ} → e < N → g < n → step e g ≡ numbers.num (group.op (numbers.elt e) (gen g))

-- What a word multiplies to, with an element of the group for each letter.
abbrev pub word_product : {A : Type 0} → GroupOver A → (ℕ → A) → List ℕ → A
word_product G gen [] = G.unit
word_product G gen (g ∷ w) = G.op (gen g) (word_product G gen w)
