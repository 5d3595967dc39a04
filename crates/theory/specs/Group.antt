-- Groups on the numbers 0 .. N-1 with identity 0, and the tables that are right multiplication by the generators.
use Rattle.std.specs.Prelude.{◌≡◌, ℕ, zero, suc, ◌<◌, ◌≤◌, ℤ, pos, negsuc}
use Rattle.theory.specs.Table.{generator}

-- The textbook's group, on the numbers 0 .. N-1.
pub record GroupOn (N : ℕ) (op : ℕ → ℕ → ℕ) (inv : ℕ → ℕ) : Type 0 where
  pub identity : 0 < N
  pub op_closed : {a b : ℕ} → a < N → b < N → op a b < N
  pub inv_closed : {a : ℕ} → a < N → inv a < N
  pub assoc : {a b c : ℕ} → a < N → b < N → c < N → op (op a b) c ≡ op a (op b c)
  pub left_identity : {a : ℕ} → a < N → op 0 a ≡ a
  pub right_identity : {a : ℕ} → a < N → op a 0 ≡ a
  pub left_inverse : {a : ℕ} → a < N → op (inv a) a ≡ 0
  pub right_inverse : {a : ℕ} → a < N → op a (inv a) ≡ 0

-- A step by g is multiplication on the right by the element of g.
pub record RightSteps (n N : ℕ) (step op : ℕ → ℕ → ℕ) : Type 0 where
  pub element : {g : ℕ} → g < n → generator step g < N
  pub step_is : {e g : ℕ} → e < N → g < n → step e g ≡ op e (generator step g)

-- The table has the right steps of some group on 0 .. N-1. "No group has these right steps" is refusal 12.
pub record RightRegular (n N : ℕ) (step : ℕ → ℕ → ℕ) : Type 0 where
  pub op : ℕ → ℕ → ℕ
  pub inv : ℕ → ℕ
  pub group : GroupOn N op inv
  pub steps : RightSteps n N step op

-- "`conjugate(a,b)` is a·b·a⁻¹."
abbrev pub conjugate : (ℕ → ℕ → ℕ) → (ℕ → ℕ) → ℕ → ℕ → ℕ
conjugate op inv a b = op (op a b) (inv a)

-- a·a·..·a, with a taken k times; for k = 0 it is the identity.
abbrev pub power : (ℕ → ℕ → ℕ) → ℕ → ℕ → ℕ
power op a zero = 0
power op a (suc k) = op (power op a k) a

-- The power by an integer: a negative one is a power of the inverse.
abbrev pub integer_power : (ℕ → ℕ → ℕ) → (ℕ → ℕ) → ℕ → ℤ → ℕ
integer_power op inv a (pos k) = power op a k
integer_power op inv a (negsuc k) = power op (inv a) (suc k)

-- The period of a: the first of its powers, from 1 on, that is the identity.
pub record Period (op : ℕ → ℕ → ℕ) (a k : ℕ) : Type 0 where
  pub positive : 0 < k
  pub returns : power op a k ≡ 0
  pub first : {j : ℕ} → 0 < j → power op a j ≡ 0 → k ≤ j
