-- The numbering rule: the elements are numbered as they first appear when the table is read row by row.
-- "At (e,g), in order, a number below the count is set, the count itself is a new element, more is 7.
-- That numbering, with identity row 1..n, is the numbering rule."
use Rattle.std.specs.Prelude.{◌≡◌, true, false, ℕ, zero, suc, ◌<◌, ltb, eqb}
use Rattle.theory.specs.Table.{generator}

-- The rule has held so far: the next place to be read is row x, column g, and c elements are known.
-- A row is read when its element is known, so "rows never reached are not read".
pub data Known (n : ℕ) (step : ℕ → ℕ → ℕ) : ℕ → ℕ → ℕ → Type 0 where
  start : Known n step 0 0 1
  old : {x g c : ℕ} → Known n step x g c → g < n → step x g < c → Known n step x (suc g) c
  new : {x g c : ℕ} → Known n step x g c → g < n → step x g ≡ c → Known n step x (suc g) (suc c)
  next_row : {x c : ℕ} → Known n step x n c → suc x < c → Known n step (suc x) 0 c

-- The table has N rows by the rule: when its last row has been read, N elements are known, so that no row is left.
pub record Numbered (n N : ℕ) (step : ℕ → ℕ → ℕ) : Type 0 where
  pub end : ℕ
  pub last_row : suc end ≡ N
  pub known : Known n step end n N

-- The identity row is 1..n. This is a condition by itself: Numbered asks nothing of the kind.
abbrev pub IdentityRow : ℕ → (ℕ → ℕ → ℕ) → Type 0
IdentityRow n step = (g : ℕ) → g < n → generator step g ≡ suc g

-- The numbering rule as a whole: "That numbering, with identity row 1..n".
pub record NumberingRule (n N : ℕ) (step : ℕ → ℕ → ℕ) : Type 0 where
  pub numbered : Numbered n N step
  pub identity_row_lem : IdentityRow n step

-- What the identity row 1..n implies: the generators are distinct elements, and none is the identity.
pub record Distinct (n : ℕ) (step : ℕ → ℕ → ℕ) : Type 0 where
  pub moves : {g : ℕ} → g < n → ¬ (generator step g ≡ 0)
  pub apart : {g h : ℕ} → g < n → h < n → generator step g ≡ generator step h → g ≡ h

-- Refusal 7: the first number that skips ahead is t, at row x and column g.
pub record Skips (n : ℕ) (step : ℕ → ℕ → ℕ) (x g t : ℕ) : Type 0 where
  pub count : ℕ
  pub known : Known n step x g count
  pub column : g < n
  pub number : step x g ≡ t
  pub ahead : count < t

-- What a reading by the rule comes to, when it is run as a program.
pub data Outcome : Type 0 where
  numbers : ℕ → Outcome  -- all rows that were reached are read, and there are so many
  skips : ℕ → ℕ → ℕ → Outcome  -- refused by 7: element, generator, number
  unread : Outcome  -- some are left to read

-- The rule as a program follows it: reading on from row x and column g, when c elements are known. A row of n places takes n + 1 steps, and at most k
-- are made.
abbrev pub read : (n : ℕ) (step : ℕ → ℕ → ℕ) (k x g c : ℕ) → Outcome
read n step zero x g c = unread
read n step (suc k) x g c = elim (ltb g n) [
  | true ↦ elim (ltb (step x g) c) [
    | true ↦ read n step k x (suc g) c
    | false ↦ elim (eqb (step x g) c) [ true ↦ read n step k x (suc g) (suc c) | false ↦ skips x g (step x g) ]
  ]
  | false ↦ elim (ltb (suc x) c) [ true ↦ read n step k (suc x) 0 c | false ↦ numbers c ]
]
