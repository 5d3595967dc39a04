-- The element-by-generator table as a list of numbers. Document 01: "a build with n generators and room R needs exactly R(2n+4) entries of table".
use Rattle.std.specs.Prelude.{ℕ, suc, ◌+◌, ◌*◌, ◌-◌, ◌%◌, ◌<◌, ◌≡◌, List, Bool, true, false, get_or, set, ltb}
use Rattle.egg.specs.declared.GroupElementId.{GroupElementId}
use Rattle.egg.specs.declared.GeneratorId.{GeneratorId}

-- The first value where the test holds, else the second.
abbrev pub pick : {A : Type 0} → Bool → A → A → A
pick true a b = a
pick false a b = b

-- A measure for work that is done piece by piece: one more than is left where a piece says that there is more, else 0. It falls with every piece.
abbrev pub still_left : Bool → ℕ → ℕ
still_left more left = pick more (suc left) 0

-- The list with v stored at i, where i is within the list and v has 32 bits ("Lent buffers of 32-bit numbers"); else the list as it was. So a store
-- is defined for every index and number, and no caller owes a proof of them.
unfoldable pub put_at : List ℕ → ℕ → ℕ → List ℕ
put_at l i v = pick (ltb v 4294967296) (set l i v) l

-- Where the row of an element starts. A row has n successors, n predecessors, parent, last generator, word length and inverse: 2n + 4 numbers. Rows
-- stand one after the other, so that no address depends on the room.
unfoldable pub start_of : ℕ → ℕ → ℕ
start_of n e = e * (2 * n + 4)

-- How many numbers of work a build needs for each element: "R(6n²+4n) of work".
abbrev pub work_of : ℕ → ℕ
work_of n = 6 * n * n + 4 * n

-- Where the successor of e by g stands. It is stored as one more than its number, so that 0 is "not known" and an unused row is zero.
abbrev pub succ_at : ℕ → GroupElementId → GeneratorId → ℕ
succ_at n e g = start_of n e.0 + g.0

-- Where the predecessor of e by g stands, stored in the same way.
abbrev pub pred_at : ℕ → GroupElementId → GeneratorId → ℕ
pred_at n e g = start_of n e.0 + n + g.0

-- The parent of e: its word is the parent's word and one generator.
abbrev pub parent_of : List ℕ → ℕ → ℕ → ℕ
parent_of t n e = get_or t (start_of n e + 2 * n) 0

-- The cell of the last generator of e. The last letter has its three lowest bits. While a table is built nothing stands above them; in an accepted
-- table the letters before the last stand there, and the element at which the word ends without these (`build_word_cells`).
abbrev pub hop_of : List ℕ → ℕ → ℕ → ℕ
hop_of t n e = get_or t (start_of n e + 2 * n + 1) 0

-- The last letter of the word of e.
abbrev pub last_of : List ℕ → ℕ → ℕ → ℕ
last_of t n e = hop_of t n e % 8

-- The length of the recorded word of e.
abbrev pub length_of : List ℕ → ℕ → ℕ → ℕ
length_of t n e = get_or t (start_of n e + 2 * n + 2) 0

-- The inverse of e.
abbrev pub inverse_of : List ℕ → ℕ → ℕ → ℕ
inverse_of t n e = get_or t (start_of n e + 2 * n + 3) 0

-- The step from e by g in a table with nothing missing: "not known" counts as the identity.
abbrev pub step_of : List ℕ → ℕ → ℕ → ℕ → ℕ
step_of t n e g = get_or t (start_of n e + g) 0 - 1

-- The step back from e by g, that is its predecessor, in a table with nothing missing.
abbrev pub back_of : List ℕ → ℕ → ℕ → ℕ → ℕ
back_of t n e g = get_or t (start_of n e + n + g) 0 - 1

-- r is the place `is` of a buffer, and below a limit, which is far below what a usize holds, so that sums of places fit.
pub record Place (r is limit : ℕ) : Type 0 where
  pub at : r ≡ is
  pub small : r < limit
