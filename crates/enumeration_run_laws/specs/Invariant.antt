-- What the enumeration keeps true of its two stretches: each known step, and what each waiting row says, follows from the relations.
use Rattle.std.specs.Prelude.{ℕ, zero, suc, ◌+◌, ◌*◌, ◌-◌, ◌<◌, ◌≤◌, ◌≡◌, List, [], ◌∷◌, ◌++◌, get_or, length}
use Rattle.theory.specs.Presentation.{Equiv}
use Rattle.egg.specs.Table.{start_of, parent_of, last_of}
use Rattle.enumeration_rows.specs.declared.inner.RelationTableRow.{RelationTableRow}
use Rattle.enumeration_rows.specs.Rows.{work_width, gen_of, stored_row}
use Rattle.enumeration_wake.specs.Waking.{State}

-- The step from e by g to r, between elements below the count, follows from the relations.
pub record Step (n : ℕ) (m : ℕ → ℕ → ℕ) (word : ℕ → List ℕ) (count e g r : ℕ) : Type 0 where
  pub from_below : e < count
  pub to_below : r < count
  pub leads : Equiv n m (word e ++ g ∷ []) (word r)

-- The step from e by g is known.
abbrev pub StepKnown : ℕ → List ℕ → ℕ → ℕ → Type 0
StepKnown n t e g = get_or t (start_of n e + g) 0 ≡ 0 → ⊥

-- What the number v in cell i of the table may be: it is 0 in rows beyond the count, and a step or a step back that it holds follows from the
-- relations.
pub record Marked (n : ℕ) (m : ℕ → ℕ → ℕ) (word : ℕ → List ℕ) (count i v : ℕ) : Type 0 where
  pub inside : (e k : ℕ) → k < 2 * n + 4 → i ≡ start_of n e + k → (v ≡ 0 → ⊥) → e < count
  pub succ : (e g r : ℕ) → g < n → i ≡ start_of n e + g → v ≡ suc r → Step n m word count e g r
  pub back : (e g r : ℕ) → g < n → i ≡ start_of n e + n + g → v ≡ suc r → Step n m word count r g e

-- The words of the elements below the count are those that the table records; the identity's row has neither parent nor letter.
pub record RecordsWords (n : ℕ) (word : ℕ → List ℕ) (count : ℕ) (t : List ℕ) : Type 0 where
  pub start : word 0 ≡ []
  pub earlier : (e : ℕ) → 0 < e → e < count → parent_of t n e < e
  pub generator : (e : ℕ) → 0 < e → e < count → last_of t n e < n
  pub grow : (e : ℕ) → 0 < e → e < count → word e ≡ word (parent_of t n e) ++ last_of t n e ∷ []
  pub identity : 0 < count → (parent_of t n 0 ≡ 0) × (last_of t n 0 ≡ 0)

-- The step by which each element was made is known. (It led to the element when that was made; a step that is set anew may lead elsewhere.)
pub record MakersKnown (n count : ℕ) (t : List ℕ) : Type 0 where
  pub made : (e : ℕ) → 0 < e → e < count → StepKnown n t (parent_of t n e) (last_of t n e)

-- The table is right: every number in it is (`Marked`), and its words are those of the elements.
pub record TableOk (n : ℕ) (m : ℕ → ℕ → ℕ) (word : ℕ → List ℕ) (count : ℕ) (t : List ℕ) : Type 0 where
  pub marks : (i : ℕ) → Marked n m word count i (get_or t i 0)
  pub words : RecordsWords n word count t

-- The letters of a pair's row from column l on, k of them.
unfoldable pub row_letters : ℕ → ℕ → ℕ → List ℕ
row_letters pair l zero = []
row_letters pair l (suc k) = (gen_of pair l).0 ∷ row_letters pair (suc l) k

-- A row claims that the letters of its gap, both ends included, lead from its left element to its right one; that claim follows from the relations.
pub record RowOk (n : ℕ) (m : ℕ → ℕ → ℕ) (word : ℕ → List ℕ) (count : ℕ) (r : RelationTableRow) : Type 0 where
  pub small : r.pair < 64
  pub wide : r.right < 65536
  pub order : r.left ≤ r.right
  pub gens : (i : ℕ) → (gen_of r.pair i).0 < n
  pub from_below : r.from.0 < count
  pub to_below : r.to.0 < count
  pub leads : Equiv n m (word r.from.0 ++ row_letters r.pair r.left (suc (r.right - r.left))) (word r.to.0)

-- Cell i of the work is of kind k. The first seven cells of a place have the kinds 0 to 6; the link to the next copy has 7, and the five numbers of a
-- row have 12 down to 8.
pub data CellOfKind (n i k : ℕ) : Type 0 where
  in_place : (e g : ℕ) → g < n → k < 7 → i ≡ e * work_width n + (10 * g + k) → CellOfKind n i k
  in_copy : (e j d : ℕ) → j < n * (n - 1) → d < 6 → i ≡ e * work_width n + (10 * n + (6 * j + d)) → k + d ≡ 12 → CellOfKind n i k

-- A copy of a row stands at p, within the first `len` numbers of the work.
pub record Copy (n len p : ℕ) : Type 0 where
  pub element : ℕ
  pub number : ℕ
  pub number_below : number < n * (n - 1)
  pub stands : p ≡ element * work_width n + (10 * n + 6 * number)
  pub within : p + 6 ≤ len

-- The number v is a link to a copy of which S holds, or none.
pub data Link (S : ℕ → Type 0) (v : ℕ) : Type 0 where
  none : v ≡ 0 → Link S v
  to : (p : ℕ) → S p → v ≡ suc p → Link S v

-- The number v is a link to the place of a fact, or none.
pub data FactLink (n v : ℕ) : Type 0 where
  none : v ≡ 0 → FactLink n v
  to : (e g : ℕ) → g < n → v ≡ suc (e * work_width n + 10 * g) → FactLink n v

-- What a cell of each kind may hold: heads, tails and nexts are links to copies, and the cell of a place that links the stack is a link to the place
-- of the fact below; counts and rows are not limited here.
abbrev pub MayHold : ℕ → (ℕ → Type 0) → ℕ → ℕ → Type 0
MayHold n S zero v = Link S v
MayHold n S (suc zero) v = Link S v
MayHold n S (suc (suc zero)) v = Unit {0}
MayHold n S (suc (suc (suc zero))) v = Link S v
MayHold n S (suc (suc (suc (suc zero)))) v = Link S v
MayHold n S (suc (suc (suc (suc (suc zero))))) v = Unit {0}
MayHold n S (suc (suc (suc (suc (suc (suc zero)))))) v = FactLink n v
MayHold n S (suc (suc (suc (suc (suc (suc (suc zero))))))) v = Link S v
MayHold n S (suc (suc (suc (suc (suc (suc (suc (suc k)))))))) v = Unit {0}

-- Every cell of the work holds what its kind may.
pub record CellsOk (n : ℕ) (S : ℕ → Type 0) (w : List ℕ) : Type 0 where
  pub holds : (i k : ℕ) → CellOfKind n i k → MayHold n S k (get_or w i 0)

-- The work is right, where S says which copies have begun to be used: each stands where a copy stands, and the row that is stored there is right.
pub record WorkOk (n : ℕ) (m : ℕ → ℕ → ℕ) (word : ℕ → List ℕ) (count : ℕ) (S : ℕ → Type 0) (w : List ℕ) : Type 0 where
  pub cells : CellsOk n S w
  pub place : (p : ℕ) → S p → Copy n (length w) p
  pub rows : (p : ℕ) → S p → RowOk n m word count (stored_row w p)

-- The work is right for the copies that have begun to be used.
pub record Working (n : ℕ) (m : ℕ → ℕ → ℕ) (word : ℕ → List ℕ) (count : ℕ) (w : List ℕ) : Type 1 where
  pub begun : ℕ → Type 0
  pub right : WorkOk n m word count begun w

-- The table, the work and the top of the stack are right.
pub record StateOk (n : ℕ) (m : ℕ → ℕ → ℕ) (word : ℕ → List ℕ) (count lt lw : ℕ) (S : ℕ → Type 0) (s : State) : Type 0 where
  pub table : TableOk n m word count s.table
  pub made : MakersKnown n count s.table
  pub work : WorkOk n m word count S s.work
  pub top : FactLink n s.top
  pub table_length : length s.table ≡ lt
  pub work_length : length s.work ≡ lw

-- Between two visits, with `count` elements: there are words for which both stretches are right.
pub record RunOk (n : ℕ) (m : ℕ → ℕ → ℕ) (room lt lw count : ℕ) (t w : List ℕ) : Type 1 where
  pub word : ℕ → List ℕ
  pub table : TableOk n m word count t
  pub made : MakersKnown n count t
  pub work : Working n m word count w
  pub some : 1 ≤ count
  pub fits : count ≤ room
  pub table_length : length t ≡ lt
  pub work_length : length w ≡ lw
