-- The waiting lists of the enumeration, "one pool with links in the work buffer, keeping waiting order", as lists of addresses: which copies of rows wait in
-- which list, and what each store of the machine changes of that. A row waits twice, so it has a left copy and a right copy; a copy is named by its address, the
-- place in the work at which it is stored, and its link to the next copy is the cell five further on. A list is named by the address of its head, which its tail
-- and its count follow. A link is an address + 1, or 0 for none.
use Rattle.std.specs.Prelude.{ℕ, suc, ◌+◌, ◌*◌, ◌-◌, ◌<◌, ◌≤◌, ◌≡◌, List, [], ◌∷◌, get_or, length}
use Rattle.egg.specs.Pairs.{pair_code}
use Rattle.enumeration_rows.specs.declared.inner.RelationTableRow.{RelationTableRow}
use Rattle.enumeration_rows.specs.declared.inner.SideOfGap.{SideOfGap}
use Rattle.enumeration_rows.specs.declared.inner.SideOfGap.TheVariants.{Left, Right}
use Rattle.enumeration_rows.specs.Rows.{work_width, place_at, rows_at, gen_of, stored_row, list_at, new_row}
use Rattle.enumeration_run_laws.specs.Invariant.{CellOfKind}
use Rattle.enumeration_run_laws.specs.Stack.{Absent, SameStackLinks}

-- The number p is in the list.
pub data In (p : ℕ) : List ℕ → Type 0 where
  here : {q : ℕ} {ps : List ℕ} → q ≡ p → In p (q ∷ ps)
  there : {q : ℕ} {ps : List ℕ} → In p ps → In p (q ∷ ps)

-- No number is in the list twice.
abbrev pub Once : List ℕ → Type 0
Once [] = Unit {0}
Once (p ∷ ps) = Absent p ps × Once ps

-- The place of an element and a generator, by their numbers: there the step from e by g has its two lists, and its link of the stack of facts.
abbrev pub place_of : ℕ → ℕ → ℕ → ℕ
place_of n e g = place_at n (record { 0 = e }) (record { 0 = g })

-- The address of that place's list on a side.
abbrev pub list_of : ℕ → SideOfGap → ℕ → ℕ → ℕ
list_of n Left e g = place_of n e g
list_of n Right e g = place_of n e g + 3

-- The address of the copy, on a side, of the row that element u has for the pair at place k.
abbrev pub copy_at : ℕ → ℕ → ℕ → SideOfGap → ℕ
copy_at n u k Left = rows_at n (record { 0 = u }) + 12 * k
copy_at n u k Right = rows_at n (record { 0 = u }) + 12 * k + 6

-- The copies to which the links lead from the link `at` on are these, in this order; the link of the last one is 0.
pub data Chain (w : List ℕ) : ℕ → List ℕ → Type 0 where
  end : {at : ℕ} → at ≡ 0 → Chain w at []
  next : {at p : ℕ} {ps : List ℕ} → at ≡ suc p → Chain w (get_or w (p + 5) 0) ps → Chain w at (p ∷ ps)

-- p is the copy on that side of a row of an element below the count, and the row that is stored there is one that waits in that list (`list_at`). So the row
-- itself names its list, and no copy can be in two lists of a side.
pub record Waiter (n count pairs : ℕ) (side : SideOfGap) (w : List ℕ) (list p : ℕ) : Type 0 where
  pub element : ℕ
  pub number : ℕ
  pub element_below : element < count
  pub number_below : number < pairs
  pub stands : p ≡ copy_at n element number side
  pub waits_in : list_at n (stored_row w p) side ≡ list

-- The copies ps hang together from the link `at` on, each is one that waits in that list, and none is there twice. This also holds of a list in hand,
-- that is of one that has been taken from its place to be woken.
pub record Hand (n count pairs : ℕ) (side : SideOfGap) (w : List ℕ) (list at : ℕ) (ps : List ℕ) : Type 0 where
  pub chain : Chain w at ps
  pub mine : (p : ℕ) → In p ps → Waiter n count pairs side w list p
  pub once : Once ps

-- The link to the last copy of the list, or 0 if there is none.
abbrev pub last_link : List ℕ → ℕ
last_link [] = 0
last_link (p ∷ []) = suc p
last_link (p ∷ q ∷ ps) = last_link (q ∷ ps)

-- The list with that head has these copies: they hang together from its head on, its tail is the link to the last one, and its count is how many there are.
pub record Queue (n count pairs : ℕ) (side : SideOfGap) (w : List ℕ) (list : ℕ) (ps : List ℕ) : Type 0 where
  pub hand : Hand n count pairs side w list (get_or w list 0) ps
  pub tail : get_or w (list + 1) 0 ≡ last_link ps
  pub counted : get_or w (list + 2) 0 ≡ length ps

-- Which copies wait in each list: that of a side, an element and a generator.
abbrev pub Waiting : Type 0
Waiting = SideOfGap → ℕ → ℕ → List ℕ

-- Each list of an element below the count has the copies that `held` says.
pub record Queues (n count pairs : ℕ) (w : List ℕ) (held : Waiting) : Type 0 where
  pub queue : (side : SideOfGap) (e g : ℕ) → e < count → g < n → Queue n count pairs side w (list_of n side e g) (held side e g)

-- The work has room for so many elements, with a row for each pair of the n generators.
pub record Sized (n count pairs : ℕ) (w : List ℕ) : Type 0 where
  pub few : n ≤ 8
  pub limit : count ≤ 65535
  pub paired : 2 * pairs ≡ n * (n - 1)
  pub room : count * work_width n ≤ length w

-- The work is as long as it was, and all that is beyond the stretch of the first `count` elements is as it was.
pub record SameBeyond (n count : ℕ) (w w' : List ℕ) : Type 0 where
  pub long : length w' ≡ length w
  pub beyond : (i : ℕ) → count * work_width n ≤ i → get_or w' i 0 ≡ get_or w i 0

-- The row that is stored in each copy is as it was.
pub record SameStoredRows (n count pairs : ℕ) (w w' : List ℕ) : Type 0 where
  pub same : (u k : ℕ) (side : SideOfGap) → u < count → k < pairs → stored_row w' (copy_at n u k side) ≡ stored_row w (copy_at n u k side)

-- Each number of a row fits a cell of 32 bits.
pub record RowFits (r : RelationTableRow) : Type 0 where
  pub pair_small : r.pair < 4294967296
  pub left_small : r.left < 4294967296
  pub right_small : r.right < 4294967296
  pub from_small : r.from.0 < 4294967296
  pub to_small : r.to.0 < 4294967296

-- After `waits`, by which a copy that was in no list begins to wait: p holds the row r and is in the list of e and g on its side. Every copy that waited waits
-- still; the other lists, the rows of the other copies, the cells that link the stack, and the lists in hand to which p does not belong are as they were.
pub record Appended (n count pairs : ℕ) (w w' : List ℕ) (held : Waiting) (side : SideOfGap) (e g p : ℕ) (r : RelationTableRow) : Type 0 where
  pub held' : Waiting
  pub queues : Queues n count pairs w' held'
  pub there : In p (held' side e g)
  pub more : (s : SideOfGap) (x h q : ℕ) → In q (held s x h) → In q (held' s x h)
  pub others : (s : SideOfGap) (x h : ℕ) → ((s ≡ side) × (x ≡ e) × (h ≡ g) → ⊥) → held' s x h ≡ held s x h
  pub stored : stored_row w' p ≡ r
  pub rows : (u k : ℕ) (s : SideOfGap) → u < count → k < pairs → (copy_at n u k s ≡ p → ⊥) → stored_row w' (copy_at n u k s) ≡ stored_row w (copy_at n u k s)
  pub six : SameStackLinks n w w'
  pub beyond : SameBeyond n count w w'
  pub hands : (s : SideOfGap) (list at : ℕ) (ps : List ℕ) → Hand n count pairs s w list at ps → Absent p ps → (list ≡ list_of n side e g → ⊥)
      → Hand n count pairs s w' list at ps

-- After `emptied`, by which a fact takes both lists from the place of e and g: the copies that waited there hang together as before, from the heads as they
-- were; the place has none now. The other lists and all rows are as they were, and so are the cells that link the stack, but for the place's own.
pub record Emptied (n count pairs : ℕ) (w w' : List ℕ) (held : Waiting) (e g : ℕ) : Type 0 where
  pub held' : Waiting
  pub queues : Queues n count pairs w' held'
  pub empty : (s : SideOfGap) → held' s e g ≡ []
  pub others : (s : SideOfGap) (x h : ℕ) → ((x ≡ e) × (h ≡ g) → ⊥) → held' s x h ≡ held s x h
  pub hands : (s : SideOfGap) → Hand n count pairs s w' (list_of n s e g) (get_or w (list_of n s e g) 0) (held s e g)
  pub counts : (s : SideOfGap) → get_or w (list_of n s e g + 2) 0 ≡ length (held s e g)
  pub rows : SameStoredRows n count pairs w w'
  pub six : (i : ℕ) → CellOfKind n i 6 → (i ≡ place_of n e g + 6 → ⊥) → get_or w' i 0 ≡ get_or w i 0
  pub beyond : SameBeyond n count w w'

-- After a store in the cell of a place that links the stack of facts: every list and every row is as it was, and so is every list in hand.
pub record Pushed (n count pairs : ℕ) (w w' : List ℕ) (held : Waiting) : Type 0 where
  pub queues : Queues n count pairs w' held
  pub rows : SameStoredRows n count pairs w w'
  pub beyond : SameBeyond n count w w'
  pub hands : (s : SideOfGap) (list at : ℕ) (ps : List ℕ) → Hand n count pairs s w list at ps → Hand n count pairs s w' list at ps

-- After `added_rows`, by which a new element "starts a row per pair, waiting twice: on the left under (element, first generator), on the right under (element,
-- second)". The element's number is the count as it was; the lists and rows of the elements before it are as they were.
pub record RowsAdded (n count pairs : ℕ) (o w w' : List ℕ) (held : Waiting) : Type 0 where
  pub held' : Waiting
  pub queues : Queues n (count + 1) pairs w' held'
  pub old : (s : SideOfGap) (x h : ℕ) → x < count → held' s x h ≡ held s x h
  pub left : (k : ℕ) → k < pairs → In (copy_at n count k Left) (held' Left count (gen_of (pair_code k) 0).0)
  pub right : (k : ℕ) → k < pairs → In (copy_at n count k Right) (held' Right count (gen_of (pair_code k) (get_or o k 0 * 2 - 1)).0)
  pub stored : (k : ℕ) (s : SideOfGap) → k < pairs → stored_row w' (copy_at n count k s) ≡ new_row (record { 0 = count }) (pair_code k) (get_or o k 0)
  pub rows : SameStoredRows n count pairs w w'
  pub six : SameStackLinks n w w'
  pub beyond : SameBeyond n (count + 1) w w'
