-- `waits` store by store: what each cell of the work holds after a copy has been put at the end of a list.
use Prim.Native.Nat.{ℕ, suc, ◌+◌, ◌<◌, ◌≤◌}
use mathlib.Core.Path.{◌≡◌, refl, sym, ◌∙◌}
use mathlib.Core.List.{List, [], ◌∷◌}
use native.Mathlib.Omega.{arith}
use borrow.Author.Tests.{eq-eqb, ne_eqb}
use lib.ListN.{get_or, length}
use Rattle.egg.specs.Table.{put_at}
use Rattle.enumeration_rows.specs.declared.inner.RelationTableRow.{RelationTableRow}
use Rattle.enumeration_rows.specs.declared.inner.SideOfGap.{SideOfGap}
use Rattle.enumeration_rows.specs.Rows.{stored_row, write_row, link_at, appended, list_at, waits}
use Rattle.egg.proofs.Cells.{put_same, put_other, put_length}
use Rattle.enumeration_run_laws.proofs.Storing.{read_same, write_other, write_length, write_read}
use Rattle.enumeration_closure_laws.specs.Queues.{last_link, RowFits}
use Rattle.enumeration_closure_laws.proofs.Lists.{last_some}

-- The link to a new last copy: the head of an empty list, or the link of the last copy.
pub data LinkToLast (list : ℕ) (ps : List ℕ) (link : ℕ) : Type 0 where
  first : ps ≡ [] → link ≡ list → LinkToLast list ps link
  after : (q : ℕ) → last_link ps ≡ suc q → link ≡ q + 5 → LinkToLast list ps link

pub linked : (list tail : ℕ) (ps : List ℕ) → tail ≡ last_link ps → LinkToLast list ps (link_at list tail)
linked list tail [] e = first refl (simp (eq-eqb _ _ e))
linked list tail (p ∷ ps) e =
    let (q, l) = last_some p ps in
    let d : tail ≡ 0 → ⊥ = omega arith in
    after q l (simp (ne_eqb _ _ d) (omega arith))

-- The cells in which it stores are apart.
pub record CellsApart (list p link : ℕ) : Type 0 where
  pub copy_link : (d : ℕ) → d < 6 → p + d ≡ link → ⊥
  pub copy_tail : (d : ℕ) → d < 6 → p + d ≡ list + 1 → ⊥
  pub copy_count : (d : ℕ) → d < 6 → p + d ≡ list + 2 → ⊥
  pub link_tail : link ≡ list + 1 → ⊥
  pub link_count : link ≡ list + 2 → ⊥

-- They are inside the work, and what is stored has 32 bits.
pub record CellsWithin (list p link v len : ℕ) : Type 0 where
  pub copy_within : p + 6 ≤ len
  pub link_within : link < len
  pub list_within : list + 2 < len
  pub link_small : p + 1 < 4294967296
  pub count_small : v < 4294967296

-- What is in each cell then.
pub record CopyJoined (w w' : List ℕ) (list p link v : ℕ) (r : RelationTableRow) : Type 0 where
  pub other : (j : ℕ) → ((d : ℕ) → d < 6 → j ≡ p + d → ⊥) → (j ≡ link → ⊥) → (j ≡ list + 1 → ⊥) → (j ≡ list + 2 → ⊥) → get_or w' j 0 ≡ get_or w j 0
  pub row : stored_row w' p ≡ r
  pub ends : get_or w' (p + 5) 0 ≡ 0
  pub links : get_or w' link 0 ≡ suc p
  pub tail : get_or w' (list + 1) 0 ≡ suc p
  pub counts : get_or w' (list + 2) 0 ≡ v
  pub long : length w' ≡ length w

module _ (w : List ℕ) (list p link v : ℕ) (r : RelationTableRow) where
  w1 : List ℕ
  w1 = write_row w p r

  w2 : List ℕ
  w2 = put_at w1 (p + 5) 0

  w3 : List ℕ
  w3 = put_at w2 link (p + 1)

  w4 : List ℕ
  w4 = put_at w3 (list + 1) (p + 1)

  w5 : List ℕ
  w5 = put_at w4 (list + 2) v

  module _ (A : CellsApart list p link) (W : CellsWithin list p link v (length w)) (small : RowFits r) where
    stored : CopyJoined w w5 list p link v r
    unfolding w1 w2 w3 w4 w5
    stored =
        let l1 : length w1 ≡ length w = write_length w p r in
        let l2 : length w2 ≡ length w = put_length w1 (p + 5) 0 ∙ l1 in
        let l3 : length w3 ≡ length w = put_length w2 link (p + 1) ∙ l2 in
        let l4 : length w4 ≡ length w = put_length w3 (list + 1) (p + 1) ∙ l3 in
        let s : p + 1 ≡ suc p = omega arith in
        let row1 : stored_row w1 p ≡ r = write_read w p r W.copy_within small.pair_small small.left_small small.right_small small.from_small small.to_small in
        record {
          other = λ j a b c d.
              put_other w4 (list + 2) v d ∙ put_other w3 (list + 1) (p + 1) c ∙ put_other w2 link (p + 1) b ∙ put_other w1 (p + 5) 0 (a 5 (omega arith)) ∙ write_other w p r (λ x hx. a x (omega arith));
          row = read_same w1 w5 p (λ d hd.
              put_other w4 (list + 2) v (A.copy_count d (omega arith)) ∙ put_other w3 (list + 1) (p + 1) (A.copy_tail d (omega arith)) ∙ put_other w2 link (p + 1) (A.copy_link d (omega arith)) ∙ put_other w1 (p + 5) 0 (omega arith)) ∙ row1;
          ends = put_other w4 (list + 2) v (A.copy_count 5 (omega arith)) ∙ put_other w3 (list + 1) (p + 1) (A.copy_tail 5 (omega arith)) ∙ put_other w2 link (p + 1) (A.copy_link 5 (omega arith))
              ∙ put_same w1 (p + 5) 0 (omega (arith, W.copy_within)) (omega arith);
          links = put_other w4 (list + 2) v A.link_count ∙ put_other w3 (list + 1) (p + 1) A.link_tail ∙ put_same w2 link (p + 1) (omega (arith, W.link_within)) W.link_small ∙ s;
          tail = put_other w4 (list + 2) v (omega arith) ∙ put_same w3 (list + 1) (p + 1) (omega (arith, W.list_within)) W.link_small ∙ s;
          counts = put_same w4 (list + 2) v (omega (arith, W.list_within)) W.count_small;
          long = put_length w4 (list + 2) v ∙ l4;
        }

-- The definition `waits` does these stores.
pub waits_joined : (w : List ℕ) (n p : ℕ) (r : RelationTableRow) (side : SideOfGap) (list c v : ℕ) → list_at n r side ≡ list → c ≡ get_or w (list + 1) 0 → v ≡ get_or w (list + 2) 0 + 1
    → CellsApart list p (link_at list c) → CellsWithin list p (link_at list c) v (length w) → RowFits r → CopyJoined w (waits w n p r side) list p (link_at list c) v r
unfolding waits appended w1 w2 w3 w4 w5
waits_joined w n p r side list c v at tail count A W small =
    let a : get_or (write_row w p r) (list + 1) 0 ≡ c = write_other w p r (λ d hd q. A.copy_tail d (omega arith) (sym q)) ∙ sym tail in
    let b : get_or (write_row w p r) (list + 2) 0 + 1 ≡ v = rw (write_other w p r {j = list + 2} (λ d hd q. A.copy_count d (omega arith) (sym q))) (sym count) in
    rw (at, a, b) (stored w list p (link_at list c) v r A W small)
