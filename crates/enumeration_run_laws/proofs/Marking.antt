-- A right step set both ways keeps the table right.
use Prim.Native.Nat.{ℕ, ◌+◌, ◌*◌, ◌<◌}
use mathlib.Core.Path.{◌≡◌, ◌∙◌}
use mathlib.Core.List.{List}
use native.Mathlib.Omega.{arith}
use lib.ListN.{length}
use Rattle.egg.specs.declared.GroupElementId.{GroupElementId}
use Rattle.egg.specs.declared.GeneratorId.{GeneratorId}
use Rattle.egg.specs.Table.{put_at, start_of, succ_at, pred_at, parent_of, last_of}
use Rattle.build_reading.specs.Build.{set_step}
use Rattle.enumeration_run_laws.specs.Invariant.{Step, Marked, RecordsWords, TableOk}
use Rattle.egg.proofs.Cells.{same_row, same_cell, put_other, put_length}
use Rattle.enumeration_run_laws.proofs.Cells.{put_keeps}

-- Cell k of row e is the cell of no other row and number.
module _ (n e e' k k' : ℕ) (hk : k < 2 * n + 4) (hk' : k' < 2 * n + 4) (q : start_of n e + k ≡ start_of n e' + k') where
  pub row_is : e ≡ e'
  unfolding start_of
  row_is = same_row e e' hk hk' q

  pub cell_is : k ≡ k'
  unfolding start_of
  cell_is = same_cell e e' hk hk' q

-- The words that another table records, where it has the same parents and last generators.
pub words_same : {n : ℕ} {word : ℕ → List ℕ} {count : ℕ} {t : List ℕ} (t' : List ℕ) → ((e : ℕ) → e < count → parent_of t' n e ≡ parent_of t n e)
    → ((e : ℕ) → e < count → last_of t' n e ≡ last_of t n e) → RecordsWords n word count t → RecordsWords n word count t'
words_same t' p l W = record {
  start = W.start;
  earlier = λ e h k. rw (p e k) (W.earlier e h k);
  generator = λ e h k. rw (l e k) (W.generator e h k);
  grow = λ e h k. rw (p e k, l e k) (W.grow e h k);
  identity = λ h. (p 0 h ∙ (W.identity h).0, l 0 h ∙ (W.identity h).1);
}

-- A store among the successors and predecessors leaves parents and last generators.
module _ (t : List ℕ) (n e k v : ℕ) (h : k < 2 * n) (x : ℕ) where
  put_parent : parent_of (put_at t (start_of n e + k) v) n x ≡ parent_of t n x
  put_parent = put_other t (start_of n e + k) v (λ q. let d = cell_is n x e (2 * n) k (omega arith) (omega arith) q in omega arith)

  put_last : last_of (put_at t (start_of n e + k) v) n x ≡ last_of t n x
  put_last = rw (put_other t (start_of n e + k) v {j = start_of n x + 2 * n + 1}
      (λ q. let d = cell_is n x e (2 * n + 1) k (omega arith) (omega arith) (omega arith) in omega arith))

module _ (t : List ℕ) (n : ℕ) (e : GroupElementId) (g : GeneratorId) (r : GroupElementId) (h : g.0 < n) (x : ℕ) where
  back_at : start_of n r.0 + (n + g.0) ≡ pred_at n r g
  back_at = omega arith

  pub set_parent : parent_of (set_step t n e g r) n x ≡ parent_of t n x
  unfolding set_step
  set_parent = rw (← back_at) (put_parent (put_at t (succ_at n e g) (r.0 + 1)) n r.0 (n + g.0) (e.0 + 1) (omega arith) x ∙ put_parent t n e.0 g.0 (r.0 + 1) (omega arith) x)

  pub set_last : last_of (set_step t n e g r) n x ≡ last_of t n x
  unfolding set_step
  set_last = rw (← back_at) (put_last (put_at t (succ_at n e g) (r.0 + 1)) n r.0 (n + g.0) (e.0 + 1) (omega arith) x ∙ put_last t n e.0 g.0 (r.0 + 1) (omega arith) x)

module _ {n : ℕ} {m : ℕ → ℕ → ℕ} {word : ℕ → List ℕ} {count : ℕ} where
  -- A store among the successors and predecessors.
  table_put : {t : List ℕ} → TableOk n m word count t → (e k v : ℕ) → k < 2 * n → Marked n m word count (start_of n e + k) v → TableOk n m word count (put_at t (start_of n e + k) v)
  table_put {t} T e k v h mark = record {
    marks = put_keeps t (start_of n e + k) v (Marked n m word count) mark T.marks;
    words = words_same (put_at t (start_of n e + k) v) (λ x _. put_parent t n e k v h x) (λ x _. put_last t n e k v h x) T.words;
  }

  module _ {e g r : ℕ} (s : Step n m word count e g r) (hg : g < n) where
    succ_mark : Marked n m word count (start_of n e + g) (r + 1)
    succ_mark = record {
      inside = λ e' k' h q z. rw (row_is n e e' _ _ (omega arith) h q) at s.from_below;
      succ = λ e' g' r' h q v.
          let a = row_is n e e' g g' (omega arith) (omega arith) q in
          let b = cell_is n e e' g g' (omega arith) (omega arith) q in
          let c : r ≡ r' = omega arith in
          rw (← a, ← b, ← c) s;
      back = λ e' g' r' h q v. let b = cell_is n e e' g (n + g') (omega arith) (omega arith) (omega arith) in absurd (omega arith);
    }

    back_mark : Marked n m word count (start_of n r + (n + g)) (e + 1)
    back_mark = record {
      inside = λ e' k' h q z. rw (row_is n r e' _ _ (omega arith) h q) at s.to_below;
      succ = λ e' g' r' h q v. let b = cell_is n r e' (n + g) g' (omega arith) (omega arith) (omega arith) in absurd (omega arith);
      back = λ e' g' r' h q v.
          let a = row_is n r e' (n + g) (n + g') (omega arith) (omega arith) (omega arith) in
          let b = cell_is n r e' (n + g) (n + g') (omega arith) (omega arith) (omega arith) in
          let c : e ≡ r' = omega arith in
          let d : g ≡ g' = omega arith in
          rw (← a, ← d, ← c) s;
    }

  pub set_ok : {t : List ℕ} → TableOk n m word count t → (e : GroupElementId) (g : GeneratorId) (r : GroupElementId) → g.0 < n → Step n m word count e.0 g.0 r.0
      → TableOk n m word count (set_step t n e g r)
  unfolding set_step
  set_ok T e g r h s =
      let q : start_of n r.0 + (n + g.0) ≡ pred_at n r g = omega arith in
      rw (← q) (table_put (table_put T e.0 g.0 (r.0 + 1) (omega arith) (succ_mark s h)) r.0 (n + g.0) (e.0 + 1) (omega arith) (back_mark s h))

pub set_length : (t : List ℕ) (n : ℕ) (e : GroupElementId) (g : GeneratorId) (r : GroupElementId) → length (set_step t n e g r) ≡ length t
unfolding set_step
set_length t n e g r = simp put_length
