-- Laws of lists that are gone through from their start on.
-- Assumes nothing.
use Prim.Native.Nat.{ℕ, ◌+◌, ◌/◌, ◌%◌, ◌^◌, ◌≤◌, ◌<◌}
use mathlib.Core.Path.{◌≡◌, sym, ap, ◌∙◌, subst}
use mathlib.Core.Bool.{Bool, true, false}
use mathlib.Core.List.{List}
use native.Mathlib.Nat.{le_trans}
use native.Mathlib.Omega.{arith}
use borrow.Author.Count.{below_more}
use lib.Dec.{T, eqb}
use lib.ListN.{length, get_or, set}
use lib.Seq.{get_or-set_same, get_or-set_other}
use lib.IntN.{ℤ, pos}
use Rattle.egg.specs.Table.{pick}
use Rattle.lists.proofs.Passes.{Writing, writes}
use Rattle.lists_powers.specs.Rounds.{Base, Bases, Largest, kept_at}

-- An answer that is false promises nothing.
pub never : {A : Type 0} {b : Bool} → b ≡ false → b ≡ true → A
never p q = absurd (subst T (sym q ∙ p) tt)

there : (l : List ℕ) {i : ℕ} (v : ℕ) → i < length l → get_or (set l i v) i 0 ≡ v
there l {i} v h = get_or-set_same l i v 0 h

before : (l : List ℕ) {i k : ℕ} (v : ℕ) → k < i → get_or (set l i v) k 0 ≡ get_or l k 0
before l {i} {k} v h = get_or-set_other l i k v 0 (λ e. omega arith)

-- A list that is altered in its place: what is not reached yet is as it was.
pub keeps : (ks : List ℕ) (j : ℕ) (ys : List ℕ) {xs₀ xs : List ℕ} {i x v : ℕ} → Writing (kept_at ks j ys xs₀) xs₀ i xs → i < length xs
    → x ≡ pick (eqb (get_or ks i 0 / 2 ^ j % 2) 0) (get_or ys i 0) (get_or xs i 0) → v ≡ pick (eqb (get_or ks i 0 / 2 ^ j) 0) 0 x
    → Writing (kept_at ks j ys xs₀) xs₀ (i + 1) (set xs i v)
keeps ks j ys {i = i} w h p q =
    writes w h
    (q
    ∙ ap (λ (z : ℕ). pick (eqb (get_or ks i 0 / 2 ^ j) 0) 0 z)
    (p ∙ ap (λ (z : ℕ). pick (eqb (get_or ks i 0 / 2 ^ j % 2) 0) (get_or ys i 0) z) (w.left i (omega arith))))

pub largest_none : {ks : List ℕ} → Largest ks 0 0
largest_none = record { each = λ k h. absurd (omega arith) }

pub larger_next : {ks : List ℕ} {i most r : ℕ} → Largest ks i most → (most ≤ r) × (get_or ks i 0 ≤ r) → Largest ks (i + 1) r
larger_next {ks} {i} {most} {r} l h = record { each = below_more (λ (k : ℕ). get_or ks k 0 ≤ r) i (λ k b. le_trans (l.each k b) h.0) h.1 }

pub largest_all : {ks : List ℕ} {i m most : ℕ} → Largest ks i most → m ≤ i → Largest ks m most
largest_all l h = record { each = λ k b. l.each k (omega arith) }

module _ {s : List ℕ} {n count : ℕ} {a : List ℕ} {exponents : List ℤ} where
  pub bases_none : {bs ks : List ℕ} → Bases s n count a exponents 0 bs ks
  bases_none = record { each = λ k h. absurd (omega arith) }

  pub bases_next : {bs ks : List ℕ} {i : ℕ} {e : ℤ} {b k : ℕ} → Bases s n count a exponents i bs ks → i < length bs → i < length ks
      → e ≡ get_or exponents i (pos 0) → Base s n count (get_or a i 0) e b k → Bases s n count a exponents (i + 1) (set bs i b) (set ks i k)
  bases_next {bs} {ks} {i} {e} {b} {k} B h g q base =
      record {
        each =
            below_more (λ (m : ℕ). Base s n count (get_or a m 0) (get_or exponents m (pos 0)) (get_or (set bs i b) m 0) (get_or (set ks i k) m 0)) i
            (λ m u. rw (before bs b u, before ks k u) (B.each m u))
            (rw (there bs b h, there ks k g, ← q) base);
      }

  pub bases_all : {bs ks : List ℕ} {i m : ℕ} → Bases s n count a exponents i bs ks → m ≤ i → Bases s n count a exponents m bs ks
  bases_all B h = record { each = λ k b. B.each k (omega arith) }
