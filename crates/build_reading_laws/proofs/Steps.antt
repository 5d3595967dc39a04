-- The steps that a reading has stored when it comes to row x and column g with c elements known, and what one more step adds to them.
use Prim.Native.Nat.{ℕ, suc, ◌+◌, ◌*◌, ◌≤◌, ◌<◌}
use mathlib.Core.Path.{◌≡◌, sym, ◌∙◌}
use mathlib.Core.Logic.{⊎_elim}
use mathlib.Core.List.{List}
use native.Mathlib.Omega.{arith}
use lib.ListN.{length}
use Rattle.theory.specs.Appearance.{Ahead, row, column}
use Rattle.theory.proofs.Places.{ahead_column, ahead_row}
use Rattle.build_reading_laws.proofs.Stores.{cell, stepped, step_keeps, step_successor, step_predecessor, predecessor_or_kept}

pub record Steps (src : ℕ → ℕ → ℕ) (n x g c : ℕ) (t : List ℕ) : Type 0 where
  pub successor : {y h : ℕ} → h < n → Ahead y h x g → cell t n y h ≡ suc (src y h)
  pub predecessor : {r h e : ℕ} → h < n → cell t n r (n + h) ≡ suc e → (e < c) × (src e h ≡ r)
  pub arrived : {y h : ℕ} → h < n → Ahead y h x g → ¬ (cell t n (src y h) (n + h) ≡ 0)

ahead_apart : {y h x g : ℕ} → Ahead y h x g → y ≡ x → h ≡ g → ⊥
ahead_apart (row p) q r = omega arith
ahead_apart (column p p') q r = omega arith

module _ {src : ℕ → ℕ → ℕ} {n : ℕ} where
  -- A list with the same steps has the same to show, and more elements may be known.
  pub steps_same : {x g c d : ℕ} {t t' : List ℕ} → c ≤ d → ((e k : ℕ) → k < 2 * n → cell t' n e k ≡ cell t n e k)
      → Steps src n x g c t → Steps src n x g d t'
  steps_same {c = c} {d} more same S = record {
    successor = λ {y} {h} hh a. same y h (omega arith) ∙ S.successor hh a;
    predecessor = λ {r} {h} {e} hh q.
        let p = S.predecessor hh (sym (same r (n + h) (omega arith)) ∙ q) in
        (omega (arith, p.0), p.1);
    arrived = λ {y} {h} hh a q. S.arrived hh a (sym (same (src y h) (n + h) (omega arith)) ∙ q);
  }

  -- After a row comes the next.
  pub steps_row : {x c : ℕ} {t : List ℕ} → Steps src n x n c t → Steps src n (suc x) 0 c t
  steps_row S = record {
    successor = λ hh a. S.successor hh (ahead_row hh a);
    predecessor = S.predecessor;
    arrived = λ hh a. S.arrived hh (ahead_row hh a);
  }

  module _ {x g c v : ℕ} {t : List ℕ} (S : Steps src n x g c t) (hg : g < n) (is : src x g ≡ v)
      (hx : x < c) (hv : v < c) (fits : c * (2 * n + 4) ≤ length t) (small : c ≤ 65535) where
    next_successor : {y h : ℕ} → h < n → Ahead y h x (suc g) → cell (stepped t n x g v) n y h ≡ suc (src y h)
    next_successor {y} {h} hh a = ⊎_elim
        (λ e. rw (e.0, e.1, is) (step_successor t n x g v hg hx hv fits small))
        (λ b. step_keeps t n x g v hg y h (omega arith) (ahead_apart b) (λ p q. omega arith) ∙ S.successor hh b)
        (ahead_column a)

    next_predecessor : {r h e : ℕ} → h < n → cell (stepped t n x g v) n r (n + h) ≡ suc e → (e < c) × (src e h ≡ r)
    next_predecessor {r} {h} {e} hh q = ⊎_elim
        (λ p. let i : e ≡ x = omega (arith, p.2, q) in (omega arith, rw (i, p.0, p.1) is))
        (λ k. S.predecessor hh (sym k ∙ q))
        (predecessor_or_kept t n x g v hg hx hv fits small r h hh)

    next_arrived : {y h : ℕ} → h < n → Ahead y h x (suc g) → ¬ (cell (stepped t n x g v) n (src y h) (n + h) ≡ 0)
    next_arrived {y} {h} hh a q = ⊎_elim
        (λ p. omega (arith, p.2, q))
        (λ k. ⊎_elim
        (λ e. omega (arith, rw (e.0, e.1, is) at q, step_predecessor t n x g v hg hx hv fits small))
        (λ b. S.arrived hh b (sym k ∙ q))
        (ahead_column a))
        (predecessor_or_kept t n x g v hg hx hv fits small (src y h) h hh)

    pub steps_next : Steps src n x (suc g) c (stepped t n x g v)
    steps_next = record { successor = next_successor; predecessor = next_predecessor; arrived = next_arrived }
