-- A finite group that the orders present, on any carrier, fits; and a table that fits is that of such a group.
use Prim.Native.Nat.{ℕ, zero, suc, ◌<◌, ◌≤◌}
use mathlib.Core.Path.{◌≡◌, refl, sym, ap, ◌∙◌}
use mathlib.Core.List.{List, []}
use native.Mathlib.Decide.{ℕ_discrete}
use native.Mathlib.Omega.{arith}
use lib.ListN.{length}
use Rattle.theory.specs.Words.{Word, empty, letter}
use Rattle.theory.specs.AnyGroup.{word_product}
use Rattle.theory.specs.Presentation.{Equiv, same}
use Rattle.theory.proofs.Walking.{word_append}
use Rattle.theory.proofs.AnyCarrier.{elt_zero}
use Rattle.theory.proofs.Universal.{equiv_product}
use Rattle.theory_coxeter.specs.Groups.{PresentedGroup}
use Rattle.theory_coxeter.proofs.Algebra.{product_one}
use Rattle.theory_coxeter.proofs.Tables.{table_group}
use Rattle.promises_enumeration.specs.Presented.{FittingTable, FittingGroup}
use Rattle.promises_enumeration.specs.Spanning.{Spanning, Decided}
use Rattle.promises_enumeration.proofs.Quotient.{spanning_fitting}

module _ {n N : ℕ} {m : ℕ → ℕ → ℕ} (P : PresentedGroup n N m 4096) where
  open P use {Carrier, group, gen, numbers, presents, word}
  open numbers use {num, elt}

  -- A word for each number; the identity's is empty.
  abbrev word_at : ℕ → List ℕ
  word_at zero = []
  word_at (suc e) = word (elt (suc e))

  abbrev next : ℕ → ℕ → ℕ
  next e g = num (group.op (elt e) (gen g))

  spelled : (e : ℕ) → word_product group gen (word_at e) ≡ elt e
  spelled zero = sym (elt_zero numbers)
  spelled (suc e) = P.spells (elt (suc e))

  over : (e : ℕ) → Word n (word_at e)
  over zero = empty
  over (suc e) = P.over (elt (suc e))

  short : (e : ℕ) → length (word_at e) ≤ 4096
  short zero = omega arith
  short (suc e) = P.short (elt (suc e))

  spans : Spanning n N m word_at next
  spans = record {
    some = omega (arith, numbers.num_below group.unit);
    start = refl;
    over = λ {e} he. over e;
    closed = λ {e} {g} he hg. numbers.num_below (group.op (elt e) (gen g));
    leads = λ {e} {g} he hg. presents.faithful (word_append (over e) (letter hg empty)) (over (next e g))
        (product_one group gen (word_at e) g ∙ ap (λ x. group.op x (gen g)) (spelled e) ∙ sym (spelled (next e g) ∙ numbers.elt_num (group.op (elt e) (gen g))));
  }

  tells : Decided n N m word_at
  tells = record { decide = λ x y hx hy. by x y hx hy (ℕ_discrete x y) } where
    by : (x y : ℕ) → x < N → y < N → Dec (x ≡ y) → Dec (Equiv n m (word_at x) (word_at y))
    by x y hx hy (yes e) = yes (rw e same)
    by x y hx hy (no d) = no (λ q. d (sym (numbers.num_elt hx)
        ∙ ap num (sym (spelled x) ∙ equiv_product group gen (λ r R. presents.holds R) q ∙ spelled y) ∙ numbers.num_elt hy))

  presented_fitting : {room : ℕ} → N ≤ room → FittingTable n m room
  presented_fitting fits = spanning_fitting spans tells fits (λ e he. short e)

pub group_fitting : {n : ℕ} {m : ℕ → ℕ → ℕ} {room : ℕ} → FittingGroup n m room → FittingTable n m room
group_fitting G = presented_fitting G.presented G.within_room

pub fitting_group : {n : ℕ} {m : ℕ → ℕ → ℕ} {room : ℕ} → FittingTable n m room → FittingGroup n m room
fitting_group F = record { N = F.N; within_room = F.within_room; presented = table_group F.presented F.short }
