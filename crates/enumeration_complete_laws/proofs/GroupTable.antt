-- What is used of the group's table, which is known beforehand: its loops close, and each element is reached from its parent, whose word is a letter shorter.
use Prim.Native.Nat.{ℕ, zero, suc, ◌<◌, ◌≤◌}
use mathlib.Core.Path.{◌≡◌, refl, ◌∙◌}
use mathlib.Core.List.{List}
use lib.ListN.{length}
use Rattle.theory.specs.Words.{walk, Parents}
use Rattle.theory.specs.Appearance.{parent_of_lem, last_of_lem}
use Rattle.theory.specs.Presentation.{pairs_below, order_of}
use Rattle.theory.proofs.Recording.{word_of_recorded, length_grow}
use Rattle.theory.proofs.FirstPlaces.{numbered_first, first_parents}
use Rattle.enumeration_loop_laws.specs.Rings.{ring, Looped}
use Rattle.enumeration_loop_laws.proofs.Walking.{ring_suc}
use Rattle.enumeration_quick_laws.proofs.Closing.{holds_looped}
use Rattle.theory_coxeter.specs.Coxeter.{turns}
use Rattle.theory_coxeter.specs.Tables.{PresentedTable}
use Rattle.theory_coxeter.proofs.Tables.{table, len}

pub ring_turns : (step : ℕ → ℕ → ℕ) (a b u k : ℕ) → ring step a b u k ≡ walk step u (turns a b k)
ring_turns step a b u zero = refl
ring_turns step a b u (suc k) = ring_suc step a b u k ∙ ring_turns step b a (step u a) k

pub looped : {n N : ℕ} (o : List ℕ) → n ≤ 8 → length o ≡ pairs_below n → {step : ℕ → ℕ → ℕ} → PresentedTable n N (order_of o) step → Looped n N o step
looped o few full P = holds_looped o few full (table P) P.holds

module _ {n N : ℕ} {m step : ℕ → ℕ → ℕ} (P : PresentedTable n N m step) where
  pub parents : Parents n N step (parent_of_lem n step) (last_of_lem n step)
  parents = first_parents (numbered_first P.numbered)

  pub len_grow : {e : ℕ} → 0 < e → e < N → len P e ≡ suc (len P (parent_of_lem n step e))
  len_grow pos he = length_grow (word_of_recorded parents) pos he
