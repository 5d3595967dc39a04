-- This file states what an accepted predicate form gives, over any group on 0 .. M-1.
use Rattle.std.specs.Prelude.{ℕ, ◌+◌, ◌*◌, ◌≤◌, ◌<◌, ◌≡◌, ◌↔◌, List, length, get_or, replicate}
use Rattle.egg.specs.Table.{step_of, back_of}
use Rattle.theory.specs.Regular.{compose, inverse}
use Rattle.build_checks_laws.specs.Stored.{word_of}
use Rattle.build_checks_laws.specs.Sound.{Sound}
use Rattle.build_numbering.specs.Renumber as appear
use Rattle.build_numbering_laws.specs.Maps.{RenumberedLists}
use Rattle.theory.specs.Subgroup.{right_by, Generated, Proper}
use Rattle.promises_subgroup.specs.Carried.{MapsUndo, Homomorphic}
use Rattle.promises_subgroup_predicate.specs.Predicate.{Reach, Chosen}

-- The generators `gens` were chosen as the bytes tell; a table of c elements passes the checks; two maps hold its numbering, undo each other and
-- carry the group's operation; the elements in the map are those that `gens` generate; and there are zeros beyond the last element and in the work.
pub record Told (op : ℕ → ℕ → ℕ) (inv byte : ℕ → ℕ) (M room K size L : ℕ) (gens : List ℕ) (c : ℕ) (t w inn outw : List ℕ) : Type 1 where
  pub chosen : Chosen op byte M gens
  pub proper : Proper (length gens) (λ g. get_or gens g 0)
  pub generated : Generated (length gens) M op inv (λ g. get_or gens g 0) (Reach op gens (length gens))
  pub in_map : (y : ℕ) → y < M → (¬ (get_or inn y 0 ≡ appear.no_number)) ↔ Reach op gens (length gens) y
  pub held : RenumberedLists (length gens) M room K (right_by op (λ g. get_or gens g 0)) 0 c (step_of t (length gens)) inn outw
  pub sound : Sound t (length gens) c
  pub carried : MapsUndo M c (λ e. get_or outw e 0) (λ x. get_or inn x 0)
  pub homomorphic : Homomorphic c (compose (step_of t (length gens)) (word_of t (length gens))) (inverse (back_of t (length gens)) (word_of t (length gens)))
      op inv (λ e. get_or outw e 0)
  pub size_kept : length t ≡ size
  pub beyond : {i : ℕ} → c * (2 * length gens + 4) ≤ i → get_or t i 0 ≡ 0
  pub work_zero : w ≡ replicate L 0
