-- This file states what an accepted build of a subgroup by a list of elements gives, over any group on 0 .. M-1.
use Rattle.std.specs.Prelude.{ℕ, ◌+◌, ◌*◌, ◌≤◌, ◌<◌, ◌≡◌, List, length, get_or, replicate}
use Rattle.egg.specs.Table.{step_of, back_of}
use Rattle.build_word_cells.specs.Hops.{Hops}
use Rattle.theory.specs.Regular.{compose, inverse}
use Rattle.build_checks_laws.specs.Stored.{word_of}
use Rattle.build_checks_laws.specs.Sound.{Sound, Ruled}
use Rattle.build_numbering.specs.Renumber as appear
use Rattle.build_numbering_laws.specs.Maps.{RenumberedLists}
use Rattle.theory.specs.Subgroup.{right_by, Generated, Proper}
use Rattle.promises_subgroup.specs.Carried.{MapsUndo, Homomorphic}

-- A table of c elements that passes the checks and follows the numbering rule; two maps that hold its numbering, undo each other and carry the
-- group's operation; the elements in the map are the subgroup that `gen` generates; and zeros beyond the last element and in the work.
pub record SubgroupMade (op : ℕ → ℕ → ℕ) (inv : ℕ → ℕ) (n M room K size L : ℕ) (gen : ℕ → ℕ) (c : ℕ) (t w inn outw : List ℕ) : Type 1 where
  pub sound : Sound t n c
  pub ruled : Ruled t n c
  pub hops : Hops t n c
  pub held : RenumberedLists n M room K (right_by op gen) 0 c (step_of t n) inn outw
  pub generated : Generated n M op inv gen (λ x. (x < M) × ¬ (get_or inn x 0 ≡ appear.no_number))
  pub proper : Proper n gen
  pub carried : MapsUndo M c (λ e. get_or outw e 0) (λ x. get_or inn x 0)
  pub homomorphic : Homomorphic c (compose (step_of t n) (word_of t n)) (inverse (back_of t n) (word_of t n)) op inv (λ e. get_or outw e 0)
  pub size_kept : length t ≡ size
  pub beyond : {i : ℕ} → c * (2 * n + 4) ≤ i → get_or t i 0 ≡ 0
  pub work_zero : w ≡ replicate L 0
