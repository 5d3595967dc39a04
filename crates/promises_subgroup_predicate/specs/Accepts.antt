-- What it is for a predicate to be accepted, before anything is put back into the lent buffers.
use Rattle.std.specs.Prelude.{ℕ, ◌≡◌, List}
use Rattle.std.specs.Prelude.{Ok}
use Rattle.build_lending.specs.Finish.{built}
use Rattle.build_numbering.specs.Build.{Renumbering, renumbering}
use Rattle.subgroup_predicate_choices.specs.Choices.{Picked, picked}

-- A build by some elements was accepted: it has this many elements, and leaves these lists.
pub record Counts (r : Renumbering) : Type 0 where
  pub count : ℕ
  pub table : List ℕ
  pub work : List ℕ
  pub inn : List ℕ
  pub outw : List ℕ
  pub is : r ≡ renumbering (built (Ok count) table work) inn outw

-- The choosing ended with the elements gs, and the last build, by these, was accepted.
pub record Accepts (gs : List ℕ) (p : Picked) : Type 0 where
  pub build : Renumbering
  pub is : p ≡ picked gs build
  pub counts : Counts build
