-- A build by numbering in its stretches, with its checks and what it leaves in the maps. Document 01: "Once it has started, any refusal .. leaves the
-- needed stretch of table and work, and subgroup maps, zero. After acceptance, rows and map places beyond the last element and the whole needed work
-- stretch are zero."
use Rattle.std.specs.Prelude.{ℕ, List, replicate}
use Rattle.egg.specs.Answers.{Counted, Reached}
use Rattle.std.specs.Prelude.{Ok, Err}
use Rattle.build_lending.specs.Finish.{Built, built, zeroed, finished_placed}
use Rattle.build_numbering.specs.Renumber.{Mapped, mapped, map_all}

-- What a build answers and leaves in table and work, and what the two maps hold.
pub data Renumbering : Type 0 where
  renumbering : Built → List ℕ → List ℕ → Renumbering

-- What a map holds after a build: it stays where the build was counted, and is zero where it was refused.
abbrev pub kept_after : Counted → List ℕ → List ℕ
kept_after (Ok c) l = l
kept_after (Err r) l = zeroed l

-- What a build comes to, with both maps left so.
abbrev pub settled_maps : Built → List ℕ → List ℕ → Renumbering
settled_maps (built c t w) inn outw = renumbering (built c t w) (kept_after c inn) (kept_after c outw)

-- What a numbering left, and then the checks.
abbrev pub finished_mapped : Mapped → ℕ → List ℕ → Renumbering
finished_mapped (mapped p inn outw) n w = settled_maps (finished_placed p n w) inn outw

-- The whole build: `size` zeros of table, the work w, a numbering of what the source reaches from x₀ with maps of M and K numbers, and then the
-- checks.
unfoldable pub renumber_in : (size : ℕ) (w : List ℕ) (source : ℕ → ℕ → Reached) (n room M K x₀ : ℕ) → Renumbering
renumber_in size w source n room M K x₀ = finished_mapped (map_all source n room M K x₀ (replicate size 0)) n w
