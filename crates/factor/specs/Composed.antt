-- The call that makes a factor from a lent list of composed numbers: its refusals, and what every lent buffer holds then. Document 01, module 3:
-- "`from_compose_fn` becomes a lent table".
use Rattle.std.specs.Prelude.{ℕ, ◌*◌, List, ◌&&◌, length, take, ltb, leb}
use Rattle.egg.specs.Table.{pick}
use Rattle.build_lending.specs.Lending.{table_need, work_need, lent_right, refused_made, Making, making, lent_back}
unfoldable pub use Rattle.factor_composed_rows.specs.Rows.{composed_in}

-- What `from_composed` does: refusal 1, then 4, with every buffer as it was; then the build. "A composed list needs Rn entries."
unfoldable pub composed : (table : List ℕ) (start : ℕ) (work rows : List ℕ) (n room : ℕ) → Making
composed table start work rows n room =
    pick (ltb 8 n) (making (refused_made 1 n) table work)
    (pick (lent_right (length table) start (length work) room n && leb (room * n) (length rows))
    (lent_back table start work n room (composed_in (table_need n room) (take (work_need n room) work) rows n room))
    (making (refused_made 4 0) table work))
