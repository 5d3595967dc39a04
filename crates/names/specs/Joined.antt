-- The joined name as it is asked for. Order 1: "A joined name is written into a lent buffer. .. 18, .. joined name longer than the buffer, after 17;
-- nothing is written."
use Rattle.std.specs.Prelude.{ℕ, List, length, ltb}
use Rattle.egg.specs.Answers.{Counted}
use Rattle.std.specs.Prelude.{Ok, Err}
use Rattle.egg.specs.Table.{pick}
use Rattle.egg.specs.Answers.{numbered, if_count}
use Rattle.factor.specs.Questions.{filled_by}
use Rattle.group_handles.specs.Handles.{admits}
use Rattle.group_handles.specs.Counts.{on_counted}
use Rattle.names_values.specs.declared.NamedGroup.{NamedGroup}
use Rattle.names_joined.specs.Joined.{listed_names, joined_name, joined_length, at_start}

-- 18 where a buffer of `size` bytes is shorter than a joined name of k, else k.
abbrev pub room_for : ℕ → ℕ → Counted
room_for size k = pick (ltb size k) (Err (numbered 18 0 0 0)) (Ok k)

-- How many bytes are written into a buffer of `size` bytes. Refuses in this order: 17 for a recorded length above 32 or a handle that does not fit, 15
-- for a product too large, as every call on a product does, then 18.
unfoldable pub joined_answer : List ℕ → NamedGroup → ℕ → Counted
joined_answer t g size =
    on_counted (joined_length (listed_names g)) (λ k. if_count (admits (length t) g.group 0 1 0 1) (room_for size k))

-- What the buffer holds by the answer: the joined name at its start; where the call refuses, what it held.
abbrev pub joined_by : Counted → List ℕ → List ℕ → List ℕ
joined_by (Ok k) name out = at_start name out
joined_by (Err r) name out = out

-- What the buffer holds afterwards.
unfoldable pub joined_leaves : List ℕ → NamedGroup → List ℕ → List ℕ
joined_leaves t g out = joined_by (joined_answer t g (length out)) (joined_name (listed_names g)) out

-- The filled part of the buffer; where the call refuses, the empty start.
unfoldable pub joined_part : List ℕ → NamedGroup → List ℕ → List ℕ
joined_part t g out = filled_by (joined_answer t g (length out)) (joined_leaves t g out)
