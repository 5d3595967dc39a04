-- What a C function over lists leaves. Beside `out`, the list of the results, it is lent a list `told` for its verdict, which has five numbers: the
-- refusal's number and its three places, and the place of the lists that it was given at.
-- Assumes nothing.
use Rattle.std.specs.Prelude.{ℕ, List, [], ◌∷◌}
use Rattle.egg.specs.Table.{put_at}
use Rattle.capi_values.specs.Bridge.{papered, Telling, telling, in_out}
use Rattle.lists.specs.Answers.{Listed}
use Rattle.lists.specs.Lists.{listed_paper, Answered, answered}

-- The verdict, and after it the place of the lists; where they have none, 0.
unfoldable pub listed_into : Listed → List ℕ → List ℕ
listed_into said told = put_at (papered (listed_paper said).refusal told) 4 (listed_paper said).place

-- The call's answer: the number that is returned, the verdict, and the results.
abbrev pub listed_told : Answered → List ℕ → Telling
listed_told (answered said out) told = telling (listed_paper said).refusal.number (listed_into said told) (out ∷ [])

-- "4 | .. a lent buffer short": where `told` has fewer than 5 numbers, 4 is returned before anything else is looked at, and no list is touched. Else it is
-- the call's answer.
abbrev pub told_of : (told out : List ℕ) → Answered → Telling
told_of told out said = in_out 5 told (out ∷ []) (listed_told said told)
