-- Which numbers a refusal may have: lists of refusal numbers, and that a refusal's is among them.
use Rattle.egg.specs.Refusals.{refusal_paper}
use Rattle.std.specs.Prelude.{ℕ, ◌≡◌, Bool, true, false, List, [], ◌∷◌, eqb}
use Rattle.egg.specs.declared.Refusal.{Refusal}
use Rattle.egg.specs.Table.{pick}

-- True where k is in the list.
abbrev pub member : ℕ → List ℕ → Bool
member k [] = false
member k (x ∷ l) = pick (eqb k x) true (member k l)

-- True where p holds of each number of the list.
abbrev pub every : (ℕ → Bool) → List ℕ → Bool
every p [] = true
every p (x ∷ l) = pick (p x) (every p l) false

-- The refusal's number is in the list.
abbrev pub RefusalIn : List ℕ → Refusal → Type 0
RefusalIn l r = member (refusal_paper r).number l ≡ true

-- The numbers of the refusals that are checked after 8.
abbrev pub late_numbers : List ℕ
late_numbers = 9 ∷ 10 ∷ 11 ∷ 12 ∷ []
