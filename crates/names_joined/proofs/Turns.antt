-- Laws of the names that are listed: how many they are, and a turn of a loop over them.
use Prim.Native.Nat.{ℕ, ◌+◌, ◌<◌, min}
use mathlib.Core.Path.{◌≡◌, sym, ap, ◌∙◌}
use mathlib.Core.List.{List, [], ◌∷◌}
use lib.ListN.{length, get_or, take, drop, length-take}
use Rattle.group_handles.proofs.Lists.{front_turn}
use Rattle.names_values.specs.declared.NamedGroup.{NamedGroup}
use Rattle.names_joined.specs.Joined.{listed_names}

pub fronts_alike : {A B : Type 0} (n : ℕ) (xs : List A) (ys : List B) {k : ℕ} → length xs ≡ k → length ys ≡ k → length (take n xs) ≡ length (take n ys)
fronts_alike n xs ys p q = length-take n xs ∙ ap (min n) (p ∙ sym q) ∙ sym (length-take n ys)

-- A turn of a loop over the names of a product, by the place of its name.
pub name_turn : (g : NamedGroup) (f : ℕ) {k : ℕ} → k ≡ length (listed_names g) → f < k
    → drop f (listed_names g) ≡ get_or g.names f (record { bytes = []; length = 0 }) ∷ drop (f + 1) (listed_names g)
name_turn g f = front_turn g.group.count g.names f (record { bytes = []; length = 0 })
