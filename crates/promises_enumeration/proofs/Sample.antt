-- A case by computing: the orders [3] present a group that fits room 6.
use Prim.Native.Nat.{ℕ, ◌≤◌}
use mathlib.Core.Path.{◌≡◌, refl}
use mathlib.Core.Bool.{true}
use mathlib.Core.List.{List, [], ◌∷◌}
use native.Mathlib.Omega.{arith}
use lib.ListN.{length, replicate}
use Rattle.egg.specs.Answers.{fine}
use Rattle.egg.specs.Scan.{scan}
use Rattle.egg.specs.Pairs.{pair_count, orders_right}
use Rattle.egg.specs.Factor.{has_room}
use Rattle.build_lending.specs.Lending.{lent_right}
use Rattle.theory.specs.Presentation.{order_of}
use Rattle.enumeration_quick_laws.proofs.Sample.{triangle_swift}
use Rattle.promises_enumeration.specs.Presented.{FittingGroup}
use Rattle.promises_enumeration.proofs.Complete.{enumeration_done, enumeration_complete}

triangle_right : orders_right (3 ∷ []) 2 ≡ fine
unfolding orders_right pair_count scan
triangle_right = refl

-- Lent buffers, just long enough.
abbrev table : List ℕ
table = replicate 48 0

abbrev work : List ℕ
work = replicate 192 0

triangle_lent : lent_right (length table) 0 (length work) 6 2 ≡ true
unfolding lent_right has_room
triangle_lent = refl

pub triangle_fits : FittingGroup 2 (order_of (3 ∷ [])) 6
triangle_fits =
    let few : 2 ≤ 8 = omega arith in
    (enumeration_complete table 0 work (3 ∷ []) 2 6 few triangle_right triangle_lent).0
    ((enumeration_done table 0 work (3 ∷ []) 2 6 few triangle_right triangle_lent).1 (6, triangle_swift.0))
