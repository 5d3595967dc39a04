-- The builds of a predicate in the front of the work. A build by numbering takes no more elements than there is room, so that a work as long as the room serves as well as a longer one: both give the same
-- answer, table and maps, and each work is zero at the end. So all builds may be lent the front, if the whole is cleared once.
use Prim.Native.Nat.{ℕ, zero, suc, ◌+◌, ◌*◌, ◌≤◌}
use mathlib.Core.Path.{◌≡◌, refl, sym, ap, ◌∙◌}
use mathlib.Core.Bool.{Bool, true, false}
use mathlib.Core.List.{List, [], ◌∷◌, ◌++◌}
use native.Mathlib.Omega.{arith}
use lib.ListN.{length, get_or, take, drop, replicate, length-replicate, length-append, take-append-drop}
use lib.Seq.{length-take-le}
use lib.Dec.{eqb, ltb, leb}
use borrow.Author.Tests.{leb-true}
use Rattle.egg.specs.Answers.{Reached}
use Rattle.std.specs.Prelude.{Ok, Err}
use Rattle.egg.specs.Table.{pick, work_of}
use Rattle.egg.specs.Factor.{has_room}
use Rattle.egg.proofs.Rooms.{and_first, and_second}
use Rattle.build_reading.specs.Build.{adds}
use Rattle.build_reading.specs.Reading.{placed}
use Rattle.build_reading.proofs.Readings.{added_within}
use Rattle.build_checks.specs.Checks.{Checked, checked, check_group}
use Rattle.build_lending.specs.Finish.{Built, built, zeroed, settled_by, finished}
use Rattle.build_lending.specs.Lending.{work_need, lent_right}
use Rattle.build_lending.proofs.Finishing.{built_with, settled_like}
use Rattle.build_lending.proofs.Lending.{lent_table_lem, lent_enough}
use Rattle.build_checks_laws.proofs.Lengths.{checks_work}
use Rattle.build_numbering.specs.Renumber.{no_number, Mapped, mapped, then_mapped, on_new, map_place, map_from, map_row, map_rows, map_all}
use Rattle.build_numbering.specs.Build.{Renumbering, renumbering, settled_maps, finished_mapped, renumber_in}
use Rattle.subgroup_predicate_choices.specs.declared.inner.Picks.{Picks}
use Rattle.subgroup_predicate_choices.specs.Choices.{Picked, picked, ninth, is_new_member, chooses, again_in, picked_of}
use Rattle.subgroup_predicate.specs.Predicate.{predicate_in}
use Rattle.build_checks_laws.proofs.AnyWork.{Like, any_work}

-- At most as many elements as there is room.
module _ (room : ℕ) where
  abbrev Within : Mapped → Type 0
  Within (mapped (placed (Ok c) t) inn outw) = c ≤ room
  Within (mapped (placed (Err r) t) inn outw) = Unit {0}

  pick_within : (b : Bool) (u v : Mapped) → Within u → Within v → Within (pick b u v)
  pick_within true u v p q = p
  pick_within false u v p q = q

  then_within : (m : Mapped) (f : ℕ → List ℕ → List ℕ → List ℕ → Mapped) → Within m → ((c : ℕ) (t inn outw : List ℕ) → c ≤ room → Within (f c t inn outw))
      → Within (then_mapped m f)
  then_within (mapped (placed (Ok c) t) inn outw) f h g = g c t inn outw h
  then_within (mapped (placed (Err r) t) inn outw) f h g = tt

  new_within : (r : Reached) (t inn outw : List ℕ) (n count e g x : ℕ) (s : List ℕ) → r ≡ (adds s n room count (record { 0 = e }) (record { 0 = g })).answer
      → Within (on_new r t inn outw count x)
  new_within (Ok y) t inn outw n count e g x s q = let h = added_within s n room count (record { 0 = e }) (record { 0 = g }) q refl in omega arith
  new_within (Err r) t inn outw n count e g x s q = tt

  from_within : (r : Reached) (t inn outw : List ℕ) (n count e g : ℕ) → count ≤ room → Within (map_from r t inn outw n room count e g)
  unfolding map_place
  from_within (Ok x) t inn outw n count e g h =
      pick_within (eqb (get_or inn x.0 0) no_number) _ _
      (new_within (adds t n room count (record { 0 = e }) (record { 0 = g })).answer _ inn outw n count e g x.0 t refl) h
  from_within (Err r) t inn outw n count e g h = tt

  module _ (source : ℕ → ℕ → Reached) (n : ℕ) where
    row_within : (k e g count : ℕ) (t inn outw : List ℕ) → count ≤ room → Within (map_row k source n room e g count t inn outw)
    unfolding map_row
    row_within zero e g count t inn outw h = h
    row_within (suc k) e g count t inn outw h =
        then_within (map_from (source (get_or outw e 0) g) t inn outw n room count e g) _ (from_within (source (get_or outw e 0) g) t inn outw n count e g h)
        (λ c t' inn' outw' l. row_within k e (g + 1) c t' inn' outw' l)

    rows_within : (k e count : ℕ) (t inn outw : List ℕ) → count ≤ room → Within (map_rows k source n room e count t inn outw)
    unfolding map_rows
    rows_within zero e count t inn outw h = h
    rows_within (suc k) e count t inn outw h =
        pick_within (ltb e count) _ _
        (then_within (map_row n source n room e 0 count t inn outw) _ (row_within n e 0 count t inn outw h)
        (λ c t' inn' outw' l. rows_within k (e + 1) c t' inn' outw' l)) h

-- The same with another list for the work.
abbrev pub with_work : List ℕ → Renumbering → Renumbering
with_work v (renumbering (built c t w) inn outw) = renumbering (built c t v) inn outw

module _ (n : ℕ) (t w w' : List ℕ) where
  settled_with : (N : ℕ) (c c' : Checked) → check_group t w n N ≡ c → Like c c' → settled_by n N c ≡ built_with (zeroed w) (settled_by n N c')
  settled_with N (checked v t₁ w₁) (checked v' t₂ w₂) q L =
      settled_like n N w₁ w₂ L.0 L.1 ∙ ap (λ (k : ℕ). built_with (replicate k 0) (settled_by n N (checked v' t₂ w₂))) (checks_work t w n N q)

  finished_with : (N : ℕ) → N ≤ length w → N ≤ length w' → finished (Ok N) n t w ≡ built_with (zeroed w) (finished (Ok N) n t w')
  unfolding finished
  finished_with N h h' =
      settled_with N (check_group t w n N) (check_group t w' n N) refl (any_work t n N w w' (λ i a b. omega arith) (λ i a b. omega arith))

maps_with : (v : List ℕ) (b : Built) (inn outw : List ℕ) → settled_maps (built_with v b) inn outw ≡ with_work v (settled_maps b inn outw)
maps_with v (built c t w) inn outw = refl

mapped_with : (n room : ℕ) (w w' : List ℕ) → room ≤ length w → room ≤ length w' → (m : Mapped) → Within room m
    → finished_mapped m n w ≡ with_work (zeroed w) (finished_mapped m n w')
unfolding finished
mapped_with n room w w' h h' (mapped (placed (Ok N) t) inn outw) l =
    ap (λ (b : Built). settled_maps b inn outw) (finished_with n t w w' N (omega arith) (omega arith)) ∙ maps_with (zeroed w) (finished (Ok N) n t w') inn outw
mapped_with n room w w' h h' (mapped (placed (Err r) t) inn outw) l = refl

pub renumber_with : (size : ℕ) (w w' : List ℕ) (source : ℕ → ℕ → Reached) (n room M K x₀ : ℕ) → 1 ≤ room → room ≤ length w → room ≤ length w'
    → renumber_in size w source n room M K x₀ ≡ with_work (zeroed w) (renumber_in size w' source n room M K x₀)
unfolding renumber_in
renumber_with size w w' source n room M K x₀ some h h' =
    mapped_with n room w w' h h' (map_all source n room M K x₀ (replicate size 0)) (rows_within room source n room 0 1 (replicate size 0) _ _ some)

abbrev work_in : Renumbering → List ℕ
work_in (renumbering (built c t w) inn outw) = w

work_with : (v : List ℕ) (r : Renumbering) → work_in (with_work v r) ≡ v
work_with v (renumbering (built c t w) inn outw) = refl

abbrev picked_with : List ℕ → Picked → Picked
picked_with v (picked gens r) = picked gens (with_work v r)

zeroed_twice : (l : List ℕ) → zeroed (zeroed l) ≡ zeroed l
zeroed_twice l = ap (λ (k : ℕ). replicate k 0) (length-replicate {A = ℕ} (length l) 0)

-- One turn: a new member, and the builds go on or stop; or none.
picks_with : (v : List ℕ) (a b : Bool) (on' stop' stay' : Picked) {on stop stay : Picked} → on ≡ picked_with v on' → stop ≡ picked_with v stop' → stay ≡ picked_with v stay'
    → pick a (pick b on stop) stay ≡ picked_with v (pick a (pick b on' stop') stay')
picks_with v true true on' stop' stay' p q r = p
picks_with v true false on' stop' stay' p q r = q
picks_with v false b on' stop' stay' p q r = r

module _ (size : ℕ) (source : ℕ → ℕ → Reached) (room M K : ℕ) (byte : ℕ → ℕ) (some : 1 ≤ room) where
  again_with : (gens w w' : List ℕ) → room ≤ length w → room ≤ length w'
      → again_in size source room M K gens w ≡ with_work (zeroed w) (again_in size source room M K gens w')
  again_with gens w w' h h' = renumber_with size w w' (λ y g. source y (get_or gens g 0)) (length gens) room M K 0 some h h'

  again_long : (gens w : List ℕ) → room ≤ length w → room ≤ length (work_in (again_in size source room M K gens w))
  again_long gens w h =
      let q : work_in (again_in size source room M K gens w) ≡ zeroed w =
      ap work_in (again_with gens w w h h) ∙ work_with (zeroed w) (again_in size source room M K gens w) in
      rw (q, length-replicate {A = ℕ} (length w) 0) h

  module _ (v : List ℕ) (zero-already : zeroed v ≡ v) (long : room ≤ length v) where
    chooses_with : (k x : ℕ) (gens : List ℕ) (r : Renumbering) → room ≤ length (work_in r)
        → chooses k (again_in size source room M K) byte x gens (with_work v r) ≡ picked_with v (chooses k (again_in size source room M K) byte x gens r)
    unfolding chooses
    chooses_with zero x gens r h = refl
    chooses_with (suc k) x gens (renumbering (built (Err f) t w) inn outw) h = refl
    chooses_with (suc k) x gens (renumbering (built (Ok c) t w) inn outw) h =
        let more = gens ++ (x ∷ []) in
        let e : again_in size source room M K more v ≡ with_work v (again_in size source room M K more w) =
        again_with more v w long h ∙ ap (λ (l : List ℕ). with_work l (again_in size source room M K more w)) zero-already in
        let on : chooses k (again_in size source room M K) byte (x + 1) more (again_in size source room M K more v)
        ≡ picked_with v (chooses k (again_in size source room M K) byte (x + 1) more (again_in size source room M K more w)) =
        ap (λ (r : Renumbering). chooses k (again_in size source room M K) byte (x + 1) more r) e
        ∙ chooses_with k (x + 1) more (again_in size source room M K more w) (again_long more w h) in
        let stay = chooses_with k (x + 1) gens (renumbering (built (Ok c) t w) inn outw) h in
        let stop : picked gens (ninth t v inn outw) ≡ picked_with v (picked gens (ninth t w inn outw)) =
        ap (λ (l : List ℕ). picked_with l (picked gens (ninth t w inn outw))) zero-already in
        picks_with v (is_new_member inn byte x) (ltb (length gens) 8) _ _ _ on stop stay

  pub predicate_with : (w w' : List ℕ) → room ≤ length w → room ≤ length w'
      → predicate_in size w source room M K byte ≡ picked_with (zeroed w) (predicate_in size w' source room M K byte)
  predicate_with w w' h h' =
      ap (λ (r : Renumbering). chooses M (again_in size source room M K) byte 0 [] r) (again_with [] w w' h h')
      ∙ chooses_with (zeroed w) (zeroed_twice w) (rw (length-replicate {A = ℕ} (length w) 0) h) M 0 [] (again_in size source room M K [] w') (again_long [] w' h')

-- All of the work is zero, as long as it was, after the front has been given back.
pub cleared_whole : (w : List ℕ) (k : ℕ) (f : List ℕ) {x : List ℕ} → length f ≡ length (take k w) → x ≡ replicate (length (f ++ drop k w)) 0 → x ≡ zeroed w
cleared_whole w k f q z =
    z ∙ ap (λ (l : ℕ). replicate l 0)
    (length-append f (drop k w) ∙ ap (λ (l : ℕ). l + length (drop k w)) q ∙ sym (length-append (take k w) (drop k w)) ∙ ap length (take-append-drop k w))

-- What was lent has room for an element at least, and is as long as the room at least.
pub front_lent : (table start : ℕ) (work : List ℕ) (room : ℕ) {d : ℕ} → lent_right table start (length work) room 8 ≡ true → d ≡ work_need 8 room
    → (1 ≤ room) × (room ≤ length (take d work))
unfolding has_room
front_lent table start work room {d} h q =
    let a : 1 ≤ room = leb-true 1 room (and_first (leb 1 room) _ (and_second (leb 8 8) _ (lent_table_lem table start (length work) room 8 h))) in
    let b : room * work_of 8 ≤ length work = leb-true _ _ (lent_enough table start (length work) room 8 h) in
    let c : length (take d work) ≡ d = length-take-le d work (omega arith) in
    (a, omega arith)

pub told_front : (size : ℕ) (source : ℕ → ℕ → Reached) (room M K : ℕ) (byte : ℕ → ℕ) (w : List ℕ) (p : Picks) {t f x inn outw : List ℕ}
    → 1 ≤ room → room ≤ length w → x ≡ zeroed w → picked_of p t f inn outw ≡ predicate_in size (take room w) source room M K byte
    → picked_of p t x inn outw ≡ predicate_in size w source room M K byte
told_front size source room M K byte w p {t} {f} {x} {inn} {outw} some long z q =
    let front : length (take room w) ≡ room = length-take-le room w long in
    ap (λ (l : List ℕ). picked_of p t l inn outw) z ∙ ap (λ (y : Picked). picked_with (zeroed w) y) q
    ∙ sym (predicate_with size source room M K byte some w (take room w) (omega arith) (omega arith))
