-- The choice as a loop runs: one law for each way that a turn goes, and turns one after another.
use Prim.Native.Nat.{ℕ, zero, suc, ◌+◌, ◌-◌, ◌≤◌, ◌<◌}
use mathlib.Core.Path.{◌≡◌, refl, sym, ap, ◌∙◌}
use mathlib.Core.Bool.{Bool, true, false, not}
use mathlib.Core.List.{List, [], ◌∷◌, ◌++◌}
use native.Mathlib.Numerals.{add-one}
use native.Mathlib.Omega.{arith}
use borrow.Author.Tests.{eq-eqb, ne_eqb, lt-ltb, le-ltb}
use lib.ListN.{length, get_or, take, set, length-set, length-append}
use lib.Seq.{length-take-le, take-suc-set}
use lib.Dec.{eqb, ltb}
use Rattle.egg.specs.declared.Refusal.{Refusal}
use Rattle.egg.specs.Answers.{Counted, Reached}
use Rattle.std.specs.Prelude.{Ok, Err}
use Rattle.egg.specs.Table.{pick}
use Rattle.egg.proofs.Scans.{left_suc}
use Rattle.egg.specs.Answers.{numbered}
use Rattle.build_lending.specs.Finish.{built, zeroed}
use Rattle.build_numbering.specs.Renumber as appear
use Rattle.build_numbering.specs.Build.{Renumbering, renumbering, renumber_in}
use Rattle.subgroup_predicate_choices.specs.declared.inner.Picks.{Picks}
use Rattle.subgroup_predicate_choices.specs.Choices.{Picked, picked, ninth, is_new_member, chooses, again_in, ChosenOfEight, LastBuilt}

module _ (inn : List ℕ) (byte : ℕ → ℕ) (x : ℕ) {v : ℕ} (q : v ≡ get_or inn x 0) where
  pub new_known : ¬ (v ≡ appear.no_number) → false ≡ is_new_member inn byte x
  new_known h = let z : ¬ (get_or inn x 0 ≡ appear.no_number) = λ e. h (q ∙ e) in rw (ne_eqb (get_or inn x 0) appear.no_number z)

  pub new_byte : v ≡ appear.no_number → {y : ℕ} → y ≡ byte x → not (eqb y 0) ≡ is_new_member inn byte x
  new_byte h p = let z : get_or inn x 0 ≡ appear.no_number = sym q ∙ h in rw (eq-eqb (get_or inn x 0) appear.no_number z, p)

pub set_long : (l : List ℕ) (i v : ℕ) {n : ℕ} → length l ≡ n → length (set l i v) ≡ n
set_long l i v q = simp length-set q

pub eight_as : {p r : Picks} → r.generators ≡ p.generators → r.chosen ≡ p.chosen → ChosenOfEight p → ChosenOfEight r
eight_as g l h = record { few = rw g h.few; long = ap length l ∙ h.long }

pub last_built : {p : Picks} {n : ℕ} → p.made ≡ Ok n → LastBuilt p
last_built {n = n} e = record { elements = n; is = e }

-- All that was built is zero again.
pub ninth_is : (gens : List ℕ) (t w inn outw : List ℕ) {t' w' inn' outw' : List ℕ} → t' ≡ zeroed t → w' ≡ zeroed w → inn' ≡ zeroed inn → outw' ≡ zeroed outw
    → picked gens (renumbering (built (Err (numbered 15 0 0 0)) t' w') inn' outw') ≡ picked gens (ninth t w inn outw)
ninth_is gens t w inn outw a b c d = rw (a, b, c, d)

gens_length : (chosen : List ℕ) (k : ℕ) → length chosen ≡ 8 → k ≤ 8 → length (take k chosen) ≡ k
gens_length chosen k long few = length-take-le k chosen (rw long few)

-- One turn, with the chosen in the first k places of eight.
module _ (size room M K : ℕ) (source : ℕ → ℕ → Reached) (byte : ℕ → ℕ) (x : ℕ) (chosen : List ℕ) (k : ℕ) (long : length chosen ≡ 8) (few : k ≤ 8)
    (made : Counted) (t w inn outw : List ℕ) where
  module _ {c : ℕ} (e : made ≡ Ok c) {b : Bool} (q : b ≡ is_new_member inn byte x) where
    pub turn_known : b ≡ false
        → picked (take k chosen) (renumbering (built made t w) inn outw)
        ≡ chooses 1 (again_in size source room M K) byte x (take k chosen) (renumbering (built made t w) inn outw)
    unfolding chooses
    turn_known z = rw (e, ← q, z)

    pub turn_ninth : b ≡ true → 8 ≤ k
        → picked (take k chosen) (ninth t w inn outw)
        ≡ chooses 1 (again_in size source room M K) byte x (take k chosen) (renumbering (built made t w) inn outw)
    unfolding chooses
    turn_ninth z h = rw (e, ← q, z, gens_length chosen k long few, le-ltb k 8 h)

    module _ (z : b ≡ true) (h : k < 8) where
      more : take (k + 1) (set chosen k x) ≡ take k chosen ++ (x ∷ [])
      more = let l : k < length chosen = rw long h in rw add-one (take-suc-set chosen k x l)

      more_length : k + 1 ≡ length (take k chosen ++ (x ∷ []))
      more_length = sym (length-append (take k chosen) (x ∷ []) ∙ ap (λ (y : ℕ). y + 1) (gens_length chosen k long few))

      pub turn_next : {made' : Counted} {t' w' inn' outw' : List ℕ}
          → renumbering (built made' t' w') inn' outw'
          ≡ renumber_in size w (λ y g. source y (get_or (take (k + 1) (set chosen k x)) g 0)) (k + 1) room M K 0
          → picked (take (k + 1) (set chosen k x)) (renumbering (built made' t' w') inn' outw')
          ≡ chooses 1 (again_in size source room M K) byte x (take k chosen) (renumbering (built made t w) inn outw)
      unfolding chooses
      turn_next {made'} {t'} {w'} {inn'} {outw'} s =
          let u : renumbering (built made' t' w') inn' outw' ≡ again_in size source room M K (take k chosen ++ (x ∷ [])) w =
          s ∙ ap (λ (l : List ℕ). renumber_in size w (λ y g. source y (get_or l g 0)) (k + 1) room M K 0) more
          ∙ ap (λ (m : ℕ). renumber_in size w (λ y g. source y (get_or (take k chosen ++ (x ∷ [])) g 0)) m room M K 0) more_length in
          rw (e, ← q, z, gens_length chosen k long few, lt-ltb k 8 h)
          (ap (λ (l : List ℕ). picked l (renumbering (built made' t' w') inn' outw')) more
          ∙ ap (λ (r : Renumbering). picked (take k chosen ++ (x ∷ [])) r) u)

pub next_eight : {p : Picks} (chosen : List ℕ) (k x : ℕ) → length chosen ≡ 8 → k < 8 → p.generators ≡ k + 1 → p.chosen ≡ set chosen k x → ChosenOfEight p
next_eight chosen k x long h g l = record { few = rw g (omega arith); long = ap length l ∙ set_long chosen k x long }

-- Turns one after another.
abbrev on_picked : Picked → (List ℕ → Renumbering → Picked) → Picked
on_picked (picked gens r) f = f gens r

module _ (again : List ℕ → List ℕ → Renumbering) (byte : ℕ → ℕ) where
  stopped : (k x : ℕ) (gens : List ℕ) (f : Refusal) (t w inn outw : List ℕ)
      → picked gens (renumbering (built (Err f) t w) inn outw) ≡ chooses k again byte x gens (renumbering (built (Err f) t w) inn outw)
  unfolding chooses
  stopped zero x gens f t w inn outw = refl
  stopped (suc k) x gens f t w inn outw = refl

  one_then : (k x : ℕ) (gens : List ℕ) (r : Renumbering)
      → chooses (suc k) again byte x gens r ≡ on_picked (chooses 1 again byte x gens r) (λ g s. chooses k again byte (x + 1) g s)
  unfolding chooses
  one_then k x gens (renumbering (built (Err f) t w) inn outw) = stopped k (x + 1) gens f t w inn outw
  one_then k x gens (renumbering (built (Ok c) t w) inn outw) = by (is_new_member inn byte x) (ltb (length gens) 8) where
    by : (a b : Bool) → pick a (pick b (chooses k again byte (x + 1) (gens ++ (x ∷ [])) (again (gens ++ (x ∷ [])) w)) (picked gens (ninth t w inn outw)))
        (chooses k again byte (x + 1) gens (renumbering (built (Ok c) t w) inn outw))
        ≡ on_picked (pick a (pick b (picked (gens ++ (x ∷ [])) (again (gens ++ (x ∷ [])) w)) (picked gens (ninth t w inn outw)))
        (picked gens (renumbering (built (Ok c) t w) inn outw))) (λ g s. chooses k again byte (x + 1) g s)
    by true true = refl
    by true false = stopped k (x + 1) gens _ (zeroed t) (zeroed w) (zeroed inn) (zeroed outw)
    by false b = refl

  pub turn_on : (m x : ℕ) (gens : List ℕ) (r : Renumbering) {gens' : List ℕ} {r' : Renumbering} {whole : Picked} → x < m → chooses (m - x) again byte x gens r ≡ whole
      → picked gens' r' ≡ chooses 1 again byte x gens r → chooses (m - (x + 1)) again byte (x + 1) gens' r' ≡ whole
  turn_on m x gens r h q p =
      ap (λ (y : Picked). on_picked y (λ g s. chooses (m - (x + 1)) again byte (x + 1) g s)) p
      ∙ sym (one_then (m - (x + 1)) x gens r) ∙ ap (λ (k : ℕ). chooses k again byte x gens r) (sym (left_suc h)) ∙ q

  pub turns_begin : (m : ℕ) (gens : List ℕ) (r : Renumbering) → chooses (m - 0) again byte 0 gens r ≡ chooses m again byte 0 gens r
  turns_begin m gens r = let d : m - 0 ≡ m = omega arith in ap (λ (k : ℕ). chooses k again byte 0 gens r) d

  pub turns_end : (m x : ℕ) {gens : List ℕ} {r : Renumbering} {whole : Picked} → m ≤ x → chooses (m - x) again byte x gens r ≡ whole → picked gens r ≡ whole
  unfolding chooses
  turns_end m x {gens} {r} h q = let d : m - x ≡ 0 = omega arith in sym (ap (λ (k : ℕ). chooses k again byte x gens r) d) ∙ q

  -- After a refusal no turn changes anything.
  pub turns_stop : (k x : ℕ) (gens : List ℕ) (made : Counted) (t w inn outw : List ℕ) {f : Refusal} {whole : Picked} → made ≡ Err f
      → chooses k again byte x gens (renumbering (built made t w) inn outw) ≡ whole → picked gens (renumbering (built made t w) inn outw) ≡ whole
  turns_stop k x gens made t w inn outw {f} e q =
      ap (λ (m : Counted). picked gens (renumbering (built m t w) inn outw)) e ∙ stopped k x gens f t w inn outw
      ∙ ap (λ (m : Counted). chooses k again byte x gens (renumbering (built m t w) inn outw)) (sym e) ∙ q

-- A turn in lists that are as long as the first ones.
pub turn_lengths : {size size' M M' K K' : ℕ} (source : ℕ → ℕ → Reached) (room : ℕ) (byte : ℕ → ℕ) (x : ℕ) (gens : List ℕ) (r : Renumbering) {y : Picked}
    → size ≡ size' → M ≡ M' → K ≡ K' → y ≡ chooses 1 (again_in size source room M K) byte x gens r → y ≡ chooses 1 (again_in size' source room M' K') byte x gens r
turn_lengths source room byte x gens r a b c q = q ∙ rw (a, b, c)
