-- Laws of a text that is put into a buffer part by part.
use Prim.Native.Nat.{ℕ, zero, suc, ◌+◌, ◌-◌, ◌≤◌}
use mathlib.Core.Path.{◌≡◌, refl, sym, ap, ◌∙◌}
use mathlib.Core.Bool.{true}
use mathlib.Core.List.{List, [], ◌∷◌, ◌++◌, append_assoc}
use native.Mathlib.Nat.{add-zero}
use native.Mathlib.Omega.{arith}
use borrow.Author.Tests.{leb-true}
use borrow.Rule.Slice.PartMut.{put_mid, Post-is}
use lib.ListN.{length, take, drop, length-append, length-drop, take-append-drop}
use lib.Seq.{length-take-le, take-length, take_at, drop_at, drop-drop, take-add, take-append_seam, drop-append_seam}
use lib.Dec.{leb}
use Rattle.egg.proofs.Rooms.{and_first}
use Rattle.names_values.specs.declared.Name.{Name}
use Rattle.names_values.specs.Names.{bytes_of}
use Rattle.names_joined.specs.Joined.{names_fit, gap_at, between, joined_from, joined_name, at_start, PutFrom}
use Rattle.names_joined.proofs.Sums.{fit_from}

-- A copy to the part from `at` on that is as long as what is copied, when that part is back.
pub copied_back : (out part : List ℕ) (at : ℕ) {p : List ℕ} → p ≡ part
    → PutFrom part out at (put_mid at (at + length part - at) out p) (at + length part)
copied_back out part at q =
    let e : at ≤ at + length part = omega arith in
    record { to = refl; is = rw (q, Post-is at (at + length part) out e) }

-- Before the first name nothing is put.
pub no_gap : (out : List ℕ) (at : ℕ) {f : ℕ} → f ≡ 0 → PutFrom (gap_at f) out at out at
no_gap out at e = record { to = rw (e, add-zero at); is = rw (e, add-zero at, take-append-drop at out) }

pub gap_between : (f : ℕ) → (f ≡ 0 → ⊥) → between ≡ gap_at f
gap_between zero e = absurd (e refl)
gap_between (suc f) e = refl

-- A buffer that has the text up to `at`, and from there on what it had before; `rest` of the text is left.
pub record Partway (text rest before : List ℕ) (at : ℕ) (out : List ℕ) : Type 0 where
  pub left : drop at text ≡ rest
  pub is : out ≡ take at text ++ drop at before
  pub small : at ≤ length text

module _ {text before : List ℕ} {at : ℕ} {out : List ℕ} where
  whole_put : Partway text [] before at out → out ≡ at_start text before
  whole_put w =
      let z : length text ≡ at = omega (arith, w.small, ap length w.left, length-drop at text) in
      w.is ∙ rw (← z, take-length text)

  pub as_long : {rest : List ℕ} → Partway text rest before at out → length text ≤ length before → length out ≡ length before
  as_long w room =
      ap length w.is ∙ omega (arith, room, w.small, length-append (take at text) (drop at before), length-take-le at text w.small, length-drop at before)

  module _ (part rest : List ℕ) (w : Partway text (part ++ rest) before at out) where
    part_room : length text ≤ length before → at + length part ≤ length out
    part_room room =
        omega (arith, as_long w room, room, w.small, ap length w.left, length-drop at text, length-append part rest)

    part_put : {end : ℕ} {after : List ℕ} → PutFrom part out at after end → Partway text rest before end after
    part_put p =
        let e : length (take at text) ≡ at = length-take-le at text w.small in
        let t : take at out ≡ take at text = ap (take at) w.is ∙ take_at (take at text) (drop at before) at e in
        let d : drop (at + length part) out ≡ drop (at + length part) before =
        sym (drop-drop (length part) at out) ∙ ap (λ z. drop (length part) (drop at z)) w.is
        ∙ ap (drop (length part)) (drop_at (take at text) (drop at before) at e) ∙ drop-drop (length part) at before in
        let k : take (at + length part) text ≡ take at text ++ part =
        take-add at (length part) text ∙ rw (w.left, take-append_seam part rest) in
        record {
          left = rw p.to (sym (drop-drop (length part) at text) ∙ rw (w.left, drop-append_seam part rest));
          is = p.is ∙ rw (p.to, t, d, k, append_assoc (take at text) part (drop (at + length part) before));
          small = omega (arith, p.to, w.small, ap length w.left, length-drop at text, length-append part rest);
        }

-- A buffer with the names before the place f, joined.
abbrev pub Joining : List Name → List ℕ → ℕ → ℕ → List ℕ → Type 0
Joining ms before f at out = Partway (joined_name ms) (joined_from f (drop f ms)) before at out

pub joining : (ms : List Name) (before : List ℕ) → Joining ms before 0 0 before
joining ms before = record { left = refl; is = refl; small = omega arith }

pub all_joined : (ms : List Name) (f : ℕ) {before out : List ℕ} {at : ℕ} → Joining ms before f at out → drop f ms ≡ [] → out ≡ at_start (joined_name ms) before
unfolding joined_from
all_joined ms f w e = whole_put (record { left = w.left ∙ ap (joined_from f) e; is = w.is; small = w.small })

-- A turn of the loop over the names: what stands before the name, and the name.
module _ (ms : List Name) (f : ℕ) {m : Name} (turn : drop f ms ≡ m ∷ drop (f + 1) ms) where
  pub fits_here : names_fit ms ≡ true → m.length ≤ 32
  unfolding names_fit
  fits_here h = leb-true _ _ (and_first (leb m.length 32) _ (sym (ap names_fit turn) ∙ fit_from f ms h))

  module _ {before out : List ℕ} {at : ℕ} (w : Joining ms before f at out) where
    abbrev after_gap : List ℕ
    after_gap = bytes_of m ++ joined_from (f + 1) (drop (f + 1) ms)

    opened : Partway (joined_name ms) (gap_at f ++ after_gap) before at out
    unfolding joined_from
    opened = record { left = w.left ∙ ap (joined_from f) turn; is = w.is; small = w.small }

    pub gap_room : length (joined_name ms) ≤ length before → at + length (gap_at f) ≤ length out
    gap_room = part_room (gap_at f) after_gap opened

    module _ {end : ℕ} {after : List ℕ} (p : PutFrom (gap_at f) out at after end) where
      gapped : Partway (joined_name ms) after_gap before end after
      gapped = part_put (gap_at f) after_gap opened p

      pub name_room : length (joined_name ms) ≤ length before → end + length (bytes_of m) ≤ length after
      name_room = part_room (bytes_of m) (joined_from (f + 1) (drop (f + 1) ms)) gapped

      pub joins_on : {to : ℕ} {last : List ℕ} → PutFrom (bytes_of m) after end last to → Joining ms before (f + 1) to last
      joins_on = part_put (bytes_of m) (joined_from (f + 1) (drop (f + 1) ms)) gapped
