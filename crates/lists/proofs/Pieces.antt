-- Laws of places that are asked a piece at a time, each piece before those behind it.
-- Assumes nothing.
use Prim.Native.Nat.{ℕ, zero, suc, ◌+◌, ◌-◌, ◌≤◌, ◌<◌}
use mathlib.Core.Path.{◌≡◌, refl, sym, ap, ◌∙◌, subst}
use mathlib.Core.Bool.{Bool, true}
use mathlib.Core.List.{List}
use native.Mathlib.Decide.{dec_lt}
use native.Mathlib.Nat.{sub-zero}
use native.Mathlib.Omega.{arith}
use borrow.Rule.Slice.PartMut.{put_mid, drop_put, mid_of, mid_len}
use lib.ListN.{length, get_or, take}
use lib.Seq.{get_or-take, get_or-drop, ext_get_or}
use Rattle.egg.specs.Answers.{Reached}
use Rattle.std.specs.Prelude.{Ok, Err}
use Rattle.lists.specs.declared.ListRefusal.{ListRefusal}
use Rattle.lists.specs.Answers.{Listed, fine}
use Rattle.lists.specs.declared.ListRefusal.TheVariants.{RefusedAt, ListsRefused}
use Rattle.lists.specs.Lists.{first_refused, number_of, numbers, left_by, answered, each_place, listed_paper, lengths_right, over_lists}
use Rattle.lists.specs.Passes.{ChunkEnd}
use Rattle.lists.specs.Worked.{Worked, WorkedFrom, behind_by, PieceOver}
use Rattle.lists.proofs.Lengths.{right_lengths}
use Rattle.lists.proofs.Answers.{lists_right}
use Rattle.lists.proofs.Parts.{put_before, put_in}
use Rattle.lists.proofs.Places.{numbers_long, numbers_at, refused_right}

-- The first refusal, where the first m places are all right, and where they are not.
split_fine : (m k n : ℕ) (single : ℕ → Reached) (i : ℕ) → n ≡ k + m → first_refused m single i ≡ fine → first_refused n single i ≡ first_refused k single (i + m)
unfolding first_refused
split_fine zero k n single i sum good = let p : n ≡ k = omega arith in let q : i ≡ i + 0 = omega arith in ap (λ (x : ℕ). first_refused x single i) p ∙ ap (first_refused k single) q
split_fine (suc m) k zero single i sum good = absurd (omega arith)
split_fine (suc m) k (suc n) single i sum good = go (λ h. split_fine m k n single (i + 1) (omega arith) h) (single i) refl where
  go : (first_refused m single (i + 1) ≡ fine → first_refused n single (i + 1) ≡ first_refused k single (i + 1 + m)) → (x : Reached) → single i ≡ x
      → first_refused (suc n) single i ≡ first_refused k single (i + suc m)
  go later (Ok e) q =
      let next : i + 1 + m ≡ i + suc m = omega arith in
      let rest : first_refused m single (i + 1) ≡ fine = sym (rw q) ∙ good in
      rw q (later rest ∙ ap (first_refused k single) next)
  go later (Err r) q = let stop : first_refused (suc m) single i ≡ Err (RefusedAt (record { place = i; why = r })) = rw q in absurd (refused_right (sym stop ∙ good))

split_stop : (m n : ℕ) (single : ℕ → Reached) (i : ℕ) → m ≤ n → (first_refused m single i ≡ fine → ⊥) → first_refused n single i ≡ first_refused m single i
unfolding first_refused
split_stop zero n single i more wrong = absurd (wrong refl)
split_stop (suc m) zero single i more wrong = absurd (omega arith)
split_stop (suc m) (suc n) single i more wrong = go (λ h. split_stop m n single (i + 1) (omega arith) h) (single i) refl where
  go : ((first_refused m single (i + 1) ≡ fine → ⊥) → first_refused n single (i + 1) ≡ first_refused m single (i + 1)) → (x : Reached) → single i ≡ x
      → first_refused (suc n) single i ≡ first_refused (suc m) single i
  go later (Ok e) q =
      let same : first_refused (suc m) single i ≡ first_refused m single (i + 1) = rw q in
      rw q (later (λ h. wrong (same ∙ h)))
  go later (Err r) q = rw q

-- The places of a piece are those of the whole from i on.
shifted : (m : ℕ) (part single : ℕ → Reached) (i s : ℕ) → ((j : ℕ) → s ≤ j → j < s + m → part j ≡ single (i + j)) → behind_by i (first_refused m part s) ≡ first_refused m single (i + s)
unfolding first_refused
shifted zero part single i s same = refl
shifted (suc m) part single i s same =
    go (shifted m part single i (s + 1) (λ j u v. same j (omega arith) (omega arith))) (single (i + s)) refl (same s (omega arith) (omega arith)) where
      go : behind_by i (first_refused m part (s + 1)) ≡ first_refused m single (i + (s + 1)) → (x : Reached) → single (i + s) ≡ x → part s ≡ single (i + s)
          → behind_by i (first_refused (suc m) part s) ≡ first_refused (suc m) single (i + s)
      go later (Ok e) q here =
          let next : i + (s + 1) ≡ i + s + 1 = omega arith in
          let own : part s ≡ Ok e = here ∙ q in
          rw (own, q) (later ∙ ap (first_refused m single) next)
      go later (Err r) q here = let own : part s ≡ Err r = here ∙ q in rw (own, q)

refused_below : (m : ℕ) (part : ℕ → Reached) (s : ℕ) → (listed_paper (first_refused m part s)).place ≤ s + m
unfolding first_refused
refused_below zero part s = omega arith
refused_below (suc m) part s = go (refused_below m part (s + 1)) (part s) refl where
  go : (listed_paper (first_refused m part (s + 1))).place ≤ s + 1 + m → (x : Reached) → part s ≡ x → (listed_paper (first_refused (suc m) part s)).place ≤ s + suc m
  go later (Ok e) q = rw q (omega (arith, later))
  go later (Err r) q = rw q (omega arith)

module _ {m : ℕ} {part : ℕ → Reached} {said : Listed} {piece : List ℕ} (w : Worked m part said piece) where
  -- A refused place of a piece is one of its own.
  place_within : {why : ListRefusal} → said ≡ Err why → (listed_paper (Err why)).place ≤ m
  place_within {why} q =
      let own : Err why ≡ first_refused m part 0 = sym q ∙ w.told in
      let h : (listed_paper (Err why)).place ≤ 0 + m = subst (λ (x : Listed). (listed_paper x).place ≤ 0 + m) (sym own) (refused_below m part 0) in
      omega (arith, h)

  number_there : said ≡ fine → (j : ℕ) → j < m → get_or piece j 0 ≡ number_of (part j)
  number_there good j u = sym (get_or-take m piece j 0 u) ∙ ap (λ (l : List ℕ). get_or l j 0) (w.filled good) ∙ numbers_at m part 0 j j u (omega arith)

-- No place is left.
pub none_left : {i k : ℕ} {single : ℕ → Reached} (out : List ℕ) → k ≤ i → WorkedFrom i k single out fine out
unfolding first_refused
none_left {i} {k} out h =
    let none : k - i ≡ 0 = omega arith in
    record { told = rw none; kept = λ u. refl; front = λ j u. refl; filled = λ u j v x. absurd (omega arith) }

module _ {i end k : ℕ} (single : ℕ → Reached) {part : ℕ → Reached} {said : Listed} {piece : List ℕ} (on : i ≤ end) (within : end ≤ k)
    (same : (j : ℕ) → j < end - i → part j ≡ single (i + j)) (w : Worked (end - i) part said piece) where
  behind_it : behind_by i said ≡ first_refused (end - i) single i
  behind_it =
      let at : i + 0 ≡ i = omega arith in
      ap (behind_by i) w.told ∙ shifted (end - i) part single i 0 (λ j u v. same j (omega arith)) ∙ ap (first_refused (end - i) single) at

  -- A place of the piece is refused.
  piece_stops : {r : Listed} (out : List ℕ) → (said ≡ fine → ⊥) → r ≡ behind_by i said → WorkedFrom i k single out r out
  piece_stops {r} out wrong q = record {
    told = q ∙ behind_it ∙ sym (split_stop (end - i) (k - i) single i (omega arith) (λ h. wrong (right_before said (behind_it ∙ h))));
    kept = λ u. refl;
    front = λ j u. refl;
    filled = λ u. absurd (wrong (right_before said (sym q ∙ u)));
  } where
    right_before : (v : Listed) → behind_by i v ≡ fine → v ≡ fine
    right_before (Ok _) h = refl
    right_before (Err (RefusedAt at)) h = absurd (refused_right h)
    right_before (Err (ListsRefused why)) h = absurd (refused_right h)

  -- The piece is right, and what comes after it has been asked.
  piece_done : {before mid out : List ℕ} {later r : Listed} → said ≡ fine → WorkedFrom end k single before later mid → r ≡ later → PieceOver later i end piece mid out
      → WorkedFrom i k single before r out
  piece_done {before} {mid} {out} {later} {r} good rest q over = record {
    told = q ∙ rest.told ∙ sym (split_fine (end - i) (k - end) (k - i) single i (omega arith) right ∙ ap (first_refused (k - end) single) there);
    kept = λ u. let wrong : later ≡ fine → ⊥ = λ h. u (q ∙ h) in over.kept wrong ∙ rest.kept wrong;
    front = λ j u. over.first j u ∙ rest.front j (omega arith);
    filled = λ u j v x. by (sym q ∙ u) j v x (dec_lt j end);
  } where
    right : first_refused (end - i) single i ≡ fine
    right = sym behind_it ∙ ap (behind_by i) good

    there : i + (end - i) ≡ end
    there = omega arith

    by : later ≡ fine → (j : ℕ) → i ≤ j → j < k → Dec (j < end) → get_or out j 0 ≡ number_of (single j)
    by h j v x (yes p) =
        let back : i + (j - i) ≡ j = omega arith in
        over.own h j v p ∙ number_there w good (j - i) (omega arith) ∙ ap number_of (same (j - i) (omega arith)) ∙ ap (λ (m : ℕ). number_of (single m)) back
    by h j v x (no p) = over.later j (omega arith) ∙ rest.filled h j (omega arith) x

-- All places.
pub pieces_all : {k : ℕ} {single : ℕ → Reached} {before out : List ℕ} {r : Listed} → WorkedFrom 0 k single before r out → length out ≡ length before → length before ≡ k
    → answered r out ≡ each_place k single before
unfolding each_place
pieces_all {k} {single} {before} {out} {r} w as_long long =
    let told : r ≡ first_refused k single 0 = w.told ∙ rw sub-zero in
    ap (answered r) (by r refl) ∙ ap (λ (v : Listed). answered v (left_by v (numbers k single 0) before)) told where
      by : (v : Listed) → r ≡ v → out ≡ left_by r (numbers k single 0) before
      by (Ok _) q = rw q (ext_get_or 0 out (numbers k single 0) (as_long ∙ long ∙ sym (numbers_long k single 0))
          (λ j u. w.filled q j (omega arith) (omega (arith, as_long, long)) ∙ sym (numbers_at k single 0 j j (omega (arith, as_long, long)) (omega arith))))
      by (Err why) q = rw q (w.kept (λ h. refused_right (sym q ∙ h)))

-- One piece, asked by the parts of the lists that were lent for it.
module _ {most i end : ℕ} (a : List ℕ) (c : ChunkEnd most i (length a) end) {part : ℕ → Reached} {said : Listed} {piece : List ℕ}
    (w : Worked (length (mid_of i (end - i) a)) part said piece) where
  own : Worked (end - i) part said piece
  own = subst (λ (m : ℕ). Worked m part said piece) (mid_len i end a c.within) w

  -- Where a refused place stands in the whole.
  pub place_fits : {why : ListRefusal} → said ≡ Err why → length a ≤ 18446744073709551615 → i + (listed_paper (Err why)).place ≤ 18446744073709551615
  place_fits q long = omega (arith, place_within own q, c.on, c.within)

  module _ (single : ℕ → Reached) (same : (j : ℕ) → j < end - i → single (i + j) ≡ part j) where
    -- A place of the piece is refused; or all its places are right, and what comes after them has been asked.
    pub stops_here : {why left : ListRefusal} {out : List ℕ} → said ≡ Err why → Err left ≡ behind_by i (Err why) → WorkedFrom i (length a) single out (Err left) out
    stops_here {out = out} q e =
        piece_stops single (omega (arith, c.on)) c.within (λ j u. sym (same j u)) own out (λ h. refused_right (sym q ∙ h)) (e ∙ ap (behind_by i) (sym q))

    pub goes_on : {before mid out : List ℕ} {later r : Listed} → said ≡ fine → WorkedFrom end (length a) single before later mid
        → (r ≡ later) × PieceOver later i end piece mid out → WorkedFrom i (length a) single before r out
    goes_on q rest over = piece_done single (omega (arith, c.on)) c.within (λ j u. sym (same j u)) own q rest over.0 over.1

-- The whole question, asked a piece at a time.
pub in_pieces : {first : ℕ} (second : ℕ) {test : Bool} {single : ℕ → Reached} {before out : List ℕ} {r : Listed} → test ≡ lengths_right first second (length before)
    → test ≡ true → WorkedFrom 0 first single before r out → length out ≡ length before
    → answered r out ≡ over_lists (lengths_right first second (length before)) first single before
in_pieces second q h w as_long = lists_right q _ _ _ h (pieces_all w as_long (sym (right_lengths _ _ _ (sym q ∙ h)).1.0))

-- What is handed over of a piece.
module _ {later : Listed} (i end : ℕ) (piece out : List ℕ) where
  pub piece_waits : (later ≡ fine → ⊥) → PieceOver later i end piece out out
  piece_waits wrong = record { kept = λ u. refl; own = λ h. absurd (wrong h); first = λ j u. refl; later = λ j u. refl }

  pub piece_over : {part : List ℕ} → later ≡ fine → i ≤ end → end ≤ length out → length part ≡ end - i → part ≡ take (end - i) piece
      → PieceOver later i end piece out (put_mid i (end - i) out part)
  piece_over {part} good on within long q = record {
    kept = λ u. absurd (u good);
    own = λ h j u v. let back : i + (j - i) ≡ j = omega arith in
        ap (λ (m : ℕ). get_or (put_mid i (end - i) out part) m 0) (sym back) ∙ put_in i (end - i) out part (omega arith) (j - i) (omega (arith, long))
        ∙ ap (λ (l : List ℕ). get_or l (j - i) 0) q ∙ get_or-take (end - i) piece (j - i) 0 (omega arith);
    first = λ j u. put_before i (end - i) out part (omega arith) j u;
    later = λ j u. let back : end + (j - end) ≡ j = omega arith in
        ap (λ (m : ℕ). get_or (put_mid i (end - i) out part) m 0) (sym back) ∙ sym (get_or-drop end (put_mid i (end - i) out part) (j - end) 0)
        ∙ ap (λ (l : List ℕ). get_or l (j - end) 0) (drop_put i end out part on within long) ∙ get_or-drop end out (j - end) 0 ∙ ap (λ (m : ℕ). get_or out m 0) back;
  }
