-- Rows that stand alike move alike.
use Rattle.std.proofs.Common.{◌≡◌, ℕ, suc, ◌+◌, ◌-◌, ◌%◌, ◌<◌, ◌≤◌, List, sym, refl, ap, ◌∙◌, arith}
use native.Mathlib.Decide.{dec_lt}
use Rattle.egg.specs.declared.GroupElementId.{GroupElementId}
use Rattle.egg.specs.declared.GeneratorId.{GeneratorId}
use Rattle.enumeration_rows.specs.declared.inner.RelationTableRow.{RelationTableRow}
use Rattle.enumeration_rows.specs.declared.inner.SideOfGap.{SideOfGap}
use Rattle.enumeration_rows.specs.declared.inner.SideOfGap.TheVariants.{Left, Right}
use Rattle.enumeration_fill.specs.declared.inner.Walked.{Walked}
use Rattle.enumeration_rows.specs.Rows.{place_at, gen_of, row_of, list_at}
use Rattle.enumeration_fill.specs.Fill.{backed, forwarded, filled}
use Rattle.enumeration_fill.specs.Walk.{walk_of, walk_from}
use Rattle.enumeration_fill.specs.Alike.{Moves, Alike, forth, backward, moved_alike}
use Rattle.enumeration_rows.proofs.Laws.{gen_beside}
use Rattle.enumeration_fill.proofs.Walks.{walk_any, walk_left, back_met, forward_met, back_walk, forward_walk}

-- A generator is due by whether its column is even.
pub gen_same : (pair i j : ℕ) → i % 2 ≡ j % 2 → gen_of pair i ≡ gen_of pair j
gen_same pair i j h = rw h

pub gen_next : (pair i j : ℕ) → i % 2 ≡ j % 2 → gen_of pair (i + 1) ≡ gen_of pair (j + 1)
gen_next pair i j h = sym (gen_beside pair i) ∙ ap (λ (x : ℕ). gen_of pair (x + 1)) h ∙ gen_beside pair j

id_path : {x y : ℕ} → x ≡ y → ◌≡◌ {A = GroupElementId} (record { 0 = x }) (record { 0 = y })
id_path h = ap (λ (v : ℕ). record { 0 = v }) h

-- Numbers: a row from column bl to br goes to al and ar; R and L steps were left of its two walks.
module _ (bl br al ar R L : ℕ) (p : ar ≡ bl + R) (q : al + L ≡ bl + R) (z : al < ar) (f : bl ≤ al) (h : ar ≤ br) where
  back_gap : br - bl ≡ br - ar + suc (R - 1)
  back_gap = omega arith

  forth_gap : R ≡ al - bl + suc (L - 1)
  forth_gap = omega arith

  right_more : R ≡ suc (R - 1)
  right_more = omega arith

  left_more : L ≡ suc (L - 1)
  left_more = omega arith

-- The columns where r then stands are even where a's are.
left_column : (r b a : ℕ) → r % 2 ≡ b % 2 → b ≤ a → (r + (a - b)) % 2 ≡ a % 2
left_column r b a h k = omega arith

right_column : (l r b a f : ℕ) → r % 2 ≡ b % 2 → a ≤ b → l + (f + (b - a)) < r → (r - (b - a)) % 2 ≡ a % 2
right_column l r b a f h k w = omega arith

wide_gap : (l r c : ℕ) → l + c < r → c < r - l
wide_gap l r c h = omega arith

gap_left : (g d : ℕ) → d < g → g ≡ d + suc (g - d - 1)
gap_left g d h = omega arith

gap_right : (g d f : ℕ) → f + d < g → suc (g - d - 1) ≡ f + suc (g - d - f - 1)
gap_right g d f h = omega arith

left_end : (l g d f : ℕ) → f + d < g → l + suc (g - d - 1) - suc (g - d - f - 1) ≡ l + f
left_end l g d f h = omega (arith, gap_right g d f h)

right_end : (l r d c : ℕ) → l + c < r → d ≤ c → l + suc (r - l - d - 1) ≡ r - d
right_end l r d c h k = omega arith

module _ (t : List ℕ) (n : ℕ) where
  -- The walks of a row's right end, and of its left end by so many steps.
  abbrev right_walk : RelationTableRow → Walked
  right_walk r = walk_from (r.right - r.left) t n r.to.0 (n + (gen_of r.pair r.right).0) (n + (gen_of r.pair (r.right + 1)).0)

  abbrev left_walk : ℕ → RelationTableRow → Walked
  left_walk k r = walk_from k t n r.from.0 (gen_of r.pair r.left).0 (gen_of r.pair (r.left + 1)).0

  filled_walks : (r : RelationTableRow) {z k y l : ℕ} → r.left ≤ r.right → right_walk r ≡ walk_of z k → left_walk k r ≡ walk_of y l
      → filled t n r ≡ row_of r.pair (r.left + k - l) (r.left + k) (record { 0 = y }) (record { 0 = z })
  unfolding filled
  filled_walks r {z} {k} {y} {l} h p q =
      let B : row_of r.pair r.left (r.left + (right_walk r).left) r.from (record { 0 = (right_walk r).element.0 }) ≡ backed t n r =
      back_walk t n (r.right - r.left) r.pair r.left r.right _ _ r.from r.to (omega arith) refl refl in
      let B' : row_of r.pair r.left (r.left + k) r.from (record { 0 = z }) ≡ backed t n r =
      ap (λ (v : Walked). row_of r.pair r.left (r.left + v.left) r.from (record { 0 = v.element.0 })) (sym p) ∙ B in
      let m : r.left + k - r.left ≡ k = omega arith in
      let F = forward_walk t n k r.pair r.left (r.left + k) _ _ r.from (record { 0 = z }) refl refl refl in
      ap (forwarded t n) (sym B') ∙ rw m (sym F ∙ rw q)

  -- The fields of what a row moves to.
  record Moved (b a : RelationTableRow) : Type 0 where
    pair : a.pair ≡ b.pair
    order : b.left ≤ b.right
    right : a.right ≡ b.left + (right_walk b).left
    left : a.left + (left_walk (right_walk b).left b).left ≡ b.left + (right_walk b).left
    from : a.from.0 ≡ (left_walk (right_walk b).left b).element.0
    to : a.to.0 ≡ (right_walk b).element.0

  moved : (b a : RelationTableRow) → Moves t n b a → Moved b a
  unfolding filled
  moved b a M = by_order (dec_lt b.right b.left)
    where
      by_order : Dec (b.right < b.left) → Moved b a
      by_order (yes h) =
          let z : b.right - b.left ≡ 0 = omega arith in
          let same : filled t n b ≡ b = sym (forward_met t n (b.right - b.left) b z ∙ ap (forwarded t n) (back_met t n (b.right - b.left) b z)) in
          let q : a ≡ b = M.filling ∙ same in
          absurd (omega (arith, M.apart, ap (λ (r : RelationTableRow). r.left) q, ap (λ (r : RelationTableRow). r.right) q))
      by_order (no d) =
          let h : b.left ≤ b.right = omega arith in
          let q = M.filling ∙ filled_walks b h refl refl in
          record {
            pair = ap (λ (r : RelationTableRow). r.pair) q;
            order = h;
            right = ap (λ (r : RelationTableRow). r.right) q;
            left = omega (arith, ap (λ (r : RelationTableRow). r.left) q, walk_left t n (right_walk b).left b.from.0 (gen_of b.pair b.left).0 (gen_of b.pair (b.left + 1)).0);
            from = ap (λ (r : RelationTableRow). r.from.0) q;
            to = ap (λ (r : RelationTableRow). r.to.0) q;
          }

  -- The columns that a row moves lie within its gap.
  pub moves_forth : {b a : RelationTableRow} → Moves t n b a → b.left ≤ a.left
  moves_forth {b} {a} M = let D = moved b a M in
      omega (arith, D.left, walk_left t n (right_walk b).left b.from.0 (gen_of b.pair b.left).0 (gen_of b.pair (b.left + 1)).0)

  pub moves_back : {b a : RelationTableRow} → Moves t n b a → a.right ≤ b.right
  moves_back {b} {a} M = let D = moved b a M in
      omega (arith, D.right, D.order, walk_left t n (b.right - b.left) b.to.0 (n + (gen_of b.pair b.right).0) (n + (gen_of b.pair (b.right + 1)).0))

  moves_pair : {b a : RelationTableRow} → Moves t n b a → a.pair ≡ b.pair
  moves_pair {b} {a} M = (moved b a M).pair

  pub moves_alike : {r b a : RelationTableRow} → Moves t n b a → Alike r b (forth b a + backward b a) → filled t n r ≡ moved_alike r b a
  moves_alike {r} {b} {a} M A =
      let D = moved b a M in
      let g = r.right - r.left in
      let f = forth b a in
      let d = backward b a in
      let i = g - d - 1 in
      let k = g - d - f - 1 in
      let F = moves_forth M in
      let B = moves_back M in
      let R = (right_walk b).left in
      let L = (left_walk (right_walk b).left b).left in
      let wide : f + d < g = wide_gap r.left r.right (f + d) A.wide in
      let right : right_walk r ≡ walk_of (right_walk b).element.0 (suc i) =
      rw (A.pairs, A.tos, gen_same b.pair r.right b.right A.rights, gen_next b.pair r.right b.right A.rights)
      (walk_any t n d (b.right - b.left) g b.to.0 _ _ ((right_walk b).left - 1) i (back_gap b.left b.right a.left a.right R L D.right D.left M.apart F B) (gap_left g d (omega arith))
      (ap (walk_of (right_walk b).element.0) (right_more b.left b.right a.left a.right R L D.right D.left M.apart F B))) in
      let left : left_walk (suc i) r ≡ walk_of (left_walk (right_walk b).left b).element.0 (suc k) =
      rw (A.pairs, A.froms, gen_same b.pair r.left b.left A.lefts, gen_next b.pair r.left b.left A.lefts)
      (walk_any t n f (right_walk b).left (suc i) b.from.0 _ _ ((left_walk (right_walk b).left b).left - 1) k (forth_gap b.left b.right a.left a.right R L D.right D.left M.apart F B) (gap_right g d f wide)
      (ap (walk_of (left_walk (right_walk b).left b).element.0) (left_more b.left b.right a.left a.right R L D.right D.left M.apart F B))) in
      filled_walks r (omega (arith, A.wide)) right left
      ∙ cc (left_end r.left g d f wide, right_end r.left r.right d (f + d) A.wide (omega arith), id_path (sym D.from), id_path (sym D.to))

  -- It waits in the same list.
  pub moved_list : {r b a : RelationTableRow} (side : SideOfGap) → Moves t n b a → Alike r b (forth b a + backward b a)
      → list_at n (moved_alike r b a) side ≡ list_at n a side
  moved_list {r} {b} {a} Left M A =
      let e = moves_pair M in ap (place_at n a.from) (cc (A.pairs, e, gen_same a.pair (r.left + forth b a) a.left (left_column r.left b.left a.left A.lefts (moves_forth M))))
  moved_list {r} {b} {a} Right M A =
      let e = moves_pair M in ap (λ (g : GeneratorId). place_at n a.to g + 3) (cc (A.pairs, e, gen_same a.pair (r.right - backward b a) a.right (right_column r.left r.right b.right a.right (forth b a) A.rights (moves_back M) A.wide)))
