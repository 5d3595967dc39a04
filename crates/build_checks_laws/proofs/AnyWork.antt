-- What stands in the work at first decides nothing, nor does its length beyond the elements: only its first N numbers are used, and each is stored before it
-- is read. So two works give one verdict and one table.
use Prim.Native.Nat.{ℕ, zero, suc, ◌+◌, ◌≤◌, ◌<◌}
use mathlib.Core.Path.{◌≡◌, refl, sym, ap, ◌∙◌}
use mathlib.Core.Logic.{⊎_elim}
use mathlib.Core.Bool.{Bool, true, false}
use mathlib.Core.List.{List}
use native.Mathlib.Nat.{eq-zero-or-pos, eq-or-lt_of_le}
use native.Mathlib.Decide.{ℕ_discrete, dec_lt}
use native.Mathlib.Omega.{arith}
use lib.Dec.{ltb}
use lib.ListN.{length, get_or, set}
use lib.Seq.{get_or-set_same, get_or-set_other, set_out}
use Rattle.egg.specs.Answers.{Verdict, fine}
use Rattle.std.specs.Prelude.{Ok, Err}
use Rattle.egg.specs.Table.{pick, put_at, start_of, parent_of, step_of}
use Rattle.egg.specs.Scan.{scan}
use Rattle.egg.proofs.Cells.{put_other, put_length}
use Rattle.egg.proofs.Scans.{refused_fine}
use Rattle.build_checks.specs.Checks.{wiped, arrive_row, arrivals, counts_right, Checked, checked, then_checked, with_table, counted, check_table, check_rest, check_group}
use Rattle.build_checks_group.specs.Lefts.{left_of, fill_left, goes_row, all_go, Lefts, left, then_left, lefts, check_steps}
use Rattle.build_checks_inverses.specs.Inverses.{fill_inverses, inverses_right}
use Rattle.build_checks_laws.proofs.Arrivals.{put_zero}
use Rattle.build_checks_laws.proofs.Inverses.{fill_kept}
use Rattle.build_checks_laws.proofs.Tests.{check8_fine, ranges_fine, table_fine}

-- Two works that have the same of the first N places, with the same numbers at the first c.
record Same (N c : ℕ) (w w' : List ℕ) : Type 0 where
  few : c ≤ N
  there : (i : ℕ) → i < N → i < length w → i < length w'
  back : (i : ℕ) → i < N → i < length w' → i < length w
  agree : (i : ℕ) → i < c → get_or w i 0 ≡ get_or w' i 0

-- Two lists that have the place i, or both not, with the same number there; and so they are after the same store.
pub record AlikeAt (i : ℕ) (w w' : List ℕ) : Type 0 where
  pub there : i < length w → i < length w'
  pub back : i < length w' → i < length w
  pub here : get_or w i 0 ≡ get_or w' i 0

module _ {i : ℕ} {w w' : List ℕ} (A : AlikeAt i w w') (p v : ℕ) where
  set_alike : get_or (set w p v) i 0 ≡ get_or (set w' p v) i 0
  set_alike = go (ℕ_discrete i p) (dec_lt p (length w)) where
    go : Dec (i ≡ p) → Dec (p < length w) → get_or (set w p v) i 0 ≡ get_or (set w' p v) i 0
    go (yes e) (yes l) = rw e (get_or-set_same w p v 0 l ∙ sym (get_or-set_same w' p v 0 (rw e at (A.there (rw e l)))))
    go (yes e) (no l) =
        let out : (p < length w') → ⊥ = λ k. l (rw e at (A.back (rw e k))) in
        rw (set_out w p v (omega arith), set_out w' p v (omega arith)) A.here
    go (no d) l = get_or-set_other w p i v 0 d ∙ A.here ∙ sym (get_or-set_other w' p i v 0 d)

  put_here : get_or (put_at w p v) i 0 ≡ get_or (put_at w' p v) i 0
  unfolding put_at
  put_here = by (ltb v 4294967296) where
    by : (b : Bool) → get_or (pick b (set w p v) w) i 0 ≡ get_or (pick b (set w' p v) w') i 0
    by true = set_alike
    by false = A.here

  pub put_alike : AlikeAt i (put_at w p v) (put_at w' p v)
  put_alike = record {
    there = λ h. rw (put_length w' p v) (A.there (rw (put_length w p v) at h));
    back = λ h. rw (put_length w p v) (A.back (rw (put_length w' p v) at h));
    here = put_here;
  }

module _ {N c : ℕ} {w w' : List ℕ} (S : Same N c w w') where
  alike : (i : ℕ) → i < c → AlikeAt i w w'
  alike i h = record { there = S.there i (omega (arith, S.few)); back = S.back i (omega (arith, S.few)); here = S.agree i h }

  -- A store whose numbers are the same where it matters.
  put_agree : (p v v' i : ℕ) → i < c → (i ≡ p → v ≡ v') → get_or (put_at w p v) i 0 ≡ get_or (put_at w' p v') i 0
  put_agree p v v' i h same = go (ℕ_discrete i p) where
    go : Dec (i ≡ p) → get_or (put_at w p v) i 0 ≡ get_or (put_at w' p v') i 0
    go (yes e) = (put_alike (alike i h) p v).here ∙ ap (λ (x : ℕ). get_or (put_at w' p x) i 0) (same e)
    go (no d) = put_other w p v d ∙ S.agree i h ∙ sym (put_other w' p v' d)

-- A store keeps the places.
put_there : (N : ℕ) (w w' : List ℕ) (p v v' : ℕ) → ((i : ℕ) → i < N → i < length w → i < length w')
    → (i : ℕ) → i < N → i < length (put_at w p v) → i < length (put_at w' p v')
put_there N w w' p v v' f i h l = rw (put_length w' p v') (f i h (rw (sym (put_length w p v)) l))

put_same_work : (N c : ℕ) (w w' : List ℕ) (p v v' : ℕ) → Same N c w w' → (p < c → v ≡ v') → Same N c (put_at w p v) (put_at w' p v')
put_same_work N c w w' p v v' S same = record {
  few = S.few;
  there = put_there N w w' p v v' S.there;
  back = put_there N w' w p v' v S.back;
  agree = λ i h. put_agree S p v v' i h (λ e. same (rw (← e) h));
}

-- After the wiping the first numbers are zero.
wiped_same : (N k e : ℕ) (w w' : List ℕ) → e + k ≤ N → Same N e w w' → Same N (e + k) (wiped k w e) (wiped k w' e)
unfolding wiped
wiped_same N zero e w w' h S = let q : e + 0 ≡ e = omega arith in rw q S
wiped_same N (suc k) e w w' h S =
    let q : e + suc k ≡ e + 1 + k = omega arith in
    rw q (wiped_same N k (e + 1) (put_at w e 0) (put_at w' e 0) (omega arith) (record {
      few = omega arith;
      there = put_there N w w' e 0 0 S.there;
      back = put_there N w' w e 0 0 S.back;
      agree = λ i l. ⊎_elim
          (λ (p : i ≡ e). rw p (put_zero w e ∙ sym (put_zero w' e)))
          (λ (p : i < e). put_agree S e 0 0 i p (λ x. refl))
          (eq-or-lt_of_le (omega arith));
    }))

module _ (t : List ℕ) (n N : ℕ) where
  row_same : (k e g : ℕ) (w w' : List ℕ) → Same N N w w' → Same N N (arrive_row k t n e w g) (arrive_row k t n e w' g)
  unfolding arrive_row
  row_same zero e g w w' S = S
  row_same (suc k) e g w w' S =
      let p = step_of t n e g in
      row_same k e (g + 1) (put_at w p (get_or w p 0 + 1)) (put_at w' p (get_or w' p 0 + 1))
      (put_same_work N N w w' p (get_or w p 0 + 1) (get_or w' p 0 + 1) S (λ h. ap (λ (x : ℕ). x + 1) (S.agree p h)))

  rows_same : (k e : ℕ) (w w' : List ℕ) → Same N N w w' → Same N N (arrivals k t n w e) (arrivals k t n w' e)
  unfolding arrivals
  rows_same zero e w w' S = S
  rows_same (suc k) e w w' S = rows_same k (e + 1) (arrive_row n t n e w 0) (arrive_row n t n e w' 0) (row_same n e 0 w w' S)

  counted_same : (w w' : List ℕ) → Same N 0 w w' → Same N N (counted t w n N) (counted t w' n N)
  counted_same w w' S =
      let z : 0 + N ≡ N = omega arith in
      rows_same N 0 (wiped N w 0) (wiped N w' 0) (rw z at (wiped_same N N 0 w w' (omega arith) S))

-- Two searches that find the same at each place.
scan_agrees : (k : ℕ) (f f' : ℕ → Verdict) (i : ℕ) → ((j : ℕ) → i ≤ j → j < i + k → f j ≡ f' j) → scan k f i ≡ scan k f' i
unfolding scan
scan_agrees zero f f' i h = refl
scan_agrees (suc k) f f' i h =
    rw (h i (omega arith) (omega arith), scan_agrees k f f' (i + 1) (λ j a b. h j (omega arith) (omega arith)))

counts_same : (n N : ℕ) (w w' : List ℕ) → Same N N w w' → counts_right w n N ≡ counts_right w' n N
unfolding counts_right
counts_same n N w w' S = scan_agrees N _ _ 0 (λ j a b. rw (S.agree j (omega arith)))

-- The verdict.
abbrev LeftLike : Lefts → Lefts → Type 0
LeftLike (left v w) (left v' w') = v ≡ v'

then_left_like : (v v' : Verdict) (w w' : List ℕ) (l l' : Lefts) → v ≡ v' → LeftLike l l' → LeftLike (then_left v w l) (then_left v' w' l')
then_left_like (Ok _) (Ok _) w w' l l' e L = L
then_left_like (Ok _) (Err r) w w' l l' e L = absurd (refused_fine (sym e))
then_left_like (Err r) (Ok _) w w' l l' e L = absurd (refused_fine e)
then_left_like (Err r) (Err r') w w' l l' e L = e

-- Where every step and every parent is an element, the tests of 12 read nothing but those numbers.
module _ (t : List ℕ) (n N : ℕ) (closed : (e g : ℕ) → e < N → g < n → step_of t n e g < N) (parents : (e : ℕ) → 0 < e → e < N → parent_of t n e < N) where
  go_same : (w w' : List ℕ) → Same N N w w' → all_go t w n N ≡ all_go t w' n N
  unfolding all_go goes_row
  go_same w w' S = scan_agrees N _ _ 0
      (λ x a b. scan_agrees n _ _ 0 (λ g c d. rw (S.agree x (omega arith), S.agree (step_of t n x g) (closed x g (omega arith) (omega arith)))))

  left_of_same : (s x : ℕ) (w w' : List ℕ) → Same N N w w' → x < N → left_of t n s w x ≡ left_of t n s w' x
  left_of_same s x w w' S h = ⊎_elim
      (λ (z : x ≡ 0). rw z)
      (λ (p : 0 < x). rw (S.agree (parent_of t n x) (parents x p h)))
      (eq-zero-or-pos x)

  fill_same : (k s x : ℕ) (w w' : List ℕ) → x + k ≤ N → Same N N w w' → Same N N (fill_left k t n s w x) (fill_left k t n s w' x)
  unfolding fill_left
  fill_same zero s x w w' h S = S
  fill_same (suc k) s x w w' h S =
      fill_same k s (x + 1) (put_at w x (left_of t n s w x)) (put_at w' x (left_of t n s w' x)) (omega arith)
      (put_same_work N N w w' x (left_of t n s w x) (left_of t n s w' x) S (λ l. left_of_same s x w w' S l))

  lefts_like : (k s : ℕ) (w w' : List ℕ) → Same N N w w' → LeftLike (lefts k t n N w s) (lefts k t n N w' s)
  unfolding lefts
  lefts_like zero s w w' S = refl
  lefts_like (suc k) s w w' S =
      let F = fill_same N s 0 w w' (omega arith) S in
      then_left_like (all_go t (fill_left N t n s w 0) n N) (all_go t (fill_left N t n s w' 0) n N) (fill_left N t n s w 0) (fill_left N t n s w' 0) _ _
      (go_same (fill_left N t n s w 0) (fill_left N t n s w' 0) F) (lefts_like k (s + 1) (fill_left N t n s w 0) (fill_left N t n s w' 0) F)

-- The verdict and the table.
abbrev pub Like : Checked → Checked → Type 0
Like (checked v t w) (checked v' t' w') = (v ≡ v') × (t ≡ t')

-- What comes after a verdict need be alike only where that is fine.
then_like : (v : Verdict) {v' : Verdict} (t w w' : List ℕ) (c c' : Checked) → v ≡ v' → (v ≡ fine → Like c c') → Like (then_checked v t w c) (then_checked v' t w' c')
then_like v {v'} t w w' c c' e L = rw (← e) (by v refl) where
  by : (u : Verdict) → v ≡ u → Like (then_checked u t w c) (then_checked u t w' c')
  by (Ok _) q = L q
  by (Err r) q = (refl, refl)

table_like : (t : List ℕ) (l l' : Lefts) → LeftLike l l' → Like (with_table t l) (with_table t l')
table_like t (left v w) (left v' w') L = (L, refl)

-- Two works that have the same of the first N places; so have all that are as long as there are elements, and all that are as long as each other.
pub any_work : (t : List ℕ) (n N : ℕ) (w w' : List ℕ) → ((i : ℕ) → i < N → i < length w → i < length w') → ((i : ℕ) → i < N → i < length w' → i < length w)
    → Like (check_group t w n N) (check_group t w' n N)
unfolding check_group check_rest
any_work t n N w w' there back =
    let f = fill_inverses N t n 0 in
    let K = fill_kept t n N in
    let C = counted_same t n N w w' (record { few = omega arith; there = there; back = back; agree = λ i h. absurd (omega arith) }) in
    let c = counted t w n N in
    let c' = counted t w' n N in
    then_like (check_table t n N) t w w' _ _ refl
    (λ fine.
    let r = (ranges_fine t n N).0 ((table_fine t n N).0 fine).1.0 in
    let m = ((check8_fine t n N).0 ((table_fine t n N).0 fine).0).0 in
    then_like (counts_right c n N) t c c' _ _ (counts_same n N c c' C)
    (λ _. then_like (inverses_right f n N) f c c' _ _ refl
    (λ _. then_like (check_steps f n N) f c c' _ _ refl
    (λ _. table_like f (lefts n f n N c 0) (lefts n f n N c' 0)
    (lefts_like f n N (λ e g he hg. rw (K.step_same e hg) (closed e g (m e he g hg) ((r e he).0 g (omega arith))))
    (λ e p he. rw (K.parent_same e) (omega (arith, ((r e he).1.1 p).0))) n 0 c c' C))))) where
      closed : (e g : ℕ) → (get_or t (start_of n e + g) 0 ≡ 0 → ⊥) → get_or t (start_of n e + g) 0 ≤ N → step_of t n e g < N
      closed e g some below = omega arith
