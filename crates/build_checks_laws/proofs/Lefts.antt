-- The work holds multiplication on the left by a generator, found from parent to parent, and the loop over the generators is the theory's check.
use Prim.Native.Nat.{ℕ, zero, suc, ◌+◌, ◌≤◌, ◌<◌}
use mathlib.Core.Path.{◌≡◌, refl, sym, ◌∙◌}
use mathlib.Core.Logic.{◌↔◌}
use mathlib.Core.List.{List}
use native.Mathlib.Omega.{arith}
use borrow.Author.Tests.{lt-ltb}
use lib.ListN.{length, get_or}
use Rattle.egg.specs.Answers.{Verdict, fine}
use Rattle.std.specs.Prelude.{Ok, Err}
use Rattle.egg.specs.Table.{put_at, step_of}
use Rattle.build_checks_group.specs.Lefts.{left_of, fill_left, all_go, Lefts, left, then_left, lefts}
use Rattle.theory.specs.Table.{Table}
use Rattle.theory.specs.Words.{Parents, Recorded}
use Rattle.theory.specs.Regular.{Check}
use Rattle.theory.specs.Regular as regular
use Rattle.theory.proofs.Walking.{walk_closed}
use Rattle.theory.proofs.Recording.{recorded_spelled, walk_grow}
use Rattle.build_checks_laws.specs.Stored.{StoredTable}
use Rattle.egg.proofs.Cells.{put_length, put_extends}
use Rattle.egg.proofs.Scans.{here_or_later, refused_fine}
use Rattle.build_checks_laws.proofs.Tests.{all_go_fine}
use Rattle.build_checks_laws.proofs.Inverses.{step_is}

pub left_length : (k : ℕ) (t : List ℕ) (n s : ℕ) (w : List ℕ) (x : ℕ) → length (fill_left k t n s w x) ≡ length w
unfolding fill_left
left_length zero t n s w x = refl
left_length (suc k) t n s w x = left_length k t n s _ (x + 1) ∙ put_length w x (left_of t n s w x)

then_fine : (v : Verdict) (w : List ℕ) (l : Lefts) (w₁ : List ℕ) → then_left v w l ≡ left fine w₁ → (v ≡ fine) × (l ≡ left fine w₁)
then_fine (Ok _) w l w₁ h = (refl, h)
then_fine (Err r) w l w₁ h = absurd (refused_fine {r = r} (cc))

module _ {n N : ℕ} {step back : ℕ → ℕ → ℕ} {parent last : ℕ → ℕ} {word : ℕ → List ℕ} {t : List ℕ} (small : N ≤ 65535)
    (S : StoredTable t n N step back parent last word) (T : Table n N step) (P : Parents n N step parent last) (R : Recorded N parent last word) where
  left_small : {s x : ℕ} → s < n → x < N → regular.left step word s x < N
  left_small hs hx = walk_closed T (T.closed T.origin hs) ((recorded_spelled P R).over hx)

  -- One number of the work, where those before it are right.
  left_is : (s : ℕ) (w : List ℕ) (x : ℕ) → s < n → x < N → ((y : ℕ) → y < x → get_or w y 0 ≡ regular.left step word s y)
      → left_of t n s w x ≡ regular.left step word s x
  left_is s w zero hs hx before = step_is S hx hs ∙ rw R.start
  left_is s w (suc x) hs hx before =
      let p : 0 < suc x = omega arith in
      let h : parent (suc x) < suc x = P.earlier p hx in
      simp (lt-ltb 0 (suc x) p)
      (rw (S.parents p hx, S.letters p hx, before (parent (suc x)) h, step_is S (left_small {x = parent (suc x)} hs (omega arith)) (P.generator p hx))
      (sym (walk_grow R step (step 0 s) p hx)))

  filled : (k s : ℕ) (w : List ℕ) (x : ℕ) → s < n → x + k ≤ N → N ≤ length w → ((y : ℕ) → y < x → get_or w y 0 ≡ regular.left step word s y)
      → (y : ℕ) → y < x + k → get_or (fill_left k t n s w x) y 0 ≡ regular.left step word s y
  unfolding fill_left
  filled zero s w x hs end room before y hy = before y (omega arith)
  filled (suc k) s w x hs end room before y hy =
      let hx : x < N = omega arith in
      let v = left_is s w x hs hx before in
      filled k s (put_at w x (left_of t n s w x)) (x + 1) hs (omega arith) (omega (arith, put_length w x (left_of t n s w x)))
      (put_extends (regular.left step word s) w x (left_of t n s w x) (omega arith) (omega (arith, v, left_small hs hx)) v before) y (omega arith)

  -- The test of one generator.
  abbrev pub Commutes : ℕ → Type 0
  Commutes s = (x : ℕ) → x < N → (g : ℕ) → g < n → regular.left step word s (step x g) ≡ step (regular.left step word s x) g

  go_is : (s : ℕ) (w : List ℕ) → s < n → N ≤ length w → all_go t (fill_left N t n s w 0) n N ≡ fine ↔ Commutes s
  go_is s w hs room = (
    λ h x hx g hg. sym (to x hx g hg) ∙ (all_go_fine t n N v).0 h x hx g hg ∙ from x hx g hg,
    λ c. (all_go_fine t n N v).1 (λ x hx g hg. to x hx g hg ∙ c x hx g hg ∙ sym (from x hx g hg)),
  ) where
    v : List ℕ
    v = fill_left N t n s w 0

    is : (y : ℕ) → y < N → get_or v y 0 ≡ regular.left step word s y
    is y hy = filled N s w 0 hs (omega arith) room (λ z hz. absurd (omega arith)) y (omega arith)

    to : (x : ℕ) → x < N → (g : ℕ) → g < n → get_or v (step_of t n x g) 0 ≡ regular.left step word s (step x g)
    to x hx g hg = rw (step_is S hx hg) (is (step x g) (T.closed hx hg))

    from : (x : ℕ) → x < N → (g : ℕ) → g < n → step_of t n (get_or v x 0) g ≡ step (regular.left step word s x) g
    from x hx g hg = rw (is x hx) (step_is S (left_small hs hx) hg)

  -- The loop over the generators. It needs the work only where there is a generator.
  pub lefts_sound : (k : ℕ) (w : List ℕ) (s : ℕ) (w₁ : List ℕ) → s + k ≤ n → (0 < n → N ≤ length w) → lefts k t n N w s ≡ left fine w₁
      → (r : ℕ) → s ≤ r → r < s + k → Commutes r
  unfolding lefts
  lefts_sound zero w s w₁ end room h r l m = absurd (omega arith)
  lefts_sound (suc k) w s w₁ end room h r l m =
      let v = fill_left N t n s w 0 in
      let both = then_fine (all_go t v n N) v (lefts k t n N v (s + 1)) w₁ h in
      here_or_later Commutes l ((go_is s w (omega arith) (room (omega arith))).0 both.0)
      (λ p. lefts_sound k v (s + 1) w₁ (omega arith) (λ pos. omega (arith, room pos, left_length N t n s w 0)) both.1 r (omega arith) (omega arith))

  pub lefts_complete : (k : ℕ) (w : List ℕ) (s : ℕ) → s + k ≤ n → (0 < n → N ≤ length w) → Check n N step word
      → (w₁ : List ℕ) × (lefts k t n N w s ≡ left fine w₁)
  unfolding lefts
  lefts_complete zero w s end room c = (w, refl)
  lefts_complete (suc k) w s end room c =
      let v = fill_left N t n s w 0 in
      let rest = lefts_complete k v (s + 1) (omega arith) (λ pos. omega (arith, room pos, left_length N t n s w 0)) c in
      (rest.0, rw ((go_is s w (omega arith) (room (omega arith))).1 (λ x hx g hg. c.commutes (omega arith) hg hx)) rest.1)
