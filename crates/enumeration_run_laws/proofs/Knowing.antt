-- What is known stays known, and the steps by which elements were made are known.
use Prim.Native.Nat.{ℕ, ◌+◌, ◌*◌, ◌<◌, ◌≤◌}
use mathlib.Core.Path.{◌≡◌, refl, ◌∙◌}
use mathlib.Core.Logic.{⊎_elim}
use mathlib.Core.List.{List}
use native.Mathlib.Omega.{arith}
use lib.ListN.{get_or, length}
use Rattle.theory.proofs.BoundedTests.{below_suc}
use Rattle.egg.specs.declared.GroupElementId.{GroupElementId}
use Rattle.egg.specs.declared.GeneratorId.{GeneratorId}
use Rattle.egg.specs.Table.{put_at, start_of, succ_at, pred_at, parent_of, last_of}
use Rattle.build_reading.specs.Build.{set_step}
use Rattle.enumeration_run_laws.specs.Invariant.{StepKnown, MakersKnown, TableOk}
use Rattle.egg.proofs.Cells.{inside, put_same}
use Rattle.enumeration_run_laws.proofs.Cells.{put_keeps}
use Rattle.enumeration_run_laws.proofs.Marking.{set_parent, set_last}
use Rattle.enumeration_run_laws.proofs.Growing.{written, parent_old, last_old, parent_new, last_new, other_row, word_length}

-- A store of another number than 0 leaves what is known.
pub put_known : (t : List ℕ) (i v : ℕ) → (v ≡ 0 → ⊥) → (j : ℕ) → (get_or t j 0 ≡ 0 → ⊥) → get_or (put_at t i v) j 0 ≡ 0 → ⊥
put_known t i v d j h = put_keeps t i v (λ x y. x ≡ j → y ≡ 0 → ⊥) (λ _. d) (λ x q. rw q h) j refl

module _ (n : ℕ) (t : List ℕ) (e : GroupElementId) (g : GeneratorId) (r : GroupElementId) where
  pub set_keeps : (j : ℕ) → (get_or t j 0 ≡ 0 → ⊥) → get_or (set_step t n e g r) j 0 ≡ 0 → ⊥
  unfolding set_step
  set_keeps j k = put_known (put_at t (succ_at n e g) (r.0 + 1)) (pred_at n r g) (e.0 + 1) (omega arith) j (put_known t (succ_at n e g) (r.0 + 1) (omega arith) j k)

  pub set_more : (x h : ℕ) → h < n → StepKnown n t x h → StepKnown n (set_step t n e g r) x h
  set_more x h hh k = set_keeps (start_of n x + h) k

  pub set_known : succ_at n e g < length t → r.0 + 1 < 4294967296 → StepKnown n (set_step t n e g r) e.0 g.0
  unfolding set_step
  set_known h s =
      let q = put_same t (succ_at n e g) (r.0 + 1) h s in
      put_known (put_at t (succ_at n e g) (r.0 + 1)) (pred_at n r g) (e.0 + 1) (omega arith) (succ_at n e g) (λ z. omega arith)

-- The steps by which elements were made stay known.
pub set_made : {n count : ℕ} {t : List ℕ} → MakersKnown n count t → (e : GroupElementId) (g : GeneratorId) (r : GroupElementId) → g.0 < n → MakersKnown n count (set_step t n e g r)
set_made {n} {t = t} M e g r h = record {
  made = λ x pos b. rw (set_parent t n e g r h x, set_last t n e g r h x) (set_keeps n t e g r (start_of n (parent_of t n x) + last_of t n x) (M.made x pos b));
}

module _ {n : ℕ} {m : ℕ → ℕ → ℕ} {word : ℕ → List ℕ} {count : ℕ} {t : List ℕ} (T : TableOk n m word count t) (M : MakersKnown n count t)
    (e : GroupElementId) (g : GeneratorId) (he : e.0 < count) (hg : g.0 < n) (few : n ≤ 8) (small : count ≤ 65535) (len : ℕ)
    (enough : start_of n count + (2 * n + 4) ≤ length t) where
  abbrev stepped : List ℕ
  stepped = set_step (written t n count e g len) n e g (record { 0 = count })

  old_made : (x : ℕ) → 0 < x → x < count → StepKnown n stepped (parent_of stepped n x) (last_of stepped n x)
  old_made x pos b =
      let x' : GroupElementId = record { 0 = count } in
      let p : parent_of stepped n x ≡ parent_of t n x = set_parent (written t n count e g len) n e g x' hg x ∙ parent_old t n count e g len x b in
      let l : last_of stepped n x ≡ last_of t n x = set_last (written t n count e g len) n e g x' hg x ∙ last_old t n count e g len x b in
      let earlier = T.words.earlier x pos b in
      let low = T.words.generator x pos b in
      let same = other_row t n count e g len (parent_of t n x) (last_of t n x) (omega arith) (omega arith) in
      rw (p, l) (set_keeps n (written t n count e g len) e g x' (start_of n (parent_of t n x) + last_of t n x) (rw same (M.made x pos b)))

  new_made : StepKnown n stepped (parent_of stepped n count) (last_of stepped n count)
  unfolding start_of
  new_made =
      let x' : GroupElementId = record { 0 = count } in
      let p : parent_of stepped n count ≡ e.0 = set_parent (written t n count e g len) n e g x' hg count ∙ parent_new t n count e g len enough (omega arith) in
      let l : last_of stepped n count ≡ g.0 = set_last (written t n count e g len) n e g x' hg count ∙ last_new t n count e g len enough (omega arith) in
      let low : g.0 < 2 * n + 4 = omega arith in
      let within : succ_at n e g < length (written t n count e g len) = rw (word_length t n count e g len) (omega (arith, inside he low, enough)) in
      rw (p, l) (set_known n (written t n count e g len) e g x' within (omega arith))

  pub grown_made : MakersKnown n (count + 1) (set_step stepped n (record { 0 = count }) g e)
  grown_made = set_made (record { made = λ x pos b. ⊎_elim (λ q. rw q new_made) (λ l. old_made x pos l) (below_suc (omega arith)) }) (record { 0 = count }) g e hg
