-- Laws of writing an image.
use Prim.Native.Nat.{ℕ, ◌+◌, ◌*◌, ◌-◌, ◌≤◌, ◌<◌}
use mathlib.Core.Path.{◌≡◌, refl, ◌∙◌}
use mathlib.Core.List.{List}
use native.Mathlib.Nat.{mul-le-mul}
use native.Mathlib.Omega.{arith}
use Rattle.egg.specs.declared.Refusal.{Refusal}
use Rattle.egg.specs.Answers.{Counted, Verdict, fine}
use Rattle.egg.specs.Refusals.{numbered}
use Rattle.std.specs.Prelude.{Ok, Err}
use mathlib.Core.Bool.{true, false}
use borrow.Author.Tests.{lt-ltb, le-ltb}
use lib.ListN.{length}
use Rattle.egg.specs.declared.Factor.{Factor}
use Rattle.egg.specs.Table.{step_of}
use Rattle.egg.specs.Factor.{fits_in, stretch}
use Rattle.image_writing.specs.Written.{all_known, image_size, put_rows, put_head}
use Rattle.image.specs.Written.{write_count, image_by, written_image}
use Rattle.image_writing.proofs.Bytes.{put_image}

pub size_small : {n count : ℕ} → n ≤ 8 → count ≤ 65535 → 2 * n * count ≤ 1048560
size_small {n} h k = let p : 2 * n ≤ 16 = omega arith in omega (arith, mul-le-mul p k)

-- One law for each answer.
module _ (t : List ℕ) (f : Factor) (out : List ℕ) where
  abbrev Wrote : Counted → List ℕ → Type 0
  Wrote r l = (r ≡ write_count t f (length out)) × (l ≡ written_image t f out)

  by_count : {r : Counted} {l : List ℕ} → r ≡ write_count t f (length out)
      → l ≡ image_by r (step_of (stretch t f) f.generators) f.generators f.elements out → Wrote r l
  unfolding written_image
  by_count q e = (q, e ∙ rw q)

  pub write_handle : fits_in (length t) f ≡ false → {r : Counted} → r ≡ Err (numbered 17 0 0 0)
      → (r ≡ write_count t f (length out)) × (out ≡ written_image t f out)
  unfolding write_count
  write_handle h e = by_count (e ∙ rw h) (rw e)

  module _ (fits : fits_in (length t) f ≡ true) {need : ℕ} (qs : need ≡ image_size f.generators f.elements) where
    pub write_short : length out < need → {r : Counted} → r ≡ Err (numbered 4 0 0 0)
        → (r ≡ write_count t f (length out)) × (out ≡ written_image t f out)
    unfolding write_count
    write_short h e =
        let k : length out < image_size f.generators f.elements = rw qs at h in
        by_count (e ∙ rw fits (simp (lt-ltb _ _ k))) (rw e)

    module _ (h : need ≤ length out) {v : Verdict} (q : v ≡ all_known (stretch t f) f.generators f.elements) where
      pub write_unknown : {r : Refusal} → v ≡ Err r
          → (Err r ≡ write_count t f (length out)) × (out ≡ written_image t f out)
      unfolding write_count
      write_unknown e =
          let k : image_size f.generators f.elements ≤ length out = rw qs at h in
          by_count (rw fits (simp (le-ltb _ _ k) (rw (← q, e)))) refl

      pub write_done : {a b : List ℕ} → v ≡ fine → a ≡ put_head (need - 4) f.generators f.elements out
          → b ≡ put_rows f.elements (step_of (stretch t f) f.generators) f.generators 0 a
          → (Ok need ≡ write_count t f (length out)) × (b ≡ written_image t f out)
      unfolding write_count
      write_done {a} {b} e pa pb =
          let k : image_size f.generators f.elements ≤ length out = rw qs at h in
          let d : need - 4 ≡ 4 + 2 * f.generators * f.elements = omega arith in
          by_count (rw fits (simp (le-ltb _ _ k) (rw (← q, e, qs))))
          (pb ∙ rw (pa, d, qs) (put_image (step_of (stretch t f) f.generators) f.generators f.elements out k))
