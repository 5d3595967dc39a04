-- The hints have stood where the arrivals were counted, and the arrivals stand there again.
use Prim.Native.Nat.{ℕ, ◌<◌}
use mathlib.Core.Path.{◌≡◌, refl, sym, ◌∙◌}
use mathlib.Core.List.{List}
use mathlib.Core.Bool.{Bool, true, false}
use native.Mathlib.Decide.{dec_lt}
use native.Mathlib.Omega.{arith}
use lib.ListN.{length, get_or}
use lib.Seq.{ext_get_or}
use lib.Dec.{eqb}
use borrow.Author.Tests.{eqb-true}
use Rattle.egg.specs.declared.Refusal.{Refusal}
use Rattle.egg.specs.Answers.{fine}
use Rattle.std.specs.Prelude.{Err}
use Rattle.egg.specs.Table.{pick}
use Rattle.egg.specs.Scan.{refused_of}
use Rattle.egg.proofs.Scans.{refused_fine, scan_fine}
use Rattle.build_checks.specs.Checks.{counts_right}
use Rattle.build_checks_inverses.specs.Hints.{Hinted, CountedAgain}

-- The arrivals were n at each element, and are so again.
pub counted_again : {t w w₁ w₂ : List ℕ} {n count : ℕ} → counts_right w n count ≡ fine → Hinted t w w₁ n count → CountedAgain w₁ w₂ n count count → w₂ ≡ w
unfolding counts_right
counted_again {t} {w} {w₁} {w₂} {n} {count} passed H C =
    ext_get_or 0 w₂ w (C.rest.size ∙ H.rest.size) (λ i h. by i h (dec_lt i count)) where
      right : (b : Bool) (x : ℕ) (r : Refusal) → eqb x n ≡ b → pick b fine (Err r) ≡ fine → x ≡ n
      right true x r e h = eqb-true x n e
      right false x r e h = absurd (refused_fine h)

      by : (i : ℕ) → i < length w₂ → Dec (i < count) → get_or w₂ i 0 ≡ get_or w i 0
      by i h (yes l) =
          C.each i l (omega (arith, C.rest.size)) ∙ sym (right (eqb (get_or w i 0) n) (get_or w i 0) _ refl ((scan_fine count (λ e. pick (eqb (get_or w e 0) n) fine (refused_of 9 e n 0))).0 passed i l))
      by i h (no d) = C.rest.beyond i (omega arith) ∙ H.rest.beyond i (omega arith)
