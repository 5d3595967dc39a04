-- A reading can be stopped at one place only and for one reason, since no place that cannot be read is passed; and what can be read is not stopped.
use Prim.Native.Nat.{ℕ, suc, ◌<◌}
use mathlib.Core.Path.{◌≡◌, refl, sym}
use native.Mathlib.Omega.{arith}
use Rattle.egg.specs.declared.Refusal.{Refusal}
use Rattle.theory.specs.Appearance.{Ahead, row}
use Rattle.theory.proofs.Places.{Places, sooner, same, later, places, ahead_row}
use Rattle.theory.proofs.Counting.{row_known, read_known}
use Rattle.build_reading_laws.specs.Read.{Readable, ReadSoFar, Stops, skips_ahead, no_room, long_word, ReadingRefused}
use Rattle.theory.proofs.RuleLaws.{new_letters, count_once, no_skip, count_within}

module _ {src : ℕ → ℕ → ℕ} {n room : ℕ} where
  -- A place that cannot be read is not passed.
  not_passed : {x g c y h d : ℕ} {r : Refusal} → ReadSoFar src n room x g c → g < n → Stops src n room x g c r → ReadSoFar src n room y h d → Ahead x g y h → ⊥
  not_passed H hg (skips_ahead l) H' a = omega (arith, no_skip H.known hg H'.known a)
  not_passed H hg (no_room is full) H' a = omega (arith, read_known H'.known hg a, H'.within)
  not_passed H hg (long_word is l w) H' a =
      omega (arith, new_letters H.known hg is, H'.short (rw is at (read_known H'.known hg a)))

  -- And it stops for one reason.
  one_reason : {x g c : ℕ} {r r' : Refusal} → Stops src n room x g c r → Stops src n room x g c r' → r ≡ r'
  one_reason (skips_ahead l) (skips_ahead l') = refl
  one_reason (skips_ahead l) (no_room p q) = absurd (omega arith)
  one_reason (skips_ahead l) (long_word p q w) = absurd (omega arith)
  one_reason (no_room p q) (skips_ahead l) = absurd (omega arith)
  one_reason (no_room p q) (no_room p' q') = refl
  one_reason (no_room p q) (long_word p' q' w) = absurd (omega arith)
  one_reason (long_word p q w) (skips_ahead l) = absurd (omega arith)
  one_reason (long_word p q w) (no_room p' q') = absurd (omega arith)
  one_reason (long_word p q w) (long_word p' q' w') = refl

  pub refuses_once : {r r' : Refusal} → ReadingRefused src n room r → ReadingRefused src n room r' → r ≡ r'
  refuses_once {r} {r'} R R' = go (places R.row R.column R'.row R'.column) where
    at_one : {x g c : ℕ} → x ≡ R.row → g ≡ R.column → ReadSoFar src n room x g c → Stops src n room x g c r' → r ≡ r'
    at_one p q H S =
        let K = rw (p, q) at H.known in
        let i = count_once K R.before.known in
        one_reason R.stops (rw (p, q, i) at S)

    go : Places R.row R.column R'.row R'.column → r ≡ r'
    go (sooner a) = absurd (not_passed R.before R.place R.stops R'.before a)
    go (same p q) = at_one (sym p) (sym q) R'.before R'.stops
    go (later a) = absurd (not_passed R'.before R'.place R'.stops R.before a)

  -- What can be read is not refused.
  pub readable_not_refused : {N : ℕ} {r : Refusal} → Readable src n room N → ReadingRefused src n room r → ⊥
  readable_not_refused R F =
      let B = R.by_rule in
      let l : F.row < suc B.end = omega (arith, row_known F.before.known, count_within B F.before.known, B.last_row) in
      not_passed F.before F.place F.stops (record { known = B.known; within = R.within; short = R.short }) (ahead_row F.place (row l))
