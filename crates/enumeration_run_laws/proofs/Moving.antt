-- No step of a finished run stays where it is, since words that are equal under the relations are both of even or both of odd length. Of 9, "a fixed point
-- or wrong generator row or count", this leaves a generator row other than the identity's, and a count; that these do not come either is `enumeration_done` of
-- `promises_enumeration`.
use Prim.Native.Nat.{ℕ, ◌+◌, ◌%◌, ◌<◌}
use mathlib.Core.Path.{◌≡◌, refl}
use mathlib.Core.List.{List, [], ◌∷◌}
use native.Mathlib.Omega.{arith}
use lib.ListN.{length, length-append}
use Rattle.theory.proofs.Parity.{equiv_parity}
use Rattle.egg.specs.Table.{start_of, step_of}
use Rattle.enumeration_run_laws.specs.Going.{Finished}

odd_step : (a x : ℕ) → x ≡ a + 1 → x % 2 ≡ a % 2 → ⊥
odd_step a x p q = omega arith

pub finished_moves : {n : ℕ} {o : List ℕ} {room lt lw N : ℕ} {t w : List ℕ} → Finished n o room lt lw N t w → {e g : ℕ} → e < N → g < n → step_of t n e g ≡ e → ⊥
finished_moves {n} {t = t} F {e} {g} he hg q =
    let k = F.seen e g he hg in
    let s = (F.run.table.marks (start_of n e + g)).succ e g e hg refl (omega arith) in
    odd_step (length (F.run.word e)) _ (length-append (F.run.word e) (g ∷ [])) (equiv_parity s.leads)
