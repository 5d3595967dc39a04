-- What a fault of each number is, with all three places; and which numbers there are.
use Rattle.egg.specs.Refusals.{refusal_paper}
use Prim.Native.Nat.{ℕ, ◌≤◌, ◌<◌}
use mathlib.Core.Path.{◌≡◌, refl}
use mathlib.Core.Logic.{◌⊎◌, inl, inr}
use native.Mathlib.Omega.{arith}
use Rattle.egg.specs.declared.Refusal.{Refusal}
use Rattle.egg.specs.Answers.{numbered}
use Rattle.build_reading_laws.specs.Read.{ReadSoFar, Stops, skips_ahead, no_room, long_word, ReadingRefused}
use Rattle.build_reading_laws.proofs.Readings.{refused_number}
use Rattle.build_laws.specs.Taken.{Groupless}
use Rattle.promises_refusals.specs.Faults.{Overflows, Overlong, SkipsAhead, Lacks, Strays, Twists, Misnumbers, Fault, unread, lacks, strays, twists, misnumbers, groupless}

reading_number : {k : ℕ} → (k ≡ 7) ⊎ ((k ≡ 5) ⊎ (k ≡ 6)) → (5 ≤ k) × (k ≤ 7)
reading_number (inl q) = (omega arith, omega arith)
reading_number (inr (inl q)) = (omega arith, omega arith)
reading_number (inr (inr q)) = (omega arith, omega arith)

module _ {src : ℕ → ℕ → ℕ} {n room : ℕ} where
  -- 5, 6 and 7 are the reading's.
  pub reading_numbers : {r : Refusal} → ReadingRefused src n room r → (5 ≤ (refusal_paper r).number) × ((refusal_paper r).number ≤ 7)
  reading_numbers F = reading_number (refused_number F)

  pub fault_numbers : {r : Refusal} → Fault src n room r → (5 ≤ (refusal_paper r).number) × ((refusal_paper r).number ≤ 12)
  fault_numbers (unread F) = ((reading_numbers F).0, omega (arith, (reading_numbers F).1))
  fault_numbers (lacks F) = (omega arith, omega arith)
  fault_numbers (strays F) = (omega arith, omega arith)
  fault_numbers (twists F) = (omega arith, omega arith)
  fault_numbers (misnumbers F) = (omega arith, omega arith)
  fault_numbers (groupless F) = (omega arith, omega arith)

  pub fault_reading : {r : Refusal} → Fault src n room r → (refusal_paper r).number ≤ 7 → ReadingRefused src n room r
  fault_reading (unread F) q = F
  fault_reading (lacks F) q = absurd (omega arith)
  fault_reading (strays F) q = absurd (omega arith)
  fault_reading (twists F) q = absurd (omega arith)
  fault_reading (misnumbers F) q = absurd (omega arith)
  fault_reading (groupless F) q = absurd (omega arith)

  -- Each of them with its places.
  at_5 : {x g c : ℕ} {r : Refusal} → ReadSoFar src n room x g c → g < n → Stops src n room x g c r → (refusal_paper r).number ≡ 5 → Overflows src n room (refusal_paper r).a (refusal_paper r).b × ((refusal_paper r).c ≡ 0)
  at_5 H hg (skips_ahead l) q = absurd (omega arith)
  at_5 {c = c} H hg (no_room p f) q = (record { count = c; before = H; column = hg; needed = p; full = f }, refl)
  at_5 H hg (long_word p l f) q = absurd (omega arith)

  at_6 : {x g c : ℕ} {r : Refusal} → ReadSoFar src n room x g c → g < n → Stops src n room x g c r → (refusal_paper r).number ≡ 6 → Overlong src n room (refusal_paper r).a (refusal_paper r).b × ((refusal_paper r).c ≡ 0)
  at_6 H hg (skips_ahead l) q = absurd (omega arith)
  at_6 H hg (no_room p f) q = absurd (omega arith)
  at_6 {c = c} H hg (long_word p l f) q = (record { count = c; before = H; column = hg; needed = p; has_room = l; full = f }, refl)

  at_7 : {x g c : ℕ} {r : Refusal} → ReadSoFar src n room x g c → g < n → Stops src n room x g c r → (refusal_paper r).number ≡ 7 → SkipsAhead src n room (refusal_paper r).a (refusal_paper r).b (refusal_paper r).c
  at_7 {c = c} H hg (skips_ahead l) q = record { count = c; before = H; column = hg; number = refl; ahead = l }
  at_7 H hg (no_room p f) q = absurd (omega arith)
  at_7 H hg (long_word p l f) q = absurd (omega arith)

  pub fault_5 : {r : Refusal} → Fault src n room r → (refusal_paper r).number ≡ 5 → Overflows src n room (refusal_paper r).a (refusal_paper r).b × ((refusal_paper r).c ≡ 0)
  fault_5 F q = let G = fault_reading F (omega arith) in at_5 G.before G.place G.stops q

  pub fault_6 : {r : Refusal} → Fault src n room r → (refusal_paper r).number ≡ 6 → Overlong src n room (refusal_paper r).a (refusal_paper r).b × ((refusal_paper r).c ≡ 0)
  fault_6 F q = let G = fault_reading F (omega arith) in at_6 G.before G.place G.stops q

  pub fault_7 : {r : Refusal} → Fault src n room r → (refusal_paper r).number ≡ 7 → SkipsAhead src n room (refusal_paper r).a (refusal_paper r).b (refusal_paper r).c
  fault_7 F q = let G = fault_reading F (omega arith) in at_7 G.before G.place G.stops q

  pub overflows : {e g : ℕ} → Overflows src n room e g → Fault src n room (numbered 5 e g 0)
  overflows {e} {g} F = unread (record {
    row = e;
    column = g;
    count = F.count;
    before = F.before;
    place = F.column;
    stops = no_room F.needed F.full;
  })

  pub overlong : {e g : ℕ} → Overlong src n room e g → Fault src n room (numbered 6 e g 0)
  overlong {e} {g} F = unread (record {
    row = e;
    column = g;
    count = F.count;
    before = F.before;
    place = F.column;
    stops = long_word F.needed F.has_room F.full;
  })

  pub skips : {e g v : ℕ} → SkipsAhead src n room e g v → Fault src n room (numbered 7 e g v)
  skips {e} {g} F =
      rw (← F.number)
      (unread (record { row = e; column = g; count = F.count; before = F.before; place = F.column; stops = skips_ahead (rw F.number F.ahead) }))

  pub fault_8 : {r : Refusal} → Fault src n room r → (refusal_paper r).number ≡ 8 → Lacks src n room (refusal_paper r).a (refusal_paper r).b × ((refusal_paper r).c ≡ 0)
  fault_8 (unread F) q = absurd (omega (arith, (reading_numbers F).1))
  fault_8 (lacks F) q = (F, refl)
  fault_8 (strays F) q = absurd (omega arith)
  fault_8 (twists F) q = absurd (omega arith)
  fault_8 (misnumbers F) q = absurd (omega arith)
  fault_8 (groupless F) q = absurd (omega arith)

  pub fault_9 : {r : Refusal} → Fault src n room r → (refusal_paper r).number ≡ 9 → Strays src n room (refusal_paper r).a (refusal_paper r).b × ((refusal_paper r).c ≡ 0)
  fault_9 (unread F) q = absurd (omega (arith, (reading_numbers F).1))
  fault_9 (lacks F) q = absurd (omega arith)
  fault_9 (strays F) q = (F, refl)
  fault_9 (twists F) q = absurd (omega arith)
  fault_9 (misnumbers F) q = absurd (omega arith)
  fault_9 (groupless F) q = absurd (omega arith)

  pub fault_10 : {r : Refusal} → Fault src n room r → (refusal_paper r).number ≡ 10 → Twists src n room (refusal_paper r).a (refusal_paper r).b (refusal_paper r).c
  fault_10 (unread F) q = absurd (omega (arith, (reading_numbers F).1))
  fault_10 (lacks F) q = absurd (omega arith)
  fault_10 (strays F) q = absurd (omega arith)
  fault_10 (twists F) q = F
  fault_10 (misnumbers F) q = absurd (omega arith)
  fault_10 (groupless F) q = absurd (omega arith)

  pub fault_11 : {r : Refusal} → Fault src n room r → (refusal_paper r).number ≡ 11 → Misnumbers src n room (refusal_paper r).a × (((refusal_paper r).b ≡ 0) × ((refusal_paper r).c ≡ 0))
  fault_11 (unread F) q = absurd (omega (arith, (reading_numbers F).1))
  fault_11 (lacks F) q = absurd (omega arith)
  fault_11 (strays F) q = absurd (omega arith)
  fault_11 (twists F) q = absurd (omega arith)
  fault_11 (misnumbers F) q = (F, (refl, refl))
  fault_11 (groupless F) q = absurd (omega arith)

  pub fault_12 : {r : Refusal} → Fault src n room r → (refusal_paper r).number ≡ 12
      → ((N : ℕ) × Groupless src n room N) × (((refusal_paper r).a ≡ 0) × (((refusal_paper r).b ≡ 0) × ((refusal_paper r).c ≡ 0)))
  fault_12 (unread F) q = absurd (omega (arith, (reading_numbers F).1))
  fault_12 (lacks F) q = absurd (omega arith)
  fault_12 (strays F) q = absurd (omega arith)
  fault_12 (twists F) q = absurd (omega arith)
  fault_12 (misnumbers F) q = absurd (omega arith)
  fault_12 (groupless {N} F) q = ((N, F), (refl, (refl, refl)))
