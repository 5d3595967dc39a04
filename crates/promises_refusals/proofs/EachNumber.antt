-- Each answer of the call on composed rows by itself: this number with these places is answered exactly when, in theory's words.
use Prim.Native.Nat.{ℕ, ◌≤◌, ◌<◌}
use mathlib.Core.Path.{◌≡◌, refl, ap, subst}
use mathlib.Core.Logic.{◌↔◌}
use mathlib.Core.List.{List}
use native.Mathlib.Omega.{arith}
use lib.Dec.{lit<}
use Rattle.egg.specs.declared.Refusal.{Refusal}
use Rattle.egg.specs.Factor.{Paper, refusal_paper}
use Rattle.factor.specs.Composed.{composed}
use Rattle.build_reading.specs.Reading.{composed_at}
use Rattle.build_laws.specs.Taken.{Taken, Groupless}
use Rattle.promises_refusals.specs.Faults.{Overflows, Overlong, SkipsAhead, Lacks, Strays, Twists, Misnumbers, Fault, lacks, strays, twists, misnumbers, groupless}
use Rattle.promises_refusals.specs.Papers.{paper_of, paper, Enough, ComposedPaper, many, short, taken, fault}
use Rattle.promises_refusals.proofs.Numbers.{fault_numbers, fault_5, fault_6, fault_7, overflows, overlong, skips, fault_8, fault_9, fault_10, fault_11, fault_12}
use Rattle.promises_refusals.proofs.Composed.{composed_paper, paper_given}

module _ (table : List ℕ) (start : ℕ) (work rows : List ℕ) (n room : ℕ) where
  -- What is refused after 1 and 4 is a fault.
  abbrev Started : Type 0
  Started = (n ≤ 8) × Enough table start work rows n room

  fault_of : {p : Paper} → ComposedPaper table start work rows n room p → 5 ≤ p.number
      → Started × (r : Refusal) × Fault (composed_at rows n) n room r × (refusal_paper r ≡ p)
  fault_of (many h) q = absurd (omega arith)
  fault_of (short hn h) q = absurd (omega arith)
  fault_of (taken hn E G) q = absurd (omega arith)
  fault_of (fault {r} hn E F) q = ((hn, E), r, F, refl)

  found : (k a b c : ℕ) → 5 ≤ k → paper_of (composed table start work rows n room) ≡ paper k a b c
      → Started × (r : Refusal) × Fault (composed_at rows n) n room r × (refusal_paper r ≡ paper k a b c)
  found k a b c l q = fault_of ((composed_paper table start work rows n room (paper k a b c)).0 q) l

  number_of : {p q : Paper} → p ≡ q → p.number ≡ q.number
  number_of e = ap (λ (p : Paper). p.number) e

  given : {r : Refusal} → Started → Fault (composed_at rows n) n room r → paper_of (composed table start work rows n room) ≡ refusal_paper r
  given s F = paper_given table start work rows n room (fault s.0 s.1 F)

  -- 1, 4 and acceptance.
  pub composed_1 : (a b c : ℕ) → paper_of (composed table start work rows n room) ≡ paper 1 a b c ↔ ((8 < n) × ((a ≡ n) × ((b ≡ 0) × (c ≡ 0))))
  composed_1 a b c = (
    λ q. by ((composed_paper table start work rows n room (paper 1 a b c)).0 q) refl,
    λ h. rw (h.1.0, h.1.1.0, h.1.1.1) (paper_given table start work rows n room (many h.0)),
  ) where
    by : {p : Paper} → ComposedPaper table start work rows n room p → p.number ≡ 1 → (8 < n) × ((p.a ≡ n) × ((p.b ≡ 0) × (p.c ≡ 0)))
    by (many h) q = (h, (refl, (refl, refl)))
    by (short hn h) q = absurd (omega arith)
    by (taken hn E G) q = absurd (omega arith)
    by (fault hn E F) q = absurd (omega (arith, (fault_numbers F).0))

  pub composed_4 : (a b c : ℕ) → paper_of (composed table start work rows n room) ≡ paper 4 a b c
      ↔ ((n ≤ 8) × (¬ (Enough table start work rows n room) × ((a ≡ 0) × ((b ≡ 0) × (c ≡ 0)))))
  composed_4 a b c = (
    λ q. by ((composed_paper table start work rows n room (paper 4 a b c)).0 q) refl,
    λ h. rw (h.1.1.0, h.1.1.1.0, h.1.1.1.1) (paper_given table start work rows n room (short h.0 h.1.0)),
  ) where
    by : {p : Paper} → ComposedPaper table start work rows n room p → p.number ≡ 4
        → (n ≤ 8) × (¬ (Enough table start work rows n room) × ((p.a ≡ 0) × ((p.b ≡ 0) × (p.c ≡ 0))))
    by (many h) q = absurd (omega arith)
    by (short hn h) q = (hn, (h, (refl, (refl, refl))))
    by (taken hn E G) q = absurd (omega arith)
    by (fault hn E F) q = absurd (omega (arith, (fault_numbers F).0))

  pub composed_accepted : (a b c : ℕ) → paper_of (composed table start work rows n room) ≡ paper 0 a b c
      ↔ (((n ≤ 8) × Enough table start work rows n room) × (((N : ℕ) × Taken (composed_at rows n) n room N) × ((a ≡ 0) × ((b ≡ 0) × (c ≡ 0)))))
  composed_accepted a b c = (
    λ q. by ((composed_paper table start work rows n room (paper 0 a b c)).0 q) refl,
    λ h. rw (h.1.1.0, h.1.1.1.0, h.1.1.1.1) (paper_given table start work rows n room (taken h.0.0 h.0.1 h.1.0.1)),
  ) where
    by : {p : Paper} → ComposedPaper table start work rows n room p → p.number ≡ 0
        → Started × (((N : ℕ) × Taken (composed_at rows n) n room N) × ((p.a ≡ 0) × ((p.b ≡ 0) × (p.c ≡ 0))))
    by (many h) q = absurd (omega arith)
    by (short hn h) q = absurd (omega arith)
    by (taken {N} hn E G) q = ((hn, E), ((N, G), (refl, (refl, refl))))
    by (fault hn E F) q = absurd (omega (arith, (fault_numbers F).0))

  -- 5, "an element is needed beyond the room".
  pub composed_5 : (e g c : ℕ) → paper_of (composed table start work rows n room) ≡ paper 5 e g c
      ↔ (((n ≤ 8) × Enough table start work rows n room) × (Overflows (composed_at rows n) n room e g × (c ≡ 0)))
  composed_5 e g c = (
    λ q. let F = found 5 e g c (lit< tt) q in (F.0, subst (λ (p : Paper). Overflows (composed_at rows n) n room p.a p.b × (p.c ≡ 0)) F.3 (fault_5 F.2 (number_of F.3))),
    λ h. rw h.1.1 (given h.0 (overflows h.1.0)),
  )

  -- 6, "its word would pass 4,096".
  pub composed_6 : (e g c : ℕ) → paper_of (composed table start work rows n room) ≡ paper 6 e g c
      ↔ (((n ≤ 8) × Enough table start work rows n room) × (Overlong (composed_at rows n) n room e g × (c ≡ 0)))
  composed_6 e g c = (
    λ q. let F = found 6 e g c (lit< tt) q in (F.0, subst (λ (p : Paper). Overlong (composed_at rows n) n room p.a p.b × (p.c ≡ 0)) F.3 (fault_6 F.2 (number_of F.3))),
    λ h. rw h.1.1 (given h.0 (overlong h.1.0)),
  )

  -- 7, "a composed number skips ahead".
  pub composed_7 : (e g v : ℕ) → paper_of (composed table start work rows n room) ≡ paper 7 e g v
      ↔ (((n ≤ 8) × Enough table start work rows n room) × SkipsAhead (composed_at rows n) n room e g v)
  composed_7 e g v = (λ q. let F = found 7 e g v (lit< tt) q in (F.0, subst (λ (p : Paper). SkipsAhead (composed_at rows n) n room p.a p.b p.c) F.3 (fault_7 F.2 (number_of F.3))), λ h. given h.0 (skips h.1))

  -- 8, "a successor or predecessor missing".
  pub composed_8 : (e g c : ℕ) → paper_of (composed table start work rows n room) ≡ paper 8 e g c
      ↔ (((n ≤ 8) × Enough table start work rows n room) × (Lacks (composed_at rows n) n room e g × (c ≡ 0)))
  composed_8 e g c = (
    λ q. let F = found 8 e g c (lit< tt) q in (F.0, subst (λ (p : Paper). Lacks (composed_at rows n) n room p.a p.b × (p.c ≡ 0)) F.3 (fault_8 F.2 (number_of F.3))),
    λ h. rw h.1.1 (given h.0 (lacks h.1.0)),
  )

  -- 9, "a fixed point or wrong generator row or count (003)": never for a count.
  pub composed_9 : (e g c : ℕ) → paper_of (composed table start work rows n room) ≡ paper 9 e g c
      ↔ (((n ≤ 8) × Enough table start work rows n room) × (Strays (composed_at rows n) n room e g × (c ≡ 0)))
  composed_9 e g c = (
    λ q. let F = found 9 e g c (lit< tt) q in (F.0, subst (λ (p : Paper). Strays (composed_at rows n) n room p.a p.b × (p.c ≡ 0)) F.3 (fault_9 F.2 (number_of F.3))),
    λ h. rw h.1.1 (given h.0 (strays h.1.0)),
  )

  -- 10, "inverse of inverse differs".
  pub composed_10 : (e i j : ℕ) → paper_of (composed table start work rows n room) ≡ paper 10 e i j
      ↔ (((n ≤ 8) × Enough table start work rows n room) × Twists (composed_at rows n) n room e i j)
  composed_10 e i j = (λ q. let F = found 10 e i j (lit< tt) q in (F.0, subst (λ (p : Paper). Twists (composed_at rows n) n room p.a p.b p.c) F.3 (fault_10 F.2 (number_of F.3))), λ h. given h.0 (twists h.1))

  -- 11, "identity row is not 1..n".
  pub composed_11 : (g b c : ℕ) → paper_of (composed table start work rows n room) ≡ paper 11 g b c
      ↔ (((n ≤ 8) × Enough table start work rows n room) × (Misnumbers (composed_at rows n) n room g × ((b ≡ 0) × (c ≡ 0))))
  composed_11 g b c = (
    λ q. let F = found 11 g b c (lit< tt) q in (F.0, subst (λ (p : Paper). Misnumbers (composed_at rows n) n room p.a × ((p.b ≡ 0) × (p.c ≡ 0))) F.3 (fault_11 F.2 (number_of F.3))),
    λ h. rw (h.1.1.0, h.1.1.1) (given h.0 (misnumbers h.1.0)),
  )

  -- 12, "no group has these right steps".
  pub composed_12 : (a b c : ℕ) → paper_of (composed table start work rows n room) ≡ paper 12 a b c
      ↔ (((n ≤ 8) × Enough table start work rows n room) × (((N : ℕ) × Groupless (composed_at rows n) n room N) × ((a ≡ 0) × ((b ≡ 0) × (c ≡ 0)))))
  composed_12 a b c = (
    λ q. let F = found 12 a b c (lit< tt) q in (F.0, subst (λ (p : Paper). ((N : ℕ) × Groupless (composed_at rows n) n room N) × ((p.a ≡ 0) × ((p.b ≡ 0) × (p.c ≡ 0)))) F.3 (fault_12 F.2 (number_of F.3))),
    λ h. rw (h.1.1.0, h.1.1.1.0, h.1.1.1.1) (given h.0 (groupless h.1.0.1)),
  )
