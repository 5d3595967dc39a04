-- Lists of copies as lists of addresses: membership, that none is there twice, the last one, and how long a list can be.
use Prim.Native.Nat.{ℕ, zero, suc, ◌<◌, ◌≤◌}
use mathlib.Core.Path.{◌≡◌, refl, sym}
use mathlib.Core.Logic.{◌⊎◌, inl, inr, ⊎_elim}
use mathlib.Core.List.{List, [], ◌∷◌, ◌++◌}
use native.Mathlib.Decide.{dec_lt}
use native.Mathlib.Omega.{arith}
use lib.ListN.{get_or, length}
use Rattle.theory.proofs.Pigeonhole.{pigeonhole}
use Rattle.enumeration_run_laws.specs.Stack.{Absent}
use Rattle.enumeration_closure_laws.specs.Queues.{In, here, there, Once, last_link}

-- A member of two lists one after the other is one of the first or of the second.
pub in_left : {p : ℕ} {ps : List ℕ} (qs : List ℕ) → In p ps → In p (ps ++ qs)
in_left qs (here e) = here e
in_left qs (there i) = there (in_left qs i)

pub in_right : {p : ℕ} (ps : List ℕ) {qs : List ℕ} → In p qs → In p (ps ++ qs)
in_right [] i = i
in_right (q ∷ ps) i = there (in_right ps i)

pub in_append : {p : ℕ} (ps : List ℕ) {qs : List ℕ} → In p (ps ++ qs) → In p ps ⊎ In p qs
in_append [] i = inr i
in_append (q ∷ ps) (here e) = inl (here e)
in_append (q ∷ ps) (there i) = ⊎_elim (λ a. inl (there a)) (λ b. inr b) (in_append ps i)

in_some : {p : ℕ} {ps : List ℕ} → In p ps → 0 < length ps
in_some (here e) = omega arith
in_some (there i) = omega arith

pub in_none : {p : ℕ} → In p [] → ⊥
in_none i = omega (arith, in_some i)

pub in_empty : {p : ℕ} {ps : List ℕ} → In p ps → ps ≡ [] → ⊥
in_empty i e = in_none (rw e at i)

pub in_one : {p q : ℕ} → In p (q ∷ []) → p ≡ q
in_one (here e) = sym e
in_one (there i) = absurd (in_none i)

pub absent : {p : ℕ} (ps : List ℕ) → (In p ps → ⊥) → Absent p ps
absent [] h = tt
absent (q ∷ ps) h = (λ e. h (here e), absent ps (λ i. h (there i)))

pub not_in : {p : ℕ} (ps : List ℕ) → Absent p ps → In p ps → ⊥
not_in {p = p} [] a i = elim i [ ]
not_in (q ∷ ps) a (here e) = a.0 e
not_in (q ∷ ps) a (there i) = not_in ps a.1 i

-- One more at the end, that was not there.
absent_last : (p q : ℕ) (ps : List ℕ) → Absent q ps → (p ≡ q → ⊥) → Absent q (ps ++ p ∷ [])
absent_last p q [] a d = (d, tt)
absent_last p q (x ∷ ps) a d = (a.0, absent_last p q ps a.1 d)

pub once_last : (p : ℕ) (ps : List ℕ) → Once ps → (In p ps → ⊥) → Once (ps ++ p ∷ [])
once_last p [] o h = (tt, tt)
once_last p (q ∷ ps) o h = (absent_last p q ps o.0 (λ e. h (here (sym e))), once_last p ps o.1 (λ i. h (there i)))

pub last_link_lem : (p : ℕ) (ps : List ℕ) → last_link (ps ++ p ∷ []) ≡ suc p
last_link_lem p [] = refl
last_link_lem p (q ∷ []) = refl
last_link_lem p (q ∷ x ∷ ps) = last_link_lem p (x ∷ ps)

-- The last one is one of them.
pub last_in : (q : ℕ) (ps : List ℕ) → last_link ps ≡ suc q → In q ps
last_in q [] e = absurd (omega arith)
last_in q (p ∷ []) e = let r : p ≡ q = omega arith in here r
last_in q (p ∷ x ∷ ps) e = there (last_in q (x ∷ ps) e)

pub last_some : (p : ℕ) (ps : List ℕ) → (q : ℕ) × (last_link (p ∷ ps) ≡ suc q)
last_some p [] = (p, refl)
last_some p (x ∷ ps) = last_some x ps

-- A list whose members stand once and are below b has at most b of them.
in_at : (ps : List ℕ) (i : ℕ) → i < length ps → In (get_or ps i 0) ps
in_at [] i h = absurd (omega arith)
in_at (p ∷ ps) zero h = here refl
in_at (p ∷ ps) (suc i) h = there (in_at ps i (omega arith))

once_at : (ps : List ℕ) → Once ps → (i j : ℕ) → i < j → j < length ps → get_or ps i 0 ≡ get_or ps j 0 → ⊥
once_at [] o i j h l e = absurd (omega arith)
once_at (p ∷ ps) o zero zero h l e = absurd (omega arith)
once_at (p ∷ ps) o zero (suc j) h l e = not_in ps o.0 (rw (← e) at (in_at ps j (omega arith)))
once_at (p ∷ ps) o (suc i) zero h l e = absurd (omega arith)
once_at (p ∷ ps) o (suc i) (suc j) h l e = once_at ps o.1 i j (omega arith) (omega arith) e

pub once_length : (b : ℕ) (ps : List ℕ) → Once ps → ((p : ℕ) → In p ps → p < b) → length ps ≤ b
once_length b ps o below = by (dec_lt b (length ps)) where
  by : Dec (b < length ps) → length ps ≤ b
  by (yes h) =
      let r = pigeonhole b (λ i. get_or ps i 0) (λ i l. below (get_or ps i 0) (in_at ps i (omega arith))) in
      absurd (once_at ps o r.i r.j r.ordered (omega (arith, r.inside)) r.equal)
  by (no h) = omega arith
