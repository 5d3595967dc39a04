-- 18 of the calls that are given a name, on every input: exactly for a name over 32 bytes with all other arguments right.
use Prim.Native.Nat.{ℕ, ◌≤◌, ◌<◌}
use mathlib.Core.Path.{◌≡◌, refl, sym, ap, ◌∙◌}
use mathlib.Core.Logic.{◌↔◌}
use mathlib.Core.Bool.{true, false}
use mathlib.Core.List.{List, [], ◌∷◌}
use native.Mathlib.Decide.{dec_lt}
use native.Mathlib.Omega.{arith}
use lib.ListN.{length}
use Rattle.egg.specs.declared.Refusal.{Refusal}
use Rattle.egg.specs.Answers.{Verdict}
use Rattle.std.specs.Prelude.{Ok, Err}
use Rattle.egg.proofs.Scans.{refused_fine}
use Rattle.egg.specs.Scan.{refused_of}
use Rattle.egg.specs.Factor.{has_room}
use Rattle.build_lending.specs.Lending.{Making, making}
use Rattle.build_checks_laws.specs.Numbers.{member, RefusalIn}
use Rattle.builder.specs.Answers.{Begun}
use Rattle.builder.specs.Calls.{Leaving, leaving, begins}
use Rattle.factor.specs.Composed.{composed}
use Rattle.enumeration.specs.Calls.{enumerates}
use Rattle.factor_laws.specs.Refuses.{VerdictIn}
use Rattle.promises.specs.Composed.{RowsRight}
use Rattle.promises.specs.Enumerated.{EnumerationRight}
use Rattle.promises.specs.Leaves.{composed_numbers, enumeration_numbers}
use Rattle.promises.proofs.Never.{leaves_number, composed_number, enumeration_number}
use Rattle.promises_refusals.specs.Papers.{answer_of}
use Rattle.promises_builder.proofs.Leaves.{begins_leaves}
use Rattle.names.specs.Making.{named_composed, named_enumerates, named_begins}
use Rattle.promises_names.specs.Aside.{name_aside, begun_aside, begun_answer}
use Rattle.promises_names.proofs.Making.{composed_as_before, enumerate_as_before, begin_as_before}
use Rattle.promises_names.proofs.Tests.{same_why}
use Rattle.promises_names.proofs.LongNames.{not_18, composed_long, enumerate_long, begin_long}

-- The call without a name, whose answer is v, never gives 18; with a name, whose answer is u, it answers v where the name is short.
exactly : {right : Type 0} {l : List ℕ} {u v : Verdict} (name : List ℕ) → member 18 l ≡ false → VerdictIn l v → (length name ≤ 32 → u ≡ v)
    → (32 < length name → u ≡ refused_of 18 0 0 0 ↔ right) → u ≡ refused_of 18 0 0 0 ↔ ((32 < length name) × right)
exactly {right} {u = u} name out i short long = (λ h. by (dec_lt 32 (length name)) h, λ p. (long p.0).1 p.1) where
  by : Dec (32 < length name) → u ≡ refused_of 18 0 0 0 → (32 < length name) × right
  by (yes l) h = (l, (long l).0 h)
  by (no l) h = absurd (not_18 out i (sym (short (omega arith)) ∙ h))

module _ (table : List ℕ) (start : ℕ) (work rows : List ℕ) (n room : ℕ) where
  composed_in_lem : VerdictIn (1 ∷ 4 ∷ composed_numbers) (answer_of (composed table start work rows n room))
  composed_in_lem = record { of = λ r h. by (composed table start work rows n room) refl r h } where
    by : (p : Making) → composed table start work rows n room ≡ p → (r : Refusal) → answer_of p ≡ Err r → RefusalIn (1 ∷ 4 ∷ composed_numbers) r
    by (making (Ok f) t w) q r e = absurd (refused_fine (sym e))
    by (making (Err s) t w) q r e = composed_number table start work rows n room r t w (q ∙ ap (λ (v : Refusal). making (Err v) t w) (same_why e))

  pub composed_18 : (name : List ℕ)
      → answer_of (name_aside (named_composed table start work rows n room name)) ≡ refused_of 18 0 0 0
      ↔ ((32 < length name) × RowsRight table start work rows n room)
  composed_18 name =
      exactly name refl composed_in_lem (λ s. ap answer_of (composed_as_before name s table start work rows n room).as_before)
      (λ l. (composed_long name l table start work rows n room).long)

module _ (table : List ℕ) (start : ℕ) (work orders : List ℕ) (n room : ℕ) where
  enumerate_in : VerdictIn (1 ∷ 2 ∷ 3 ∷ 4 ∷ enumeration_numbers) (answer_of (enumerates table start work orders n room))
  enumerate_in = record { of = λ r h. by (enumerates table start work orders n room) refl r h } where
    by : (p : Making) → enumerates table start work orders n room ≡ p → (r : Refusal) → answer_of p ≡ Err r
        → RefusalIn (1 ∷ 2 ∷ 3 ∷ 4 ∷ enumeration_numbers) r
    by (making (Ok f) t w) q r e = absurd (refused_fine (sym e))
    by (making (Err s) t w) q r e = enumeration_number table start work orders n room r t w (q ∙ ap (λ (v : Refusal). making (Err v) t w) (same_why e))

  pub enumerate_18 : (name : List ℕ)
      → answer_of (name_aside (named_enumerates table start work orders n room name)) ≡ refused_of 18 0 0 0
      ↔ ((32 < length name) × EnumerationRight table start work orders n room)
  enumerate_18 name =
      exactly name refl enumerate_in (λ s. ap answer_of (enumerate_as_before name s table start work orders n room).as_before)
      (λ l. (enumerate_long name l table start work orders n room).long)

module _ (table : List ℕ) (start room n : ℕ) where
  begin_in : VerdictIn (1 ∷ 4 ∷ []) (begun_answer (begins table start room n))
  begin_in = record { of = λ r h. by (begins table start room n) refl r h } where
    by : (p : Leaving Begun) → begins table start room n ≡ p → (r : Refusal) → begun_answer p ≡ Err r → RefusalIn (1 ∷ 4 ∷ []) r
    by (leaving (Ok b) t) q r e = absurd (refused_fine (sym e))
    by (leaving (Err s) t) q r e =
        leaves_number (1 ∷ 4 ∷ []) refl refl (begins_leaves table start room n r t (q ∙ ap (λ (v : Refusal). leaving (Err v) t) (same_why e)))

  pub begin_18 : (name : List ℕ)
      → begun_answer (begun_aside (named_begins table start room n name)) ≡ refused_of 18 0 0 0
      ↔ ((32 < length name) × (has_room (length table) start room n ≡ true))
  begin_18 name =
      exactly name refl begin_in (λ s. ap begun_answer (begin_as_before name s table start room n).as_before)
      (λ l. (begin_long name l table start room n).long)
