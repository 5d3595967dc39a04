-- A name over 32 bytes: nothing is touched, what the call's own tests refuse comes first, and 18 comes exactly where they pass.
use Prim.Native.Nat.{ℕ, ◌<◌}
use mathlib.Core.Path.{◌≡◌, refl, sym, ◌∙◌}
use mathlib.Core.Bool.{true, false}
use mathlib.Core.List.{List}
use borrow.Author.Tests.{lt-leb}
use lib.ListN.{length}
use Rattle.egg.specs.Answers.{Verdict}
use Rattle.std.specs.Prelude.{Ok, Err}
use Rattle.egg.specs.Scan.{refused_of}
use Rattle.egg.specs.Answers.{numbered}
use Rattle.egg.specs.Factor.{has_room}
use Rattle.egg.proofs.Rooms.{false_true}
use Rattle.egg.proofs.Scans.{refused_fine}
use Rattle.build_checks_laws.specs.Numbers.{member}
use Rattle.build_lending.specs.Lending.{Making}
use Rattle.builder.specs.Answers.{Begun}
use Rattle.builder.specs.Calls.{Leaving, leaving, begins}
use Rattle.factor.specs.Composed.{composed}
use Rattle.enumeration.specs.Calls.{enumerates}
use Rattle.factor_laws.specs.Refuses.{VerdictIn}
use Rattle.promises.specs.Composed.{RowsRight}
use Rattle.promises.specs.Enumerated.{EnumerationRight}
use Rattle.names.specs.Making.{named_making, too_long, named_composed, named_enumerates, named_begins}
use Rattle.promises_names.specs.LongNames.{TestsFirst, unmade, unbegun, LongName, LongBegun}
use Rattle.promises_names.proofs.Tests.{composed_tests, enumerate_tests, begin_tests}

-- 18 is none of the numbers of l.
pub not_18 : {l : List ℕ} {v : Verdict} → member 18 l ≡ false → VerdictIn l v → v ≡ refused_of 18 0 0 0 → ⊥
not_18 {l} out i h = false_true (sym out ∙ i.of (numbered 18 0 0 0) h)

-- What is answered to a long name: 18 exactly where the tests pass, and else what the call is refused with.
module _ {right : Type 0} {before : List ℕ} (out : member 18 before ≡ false) where
  long_made : {made build : Making} {t w : List ℕ} (v : Verdict) → TestsFirst right before v made build (unmade t w) → LongName right made t w (named_making (too_long v) t w)
  long_made (Ok _) T = record {
    why = numbered 18 0 0 0;
    untouched = refl;
    refused = λ h. refused_fine h;
    own_first = λ wrong. absurd (wrong (T.starts.0 refl));
    long = (λ h. T.starts.0 refl, λ R. refl);
  }
  long_made (Err r) T = record {
    why = r;
    untouched = refl;
    refused = λ h. refused_fine h;
    own_first = λ wrong. sym (T.refused refl);
    long = (λ h. absurd (not_18 out T.numbers h), λ R. absurd (refused_fine (T.starts.1 R)));
  }

  long_begun : {begun build : Leaving Begun} {t : List ℕ} (v : Verdict) → TestsFirst right before v begun build (unbegun t) → LongBegun right begun t (leaving (too_long v) t)
  long_begun (Ok _) T = record {
    why = numbered 18 0 0 0;
    untouched = refl;
    refused = λ h. refused_fine h;
    own_first = λ wrong. absurd (wrong (T.starts.0 refl));
    long = (λ h. T.starts.0 refl, λ R. refl);
  }
  long_begun (Err r) T = record {
    why = r;
    untouched = refl;
    refused = λ h. refused_fine h;
    own_first = λ wrong. sym (T.refused refl);
    long = (λ h. absurd (not_18 out T.numbers h), λ R. absurd (refused_fine (T.starts.1 R)));
  }

module _ (name : List ℕ) (long : 32 < length name) where
  pub composed_long : (table : List ℕ) (start : ℕ) (work rows : List ℕ) (n room : ℕ)
      → LongName (RowsRight table start work rows n room) (composed table start work rows n room) table work (named_composed table start work rows n room name)
  unfolding named_composed
  composed_long table start work rows n room =
      rw (lt-leb (length name) 32 long) (long_made refl _ (composed_tests table start work rows n room))

  pub enumerate_long : (table : List ℕ) (start : ℕ) (work orders : List ℕ) (n room : ℕ)
      → LongName (EnumerationRight table start work orders n room) (enumerates table start work orders n room) table work
      (named_enumerates table start work orders n room name)
  unfolding named_enumerates
  enumerate_long table start work orders n room =
      rw (lt-leb (length name) 32 long) (long_made refl _ (enumerate_tests table start work orders n room))

  pub begin_long : (table : List ℕ) (start room n : ℕ)
      → LongBegun (has_room (length table) start room n ≡ true) (begins table start room n) table (named_begins table start room n name)
  unfolding named_begins
  begin_long table start room n =
      rw (lt-leb (length name) 32 long) (long_begun refl _ (begin_tests table start room n))
