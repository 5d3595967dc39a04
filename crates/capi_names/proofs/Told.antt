-- What a function with a name leaves, by the lengths of `out` and of the list of the name, and by what it made.
use Prim.Native.Nat.{ℕ, ◌<◌, ◌≤◌}
use mathlib.Core.Path.{◌≡◌, ap, ◌∙◌}
use mathlib.Core.List.{List, [], ◌∷◌}
use borrow.Author.Tests.{lt-ltb, le-ltb}
use lib.ListN.{length}
use Rattle.std.specs.Prelude.{Ok, Err}
use Rattle.egg.specs.Answers.{answer_of}
use Rattle.egg.specs.Factor.{verdict_paper}
use Rattle.builder.specs.Calls.{Leaving, leaving}
use Rattle.capi_values.specs.Bridge.{made_into, Telling, telling}
use Rattle.capi_values.proofs.Laws.{out_long, out_short}
use Rattle.capi_builder.specs.Answers.{begun_into}
use Rattle.names_values.specs.Answers.{NamedMade, NamedBegun, unnamed_made, unnamed_begun}
use Rattle.names.specs.Making.{NamedMaking, named_making}
use Rattle.capi_names.specs.Names.{record_into}
use Rattle.capi_names.specs.Told.{in_both, named_told, as_made, named_begun_told}

module _ (out kept : List ℕ) (lent : List (List ℕ)) (done : Telling) where
  pub short_out : length out < 5 → telling 4 out lent ≡ in_both out kept lent done
  unfolding in_both
  short_out h = out_short 5 out lent _ h

  pub short_record : 5 ≤ length out → length kept < 33 → telling 4 out lent ≡ in_both out kept lent done
  unfolding in_both
  short_record h k = out_long 5 out lent _ h (simp (lt-ltb _ _ k))

  pub both_long : {x : Telling} → 5 ≤ length out → 33 ≤ length kept → x ≡ done → x ≡ in_both out kept lent done
  unfolding in_both
  both_long h k p = out_long 5 out lent _ h (simp (le-ltb _ _ k) p)

module _ (out kept : List ℕ) {r : ℕ} {t l k : List ℕ} where
  pub named_told_lem : {m : NamedMade} {w : List ℕ} {x : NamedMaking} → named_making m t w ≡ x
      → (r ≡ (verdict_paper (answer_of m)).number) × (l ≡ made_into (unnamed_made m) out) × (k ≡ record_into m kept)
      → telling r l (t ∷ w ∷ k ∷ []) ≡ named_told x out kept
  named_told_lem e (p, q, s) = rw (p, q, s) (ap (λ (y : NamedMaking). named_told y out kept) e)

  pub named_begun_told_lem : {b : NamedBegun} {x : Leaving NamedBegun} → leaving b t ≡ x
      → (r ≡ (verdict_paper (answer_of b)).number) × (l ≡ begun_into (unnamed_begun b) out) × (k ≡ record_into (as_made b) kept)
      → telling r l (t ∷ k ∷ []) ≡ named_begun_told x out kept
  named_begun_told_lem e (p, q, s) = rw (p, q, s) (ap (λ (y : Leaving NamedBegun). named_begun_told y out kept) e)

-- A begun build's answer is that of the factor that it is passed as.
pub as_made_told : (b : NamedBegun) (out : List ℕ) {m : NamedMade} {r : ℕ} {l : List ℕ} → m ≡ as_made b
    → (r ≡ (verdict_paper (answer_of m)).number) × (l ≡ made_into (unnamed_made m) out)
    → (r ≡ (verdict_paper (answer_of b)).number) × (l ≡ begun_into (unnamed_begun b) out)
unfolding begun_into
as_made_told (Ok b) out q (p, s) = (p ∙ rw q, s ∙ rw q)
as_made_told (Err r) out q (p, s) = (p ∙ rw q, s ∙ rw q)
