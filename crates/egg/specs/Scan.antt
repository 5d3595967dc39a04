-- How checks go: they look at one place after the other and stop at the first refusal. Document 01: "Places are the first in element order, then
-- generator order".
use Rattle.std.specs.Prelude.{ℕ, zero, suc, ◌+◌, Ok, Err}
use Rattle.egg.specs.Answers.{Verdict, fine, numbered}

-- The refusal of a check: document 01's number and its three places.
abbrev pub refused_of : ℕ → ℕ → ℕ → ℕ → Verdict
refused_of k a b c = Err (numbered k a b c)

-- The first verdict where it is a refusal, else what comes after it.
abbrev pub and_then : Verdict → Verdict → Verdict
and_then (Ok _) v = v
and_then (Err r) v = Err r

-- The first refusal among f i, f (i + 1), .. , k of them.
unfoldable pub scan : ℕ → (ℕ → Verdict) → ℕ → Verdict
scan zero f i = fine
scan (suc k) f i = and_then (f i) (scan k f (i + 1))
