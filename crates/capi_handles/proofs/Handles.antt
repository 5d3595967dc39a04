-- A handle from five numbers of a list.
use Prim.Native.Nat.{ℕ, ◌+◌, ◌*◌, ◌<◌, ◌≤◌}
use mathlib.Core.Path.{◌≡◌, ◌∙◌}
use mathlib.Core.List.{List}
use lib.ListN.{length, get_or}
use borrow.Author.Tests.{lt-ltb, le-ltb}
use Rattle.egg.specs.declared.Factor.{Factor}
use Rattle.build_lending.specs.Lending.{no_factor}
use Rattle.capi_values.specs.Bridge.{handle}
use Rattle.capi_handles.specs.Product.{byte_of, handle_at}

pub handle_none : (l : List ℕ) (at : ℕ) {f : Factor} → length l < at + 5 → f ≡ no_factor → f ≡ handle_at l at
unfolding handle_at
handle_none l at h q = q ∙ simp (lt-ltb _ _ h)

pub handle_from : (l : List ℕ) (at : ℕ) {s k : ℕ} {f : Factor} → at + 5 ≤ length l → s ≡ get_or l at 0 + get_or l (at + 1) 0 * 4294967296 → k ≡ byte_of (get_or l (at + 3) 0)
    → f ≡ handle s (get_or l (at + 2) 0) k (get_or l (at + 4) 0) → f ≡ handle_at l at
unfolding handle_at
handle_from l at h p q y = y ∙ rw (p, q, le-ltb _ _ h)
