-- A name from 33 bytes of a list, and the 33 bytes that it is written as.
use Prim.Native.Nat.{ℕ, ◌+◌, ◌*◌, ◌-◌, ◌<◌, ◌≤◌}
use mathlib.Core.Path.{◌≡◌, sym, ◌∙◌}
use mathlib.Core.List.{List, [], ◌∷◌, ◌++◌}
use native.Mathlib.Omega.{arith}
use borrow.Author.Tests.{lt-ltb, le-ltb}
use lib.ListN.{length, get_or, set, take, drop, length-append}
use lib.Seq.{take-length, drop-cons, append_snoc, set_at}
use Rattle.names_values.specs.declared.Name.{Name}
use Rattle.names_joined.specs.Joined.{at_start}
use Rattle.capi_names.specs.Names.{misfit, name_at, record_of}

module _ (l : List ℕ) (i : ℕ) where
  pub name_none : {m : Name} → length l < i * 33 + 33 → m ≡ misfit → m ≡ name_at l i
  unfolding name_at
  name_none h q = q ∙ simp (lt-ltb _ _ h)

  pub name_from : {out : List ℕ} → i * 33 + 33 ≤ length l → out ≡ take (i * 33 + 32 - i * 33) (drop (i * 33) l)
      → ◌≡◌ {A = Name} (record { bytes = out; length = get_or l (i * 33 + 32) 0 }) (name_at l i)
  unfolding name_at
  name_from h q =
      let z : i * 33 + 32 - i * 33 ≡ 32 = omega arith in
      rw (q, z, le-ltb _ _ h)

-- A copy over the first 32, and a store behind it.
pub name_written : (m : Name) (l : List ℕ) {copied : List ℕ} → length m.bytes ≡ 32 → 33 ≤ length l
    → copied ≡ take (length m.bytes) m.bytes ++ drop (length m.bytes) l → set copied 32 m.length ≡ at_start (record_of m) l
name_written m l e h q =
    let long : length (record_of m) ≡ 33 = length-append m.bytes (m.length ∷ []) ∙ rw e in
    let rest : drop 32 l ≡ get_or l 32 0 ∷ drop 33 l = drop-cons l 32 0 (omega arith) in
    rw (q, take-length m.bytes, e, rest, set_at m.bytes (get_or l 32 0) (drop 33 l) m.length 32 e, long)
    (sym (append_snoc m.bytes m.length (drop 33 l)))
