-- Laws of the pass that finds the factor of a letter.
use Prim.Native.Nat.{ℕ, suc, ◌+◌, ◌*◌, ◌≤◌, ◌<◌}
use mathlib.Core.Path.{◌≡◌, refl}
use mathlib.Core.Bool.{Bool, true, false}
use mathlib.Core.List.{List}
use native.Mathlib.Omega.{arith}
use borrow.Author.Tests.{leb-true, leb-false}
use lib.Dec.{leb}
use lib.ListN.{length, get_or, take}
use lib.Seq.{take_all}
use Rattle.egg.specs.declared.Factor.{Factor}
use Rattle.egg.specs.Table.{pick}
use Rattle.build_lending.specs.Lending.{no_factor}
use Rattle.group_handles.specs.Handles.{generators_of}
use Rattle.group_walk.specs.Walked.{Owned}
use Rattle.group_walk.proofs.Steps.{taken_next}

-- After the first f factors, which have `generators` together: of these the one at `at` has x, if one has.
pub record Owning (hs : List Factor) (x f generators at before : ℕ) : Type 0 where
  pub letters : generators ≡ generators_of (take f hs)
  pub small : generators ≤ 255 * f
  pub owned : x < generators → Owned hs x at before

pub owning : (hs : List Factor) (x : ℕ) → Owning hs x 0 0 0 0
owning hs x = record { letters = refl; small = omega arith; owned = λ l. absurd (omega arith) }

module _ {hs : List Factor} {x f generators at before : ℕ} (w : Owning hs x f generators at before) (l : f < length hs) {h : Factor}
    (q : h ≡ get_or hs f no_factor) (k : h.generators < 256)
  where
    letters_on : generators + h.generators ≡ generators_of (take (f + 1) hs)
    letters_on =
        let z : f + 1 ≡ suc f = omega arith in
        rw (z, taken_next hs f l, q, w.letters)

    owns_here : generators ≤ x → Owning hs x (f + 1) (generators + h.generators) f generators
    owns_here m = record {
      letters = letters_on;
      small = omega (arith, w.small);
      owned = λ n. record { earlier = w.letters; passed = m; there = l; has = rw (← q) n };
    }

    owns_past : x < generators → Owning hs x (f + 1) (generators + h.generators) at before
    owns_past m = record { letters = letters_on; small = omega (arith, w.small); owned = λ n. w.owned m }

    owns : (b : Bool) → leb generators x ≡ b → Owning hs x (f + 1) (generators + h.generators) (pick b f at) (pick b generators before)
    owns true z = owns_here (leb-true _ _ z)
    owns false z = owns_past (leb-false _ _ z)

    pub owns_on : {at₁ before₁ : ℕ} → at₁ ≡ pick (leb generators x) f at → before₁ ≡ pick (leb generators x) generators before
        → Owning hs x (f + 1) (generators + h.generators) at₁ before₁
    owns_on u v = rw (u, v) (owns (leb generators x) refl)

pub owns_all : {hs : List Factor} {x f generators at before : ℕ} → Owning hs x f generators at before → length hs ≤ f → x < generators_of hs → Owned hs x at before
owns_all {hs} {x} {f} w l m = w.owned (rw (w.letters, take_all f hs l) m)
