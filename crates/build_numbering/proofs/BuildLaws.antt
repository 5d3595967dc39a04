-- The build by numbering: a zeroed table and fresh maps, numbered into, finished and settled.
use Prim.Native.Nat.{ℕ}
use mathlib.Core.Path.{◌≡◌, ap, ◌∙◌}
use mathlib.Core.List.{List}
use lib.ListN.{replicate}
use Rattle.egg.specs.Answers.{Counted, Reached}
use Rattle.egg.specs.Table.{put_at}
use Rattle.build_lending.specs.Finish.{Built, built, finished}
use Rattle.build_reading.specs.Reading.{placed}
use Rattle.build_numbering.specs.Renumber.{no_number, Mapped, mapped, map_rows, map_all}
use Rattle.build_numbering.specs.Build.{renumbering, kept_after, settled_maps, finished_mapped, renumber_in}

pub renumber_in_lem : (size : ℕ) (w : List ℕ) (source : ℕ → ℕ → Reached) (n room M K x₀ : ℕ) {c made r : Counted}
    {t₀ t t₁ w₁ inn₀ outw₀ inn outw inn₁ outw₁ : List ℕ}
    → t₀ ≡ replicate size 0 → inn₀ ≡ put_at (replicate M no_number) x₀ 0 → outw₀ ≡ put_at (replicate K 0) 0 x₀
    → mapped (placed c t) inn outw ≡ map_rows room source n room 0 1 t₀ inn₀ outw₀
    → built made t₁ w₁ ≡ finished c n t w
    → r ≡ made → inn₁ ≡ kept_after made inn → outw₁ ≡ kept_after made outw
    → renumbering (built r t₁ w₁) inn₁ outw₁ ≡ renumber_in size w source n room M K x₀
unfolding renumber_in
renumber_in_lem size w source n room M K x₀ {c} {made} {r} {t₀} {t} {t₁} {w₁} {inn₀} {outw₀} {inn} {outw} a b d m f p q s =
    let e : mapped (placed c t) inn outw ≡ map_all source n room M K x₀ (replicate size 0) = rw (a, b, d) at m in
    rw (p, q, s)
    (ap (λ (x : Built). settled_maps x inn outw) f ∙ ap (λ (x : Mapped). finished_mapped x n w) e)
