-- One law for each way in which a build ends.
use Prim.Native.Nat.{ℕ}
use mathlib.Core.Path.{◌≡◌, refl, ap, ◌∙◌}
use mathlib.Core.List.{List}
use native.Mathlib.Omega.{arith}
use Rattle.egg.specs.declared.Refusal.{Refusal}
use Rattle.egg.specs.Answers.{Counted, Verdict, fine}
use Rattle.std.specs.Prelude.{Ok, Err}
use Rattle.build_checks.specs.Checks.{Checked, checked, check_group}
use Rattle.build_word_cells.specs.Hops.{with_hops}
use Rattle.build_lending.specs.Finish.{Built, built, zeroed, settled_by, finished}

-- A refused build is not a counted one.
pub refused_counted : {r : Refusal} {N : ℕ} {t t' w w' : List ℕ} → built (Err r) t w ≡ built (Ok N) t' w' → ⊥
refused_counted h = let z : ◌≡◌ {A = ℕ} 0 1 = cc in omega arith

-- The same with another list for the work.
abbrev pub built_with : List ℕ → Built → Built
built_with v (built c t w) = built c t v

-- The end of a build goes by the verdict and the table; of the work only the length shows.
pub settled_like : (n N : ℕ) {v v' : Verdict} {t t' : List ℕ} (w w' : List ℕ) → v ≡ v' → t ≡ t'
    → settled_by n N (checked v t w) ≡ built_with (zeroed w) (settled_by n N (checked v' t' w'))
settled_like n N {v} {v'} {t} {t'} w w' p q =
    ap (λ (x : List ℕ). settled_by n N (checked v x w)) q ∙ ap (λ (u : Verdict). settled_by n N (checked u t' w)) p ∙ by v' where
      by : (u : Verdict) → settled_by n N (checked u t' w) ≡ built_with (zeroed w) (settled_by n N (checked u t' w'))
      by (Ok _) = refl
      by (Err r) = refl

module _ {read : Counted} (n : ℕ) (t w : List ℕ) where
  pub finish_refused : {why : Refusal} {t₁ w₁ : List ℕ} → read ≡ Err why → t₁ ≡ zeroed t → w₁ ≡ zeroed w
      → built (Err why) t₁ w₁ ≡ finished read n t w
  unfolding finished
  finish_refused r a b = rw (r, a, b)

  module _ {count : ℕ} {v : Verdict} {t₁ w₁ : List ℕ} (r : read ≡ Ok count) (e : Checked.checked v t₁ w₁ ≡ check_group t w n count) where
    pub finish_unfit : {why : Refusal} {t₂ w₂ : List ℕ} → v ≡ Err why → t₂ ≡ zeroed t₁ → w₂ ≡ zeroed w₁
        → built (Err why) t₂ w₂ ≡ finished read n t w
    unfolding finished
    finish_unfit h a b = rw (r, ← e, h, a, b)

    pub finish_fit : {t₂ w₂ : List ℕ} → v ≡ fine → t₂ ≡ with_hops count t₁ n → w₂ ≡ zeroed w₁ → built (Ok count) t₂ w₂ ≡ finished read n t w
    unfolding finished
    finish_fit h a b = rw (r, ← e, h, a, b)
