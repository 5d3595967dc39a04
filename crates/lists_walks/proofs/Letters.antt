-- Laws of the letters of a cell, one by one: what a letter leads to, and then the letters above it, all of them lead to.
use Prim.Native.Nat.{ℕ, ◌+◌, ◌-◌, ◌/◌, ◌≤◌, ◌<◌}
use mathlib.Core.Path.{◌≡◌, refl, subst}
use native.Mathlib.Omega.{arith}
use mathlib.Core.List.{List}
use Rattle.factor_word_walks.proofs.Walks.{letters_end, letters_more}
use Rattle.factor_quick_walks.proofs.Numbers.{cell_end, cell_more}
use Rattle.lists_walks.specs.Letters.{Stored, LetterBack, CellBack}

-- What a loop over the letters has come to: from y by what is left of c it is as far as from y₀ by c₀.
pub record Spelling (s : List ℕ) (n count left₀ y₀ c₀ left y c : ℕ) : Type 0 where
  pub stored : Stored count y
  pub leads : (x : ℕ) → CellBack s n count left y c x → CellBack s n count left₀ y₀ c₀ x

module _ {s : List ℕ} {n count : ℕ} where
  pub spelling_start : (left c : ℕ) {y : ℕ} → Stored count y → Spelling s n count left y c left y c
  spelling_start left c S = record { stored = S; leads = λ x C. C }

  module _ {left₀ y₀ c₀ left y c : ℕ} (S : Spelling s n count left₀ y₀ c₀ left y c) where
    pub spelling_on : 0 < left → {rest : ℕ} → left ≡ rest + 1 → {x : ℕ} → LetterBack s n count y c x → Spelling s n count left₀ y₀ c₀ rest x (c / 8)
    spelling_on h {rest} q {x} L = subst (λ (k : ℕ). Spelling s n count left₀ y₀ c₀ k x (c / 8)) (omega (arith, q)) (record {
      stored = L.stored;
      leads = λ x C. S.leads x (record {
        stored = C.stored;
        within = cell_more n count c h L.letter C.within;
        back = letters_more s n count (y - 1) c h L.back refl C.back;
      });
    })

    pub spelling_end : left ≤ 0 → c < count → CellBack s n count left₀ y₀ c₀ y
    spelling_end h l = S.leads y (record { stored = S.stored; within = cell_end n count c h l; back = letters_end s n count (y - 1) c h })
