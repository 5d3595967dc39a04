-- A table in which the relations hold and each word leads to its element has, at every place that a run visited, the number that the numbering rule asks for.
use Prim.Native.Nat.{ℕ, suc, ◌+◌, ◌<◌, ◌≤◌}
use mathlib.Core.Path.{◌≡◌, refl, sym, ap, ◌∙◌}
use mathlib.Core.Logic.{⊎_elim}
use mathlib.Core.List.{List, [], ◌∷◌, ◌++◌}
use native.Mathlib.Omega.{arith}
use Rattle.theory.specs.Table.{Table}
use Rattle.theory.specs.Words.{empty, letter, walk, Spelled, Parents, Recorded}
use Rattle.theory.specs.Presentation.{Equiv, Holds}
use Rattle.theory.specs.Numbering as rule
use Rattle.theory.specs.Numbering.{Numbered}
use Rattle.theory.specs.Appearance.{First, FirstAppearance}
use Rattle.theory.proofs.BoundedTests.{below_suc}
use Rattle.theory.proofs.Walking.{word_append, walk_append}
use Rattle.theory.proofs.Counting.{new_first}
use Rattle.theory.proofs.Presented.{equiv_walk}
use Rattle.theory.specs.Past.{Past, start, old, new, next_row}

-- Only the words of the elements that are there matter.
pub past_agree : {n : ℕ} {m : ℕ → ℕ → ℕ} {word word' : ℕ → List ℕ} {x g c : ℕ} → Past n m word x g c → ((e : ℕ) → e < c → word' e ≡ word e) → Past n m word' x g c
past_agree start same = start
past_agree (old {x} {g} {c} r p hx hg hr q) same = old r (past_agree p same) hx hg hr (rw (same x hx, same r hr) q)
past_agree (new {x} {g} {c} p hx hg q) same =
    new (past_agree p (λ e h. same e (omega arith))) hx hg (rw (same c (omega arith), same x (omega arith)) q)
past_agree (next_row p hx) same = next_row (past_agree p same) hx

-- What is one letter longer is one word and one letter.
pub snoc_once : (u v : List ℕ) {g h : ℕ} → u ++ g ∷ [] ≡ v ++ h ∷ [] → (u ≡ v) × (g ≡ h)
snoc_once [] [] q = (refl, cc)
snoc_once [] (x ∷ []) q = let z : ◌≡◌ {A = ℕ} 0 1 = cc in absurd (omega arith)
snoc_once [] (x ∷ y ∷ v) q = let z : ◌≡◌ {A = ℕ} 0 1 = cc in absurd (omega arith)
snoc_once (x ∷ []) [] q = let z : ◌≡◌ {A = ℕ} 0 1 = cc in absurd (omega arith)
snoc_once (x ∷ y ∷ u) [] q = let z : ◌≡◌ {A = ℕ} 0 1 = cc in absurd (omega arith)
snoc_once (x ∷ u) (y ∷ v) {g} {h} q =
    let a : x ≡ y = cc in
    let b : u ++ g ∷ [] ≡ v ++ h ∷ [] = cc in
    let r = snoc_once u v b in
    (cc (a, r.0), r.1)

module _ {n N : ℕ} {m step : ℕ → ℕ → ℕ} {word : ℕ → List ℕ} (T : Table n N step) (S : Spelled n N step word) (H : Holds n N m step) where
  -- Where one letter more than the word of x leads.
  longer : {x g : ℕ} → x < N → walk step 0 (word x ++ g ∷ []) ≡ step x g
  longer {x} {g} hx = walk_append step 0 (word x) (g ∷ []) ∙ ap (λ y. step y g) (S.spells hx)

  step_old : {x g r : ℕ} → x < N → g < n → r < N → Equiv n m (word x ++ g ∷ []) (word r) → step x g ≡ r
  step_old hx hg hr q = sym (longer hx) ∙ equiv_walk T H q (word_append (S.over hx) (letter hg empty)) T.origin ∙ S.spells hr

  step_new : {x g c : ℕ} → x < N → c < N → word c ≡ word x ++ g ∷ [] → step x g ≡ c
  step_new hx hc q = sym (longer hx) ∙ ap (walk step 0) (sym q) ∙ S.spells hc

  pub known_past : {x g c : ℕ} → Past n m word x g c → x < c → c ≤ N → rule.Known n step x g c
  known_past start hx hc = rule.start
  known_past (old {x} {g} {c} r p _ hg hr q) hx hc =
      let i : suc g ≡ g + 1 = omega arith in
      let s : step x g < c = rw (step_old (omega arith) hg (omega arith) q) hr in
      rw i at (rule.old (known_past p hx hc) hg s)
  known_past (new {x} {g} {c} p hx' hg q) hx hc =
      let i : suc g ≡ g + 1 = omega arith in
      let j : suc c ≡ c + 1 = omega arith in
      let k : rule.Known n step x (suc g) (suc c) = rule.new (known_past p hx' (omega arith)) hg (step_new (omega arith) (omega arith) q) in
      rw (i, j) at k
  known_past (next_row {x} {c} p _) hx hc =
      let i : suc x ≡ x + 1 = omega arith in
      rw i at (rule.next_row (known_past p (omega arith) hc) (omega arith))

  -- The place where an element was made is the one where it first appears.
  pub first_past : {x g c e : ℕ} → Past n m word x g c → c ≤ N → 0 < e → e < c → (y : ℕ) × (h : ℕ) × First n step e y h × (word e ≡ word y ++ h ∷ [])
  first_past start hc pos l = absurd (omega arith)
  first_past (old r p _ _ _ _) hc pos l = first_past p hc pos l
  first_past {e = e} (new {x} {g} {c} p hx hg q) hc pos l = ⊎_elim
      (λ z. (x, g, rw z (new_first (known_past p hx (omega arith)) hg (step_new (omega arith) (omega arith) q)), rw z q))
      (λ b. first_past p (omega arith) pos b)
      (below_suc (omega arith))
  first_past (next_row p _) hc pos l = first_past p hc pos l

  module _ {parent last : ℕ → ℕ} (Q : Parents n N step parent last) (R : Recorded N parent last word) {x g : ℕ} (P : Past n m word x g N) where
    at_place : (e y h : ℕ) → 0 < e → e < N → First n step e y h → word e ≡ word y ++ h ∷ [] → First n step e (parent e) (last e)
    at_place e y h pos he F q =
        let s = snoc_once (word y) (word (parent e)) (sym q ∙ R.grow pos he) in
        let a : y ≡ parent e = sym (S.spells (omega (arith, F.earlier))) ∙ ap (walk step 0) s.0 ∙ S.spells (omega (arith, Q.earlier pos he)) in
        rw (← a, ← s.1) F

    pub past_appearance : FirstAppearance n N step parent last
    past_appearance = record { first = λ {e} pos he. let (y, h, F, q) = first_past P (omega arith) pos he in at_place e y h pos he F q }

  pub past_numbered : (end : ℕ) → end + 1 ≡ N → Past n m word end n N → Numbered n N step
  past_numbered end q P = record { end = end; last_row = omega arith; known = known_past P (omega arith) (omega arith) }
