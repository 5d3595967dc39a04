-- The operator of paths with q places: each bit is the sum of its two neighbours on the same path. What is made of it by q is nothing.
use mathlib.Core.Path.{◌≡◌, refl, sym, ap, ap₂, ◌∙◌, fun_ext}
use mathlib.Core.Bool.{Bool, true, false}
use Prim.Native.Nat.{ℕ, zero, suc, ◌+◌, ◌*◌, ◌-◌, ◌/◌, ◌%◌, ◌<◌}
use native.Mathlib.Nat.{mul-add-mod_self_right, mod-eq_of_lt, mod-lt, div-add-mod', mod_self}
use native.Mathlib.Decide.{ℕ_discrete}
use native.Mathlib.Omega.{arith}
use Rattle.theory_coxeter.proofs.Flipping.{toggle, toggle_self}
use Rattle.theory_coxeter.proofs.Vectors.{Bits, nothing, toggle_comm, toggle_exchange, Additive, made, made_swap}

-- A neighbour across the end of a path does not count.
abbrev gate : {X : Type 0} → Dec X → Bool → Bool
gate (yes x) b = false
gate (no x) b = b

gate_add : {X : Type 0} (d : Dec X) (b c : Bool) → gate d (toggle b c) ≡ toggle (gate d b) (gate d c)
gate_add (yes x) b c = refl
gate_add (no x) b c = refl

gate_yes : {X : Type 0} (d : Dec X) (b : Bool) → X → gate d b ≡ false
gate_yes (yes x) b h = refl
gate_yes (no x) b h = absurd (x h)

gate_no : {X : Type 0} (d : Dec X) (b : Bool) → ¬ X → gate d b ≡ b
gate_no (yes x) b h = absurd (h x)
gate_no (no x) b h = refl

-- The places are cut into paths of q each.
abbrev pub path : ℕ → Bits → Bits
path q v a = toggle (gate (ℕ_discrete (a % q) 0) (v (a - 1))) (gate (ℕ_discrete (suc a % q) 0) (v (suc a)))

pub path_additive : (q : ℕ) → Additive (path q)
path_additive q = record {
  add = λ u v. fun_ext (λ a.
      let d = ℕ_discrete (a % q) 0 in
      let e = ℕ_discrete (suc a % q) 0 in
      ap₂ toggle (gate_add d (u (a - 1)) (v (a - 1))) (gate_add e (u (suc a)) (v (suc a)))
      ∙ toggle_exchange (gate d (u (a - 1))) (gate d (v (a - 1))) (gate e (u (suc a))) (gate e (v (suc a))));
}

module _ (q b : ℕ) where
  inside : (r : ℕ) → r < q → (b * q + r) % q ≡ r
  inside r h = mul-add-mod_self_right b q r ∙ mod-eq_of_lt h

  -- At the left end of a path, within it, and at its right end.
  path_left : (v : Bits) → 1 < q → path q v (b * q) ≡ v (b * q + 1)
  path_left v h =
      let z : b * q % q ≡ 0 = ap (λ x. x % q) (omega arith) ∙ inside 0 (omega arith) in
      let s : suc (b * q) ≡ b * q + 1 = omega arith in
      let o : ¬ (suc (b * q) % q ≡ 0) = λ e. omega (arith, ap (λ x. x % q) s, inside 1 h) in
      ap₂ toggle (gate_yes (ℕ_discrete (b * q % q) 0) (v (b * q - 1)) z) (gate_no (ℕ_discrete (suc (b * q) % q) 0) (v (suc (b * q))) o) ∙ ap v s

  path_within : (v : Bits) (r : ℕ) → suc (suc r) < q → path q v (b * q + suc r) ≡ toggle (v (b * q + r)) (v (b * q + suc (suc r)))
  path_within v r h =
      let i : b * q + suc r - 1 ≡ b * q + r = omega arith in
      let s : suc (b * q + suc r) ≡ b * q + suc (suc r) = omega arith in
      let z : ¬ ((b * q + suc r) % q ≡ 0) = λ e. omega (arith, inside (suc r) (omega arith)) in
      let o : ¬ (suc (b * q + suc r) % q ≡ 0) = λ e. omega (arith, ap (λ x. x % q) s, inside (suc (suc r)) h) in
      ap₂ toggle (gate_no (ℕ_discrete ((b * q + suc r) % q) 0) (v (b * q + suc r - 1)) z ∙ ap v i)
      (gate_no (ℕ_discrete (suc (b * q + suc r) % q) 0) (v (suc (b * q + suc r))) o ∙ ap v s)

  path_right : (v : Bits) (r : ℕ) → suc (suc r) ≡ q → path q v (b * q + suc r) ≡ v (b * q + r)
  path_right v r h =
      let i : b * q + suc r - 1 ≡ b * q + r = omega arith in
      let s : suc (b * q + suc r) ≡ b * q + q = omega arith in
      let z : ¬ ((b * q + suc r) % q ≡ 0) = λ e. omega (arith, inside (suc r) (omega arith)) in
      let o : suc (b * q + suc r) % q ≡ 0 = ap (λ x. x % q) s ∙ mul-add-mod_self_right b q q ∙ mod_self q in
      ap₂ toggle (gate_no (ℕ_discrete ((b * q + suc r) % q) 0) (v (b * q + suc r - 1)) z ∙ ap v i)
      (gate_yes (ℕ_discrete (suc (b * q + suc r) % q) 0) (v (suc (b * q + suc r))) o) ∙ toggle_comm (v (b * q + r)) false

  toggle_off : (x y : Bool) → toggle (toggle x y) x ≡ y
  toggle_off true true = refl
  toggle_off true false = refl
  toggle_off false y = toggle_comm y false

  -- What is made by r stands at the left end as the bit r further on.
  pub made_left : (r : ℕ) (v : Bits) → r < q → made (path q) r v (b * q) ≡ v (b * q + r)
  made_left zero v h = ap v (omega arith)
  made_left (suc zero) v h = path_left v h
  made_left (suc (suc r)) v h =
      ap₂ toggle (made_left (suc r) (path q v) (omega arith) ∙ path_within v r h) (made_left r v (omega arith))
      ∙ toggle_off (v (b * q + r)) (v (b * q + suc (suc r)))

  made_end : (r : ℕ) (v : Bits) → r ≡ q → 0 < r → made (path q) r v (b * q) ≡ false
  made_end zero v h pos = absurd (omega arith)
  made_end (suc zero) v h pos =
      let z : b * q % q ≡ 0 = ap (λ x. x % q) (omega arith) ∙ inside 0 (omega arith) in
      let s : suc (b * q) ≡ b * q + q = omega arith in
      let o : suc (b * q) % q ≡ 0 = ap (λ x. x % q) s ∙ mul-add-mod_self_right b q q ∙ mod_self q in
      ap₂ toggle (gate_yes (ℕ_discrete (b * q % q) 0) (v (b * q - 1)) z) (gate_yes (ℕ_discrete (suc (b * q) % q) 0) (v (suc (b * q))) o)
  made_end (suc (suc r)) v h pos =
      ap₂ toggle (made_left (suc r) (path q v) (omega arith) ∙ path_right v r h) (made_left r v (omega arith)) ∙ toggle_self (v (b * q + r))

pub path_none : (q : ℕ) → 0 < q → (v : Bits) → made (path q) q v ≡ nothing
path_none q pos v = fun_ext (λ a.
    let b = a / q in
    let r = a % q in
    let h : r < q = mod-lt a pos in
    let e : a ≡ b * q + r = sym (div-add-mod' a q) in
    ap (made (path q) q v) e ∙ sym (made_left q b r (made (path q) q v) h) ∙ ap (λ (x : Bits). x (b * q)) (made_swap (path q) (path_additive q) r q v)
    ∙ made_end q b q (made (path q) r v) refl pos)
