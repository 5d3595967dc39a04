-- What each cell of a table holds after a step has been set both ways: the four cells of the step and of its step back, and all others as they were.
use Prim.Native.Nat.{ℕ, suc, ◌+◌, ◌*◌, ◌<◌, ◌≤◌}
use mathlib.Core.Path.{◌≡◌, ap, ◌∙◌}
use mathlib.Core.Logic.{◌⊎◌, inl, inr, ⊎_elim}
use mathlib.Core.List.{List}
use native.Mathlib.Decide.{ℕ_discrete}
use native.Mathlib.Omega.{arith}
use lib.ListN.{get_or, length}
use Rattle.egg.specs.declared.GroupElementId.{GroupElementId}
use Rattle.egg.specs.declared.GeneratorId.{GeneratorId}
use Rattle.egg.specs.Table.{put_at, start_of, succ_at, pred_at}
use Rattle.egg.proofs.Cells.{cell_inside, put_same, put_other, put_length}
use Rattle.build_reading.specs.Build.{set_step}
use Rattle.enumeration_run_laws.proofs.Marking.{cell_is, set_length}
use Rattle.enumeration_run_laws.proofs.Since.{set_other}

-- The two cells in which one store of a step writes: the step, and the step back in the row to which it leads.
module _ (n : ℕ) (t : List ℕ) (e : GroupElementId) (g : GeneratorId) (r : GroupElementId) (hg : g.0 < n) where
  pub set_succ : start_of n e.0 + g.0 < length t → r.0 < 65535 → get_or (set_step t n e g r) (start_of n e.0 + g.0) 0 ≡ suc r.0
  unfolding set_step
  set_succ h s =
      let q : r.0 + 1 ≡ suc r.0 = omega arith in
      put_other (put_at t (succ_at n e g) (r.0 + 1)) (pred_at n r g) (e.0 + 1) (λ z. omega (arith, cell_is n e.0 r.0 g.0 (n + g.0) (omega arith) (omega arith) (omega arith)))
      ∙ put_same t (succ_at n e g) (r.0 + 1) h (omega arith) ∙ q

  set_pred : start_of n r.0 + (n + g.0) < length t → e.0 < 65535 → get_or (set_step t n e g r) (start_of n r.0 + (n + g.0)) 0 ≡ suc e.0
  unfolding set_step
  set_pred h s =
      let q : e.0 + 1 ≡ suc e.0 = omega arith in
      let i : start_of n r.0 + (n + g.0) ≡ pred_at n r g = omega arith in
      let l : length (put_at t (succ_at n e g) (r.0 + 1)) ≡ length t = put_length t (succ_at n e g) (r.0 + 1) in
      rw i (put_same (put_at t (succ_at n e g) (r.0 + 1)) (pred_at n r g) (e.0 + 1) (omega arith) (omega arith) ∙ q)

-- The cells of a table in which the step from e by g to r has been set both ways.
pub record Joined (n : ℕ) (t t' : List ℕ) (e g r : ℕ) : Type 0 where
  pub from_succ : get_or t' (start_of n e + g) 0 ≡ suc r
  pub from_pred : get_or t' (start_of n e + (n + g)) 0 ≡ suc r
  pub to_succ : get_or t' (start_of n r + g) 0 ≡ suc e
  pub to_pred : get_or t' (start_of n r + (n + g)) 0 ≡ suc e
  pub other : (x k : ℕ) → k < 2 * n + 4 → ((x ≡ e) ⊎ (x ≡ r) → (k ≡ g) ⊎ (k ≡ n + g) → ⊥) → get_or t' (start_of n x + k) 0 ≡ get_or t (start_of n x + k) 0
  pub size : length t' ≡ length t

module _ {n count : ℕ} (t : List ℕ) (e : GroupElementId) (g : GeneratorId) (r : GroupElementId) (hg : g.0 < n) (he : e.0 < count) (hr : r.0 < count)
    (small : count ≤ 65535) (fits : count * (2 * n + 4) ≤ length t) where
  abbrev once : List ℕ
  once = set_step t n e g r

  once_length : length once ≡ length t
  once_length = set_length t n e g r

  within : (x k : ℕ) → x < count → k < 2 * n + 4 → start_of n x + k < length t
  within x k hx hk = omega (arith, cell_inside n hk hx)

  within_once : (x k : ℕ) → x < count → k < 2 * n + 4 → start_of n x + k < length once
  within_once x k hx hk = rw once_length (within x k hx hk)

  pub joined : Joined n t (set_step once n r g e) e.0 g.0 r.0
  joined = record {
    from_succ = from (ℕ_discrete e.0 r.0);
    from_pred = pred_again;
    to_succ = succ_again;
    to_pred = to (ℕ_discrete r.0 e.0);
    other = λ x k hk d.
        set_other n once r g e hg x k hk (λ p q. d (inr p) (inl q)) (λ p q. d (inl p) (inr q))
        ∙ set_other n t e g r hg x k hk (λ p q. d (inl p) (inl q)) (λ p q. d (inr p) (inr q));
    size = set_length once n r g e ∙ once_length;
  } where
    succ_again : get_or (set_step once n r g e) (start_of n r.0 + g.0) 0 ≡ suc e.0
    succ_again = set_succ n once r g e hg (within_once r.0 g.0 hr (omega arith)) (omega arith)

    pred_again : get_or (set_step once n r g e) (start_of n e.0 + (n + g.0)) 0 ≡ suc r.0
    pred_again = set_pred n once r g e hg (within_once e.0 (n + g.0) he (omega arith)) (omega arith)

    from : Dec (e.0 ≡ r.0) → get_or (set_step once n r g e) (start_of n e.0 + g.0) 0 ≡ suc r.0
    from (yes q) = ap (λ (x : ℕ). get_or (set_step once n r g e) (start_of n x + g.0) 0) q ∙ succ_again ∙ ap suc q
    from (no d) =
        set_other n once r g e hg e.0 g.0 (omega arith) (λ p _. d p) (λ p q. omega arith)
        ∙ set_succ n t e g r hg (within e.0 g.0 he (omega arith)) (omega arith)

    to : Dec (r.0 ≡ e.0) → get_or (set_step once n r g e) (start_of n r.0 + (n + g.0)) 0 ≡ suc e.0
    to (yes q) = ap (λ (x : ℕ). get_or (set_step once n r g e) (start_of n x + (n + g.0)) 0) q ∙ pred_again ∙ ap suc q
    to (no d) =
        set_other n once r g e hg r.0 (n + g.0) (omega arith) (λ p q. omega arith) (λ p _. d p)
        ∙ set_pred n t e g r hg (within r.0 (n + g.0) hr (omega arith)) (omega arith)

-- The place of x and h is that of the step, that of its step back, or another.
pub data WhichPlace (e g r x h : ℕ) : Type 0 where
  here : x ≡ e → h ≡ g → WhichPlace e g r x h
  there : x ≡ r → h ≡ g → WhichPlace e g r x h
  elsewhere : ((x ≡ e) ⊎ (x ≡ r) → h ≡ g → ⊥) → WhichPlace e g r x h

pub side : (e g r x h : ℕ) → WhichPlace e g r x h
side e g r x h = by (ℕ_discrete h g) (ℕ_discrete x e) (ℕ_discrete x r) where
  by : Dec (h ≡ g) → Dec (x ≡ e) → Dec (x ≡ r) → WhichPlace e g r x h
  by (no d) a b = elsewhere (λ _ q. d q)
  by (yes q) (yes p) b = here p q
  by (yes q) (no a) (yes p) = there p q
  by (yes q) (no a) (no b) = elsewhere (λ w _. ⊎_elim a b w)

-- Any other step is as it was, and so is its step back.
module _ {n : ℕ} {t t' : List ℕ} {e g r : ℕ} (J : Joined n t t' e g r) (hg : g < n) where
  pub step_other : (x h : ℕ) → h < n → ((x ≡ e) ⊎ (x ≡ r) → h ≡ g → ⊥) → get_or t' (start_of n x + h) 0 ≡ get_or t (start_of n x + h) 0
  step_other x h hh d = J.other x h (omega arith) (λ w v. ⊎_elim (d w) (λ q. omega arith) v)

  pub back_other : (x h : ℕ) → h < n → ((x ≡ e) ⊎ (x ≡ r) → h ≡ g → ⊥) → get_or t' (start_of n x + (n + h)) 0 ≡ get_or t (start_of n x + (n + h)) 0
  back_other x h hh d = J.other x (n + h) (omega arith) (λ w v. ⊎_elim (λ q. omega arith) (λ q. d w (omega arith)) v)
