-- `StepsAgree` stays true of a table in which a step is set both ways, and of one that gets a new element and the step to it.
use Prim.Native.Nat.{ℕ, suc, ◌+◌, ◌*◌, ◌<◌, ◌≤◌}
use mathlib.Core.Path.{◌≡◌, sym, ap, ◌∙◌}
use mathlib.Core.List.{List}
use native.Mathlib.Omega.{arith}
use lib.ListN.{get_or, length}
use Rattle.egg.specs.declared.GroupElementId.{GroupElementId}
use Rattle.egg.specs.declared.GeneratorId.{GeneratorId}
use Rattle.egg.specs.Table.{start_of}
use Rattle.build_reading.specs.Build.{set_step, set_word}
use Rattle.enumeration_run_laws.specs.Invariant.{StepKnown}
use Rattle.enumeration_run_laws.proofs.Knowing.{set_keeps}
use Rattle.enumeration_run_laws.proofs.Since.{word_step}
use Rattle.enumeration_run_laws.proofs.Growing.{word_length}
use Rattle.enumeration_loop_laws.specs.Rings.{Looped, StepsAgree}
use Rattle.enumeration_loop_laws.proofs.Stepping.{stepped}
use Rattle.enumeration_loop_laws.proofs.Joining.{Joined, joined, WhichPlace, here, there, elsewhere, side, step_other, back_other}

module _ {n count N : ℕ} {o : List ℕ} {step : ℕ → ℕ → ℕ} {t : List ℕ} (T : StepsAgree n count step t) (L : Looped n N o step) (known : count ≤ N)
    (e : GroupElementId) (g : GeneratorId) (r : GroupElementId) (he : e.0 < count) (hg : g.0 < n) (hr : r.0 < count) (leads : step e.0 g.0 ≡ r.0)
    (fits : count * (2 * n + 4) ≤ length t) (limit : count ≤ 65535) where
  abbrev once : List ℕ
  once = set_step t n e g r

  abbrev both_ways : List ℕ
  both_ways = set_step once n r g e

  leads_back : step r.0 g.0 ≡ e.0
  leads_back = ap (λ (x : ℕ). step x g.0) (sym leads) ∙ L.twice (omega arith) hg

  cells : Joined n t both_ways e.0 g.0 r.0
  cells = joined t e g r hg he hr limit fits

  abbrev Place : ℕ → ℕ → Type 0
  Place x h = WhichPlace e.0 g.0 r.0 x h

  module _ {x h : ℕ} (hh : h < n) (k : StepKnown n both_ways x h) where
    succ_at_lem : Place x h → get_or both_ways (start_of n x + h) 0 ≡ suc (step x h)
    succ_at_lem (here p q) = rw (p, q, leads) cells.from_succ
    succ_at_lem (there p q) = rw (p, q, leads_back) cells.to_succ
    succ_at_lem (elsewhere d) = let s = step_other cells hg x h hh d in s ∙ T.succ x h hh (rw s at k)

    below_at_lem : Place x h → (x < count) × (step x h < count)
    below_at_lem (here p q) = rw (p, q, leads) (he, hr)
    below_at_lem (there p q) = rw (p, q, leads_back) (hr, he)
    below_at_lem (elsewhere d) = let s = step_other cells hg x h hh d in (T.from_below x h hh (rw s at k), T.to_below x h hh (rw s at k))

    both_at : Place x h → StepKnown n both_ways (step x h) h
    both_at (here p q) = rw (p, q, leads, cells.to_succ) (λ z. omega arith)
    both_at (there p q) = rw (p, q, leads_back, cells.from_succ) (λ z. omega arith)
    both_at (elsewhere d) = let s = step_other cells hg x h hh d in set_keeps n once r g e (start_of n (step x h) + h) (set_keeps n t e g r (start_of n (step x h) + h) (T.both x h hh (rw s at k)))

  back_at : {x h : ℕ} → h < n → Place x h → get_or both_ways (start_of n x + (n + h)) 0 ≡ get_or both_ways (start_of n x + h) 0
  back_at hh (here p q) = rw (p, q) (cells.from_pred ∙ sym cells.from_succ)
  back_at hh (there p q) = rw (p, q) (cells.to_pred ∙ sym cells.to_succ)
  back_at {x} {h} hh (elsewhere d) = back_other cells hg x h hh d ∙ T.back x h hh ∙ sym (step_other cells hg x h hh d)

  at : (x h : ℕ) → Place x h
  at x h = side e.0 g.0 r.0 x h

  pub told_both : StepsAgree n count step (set_step (set_step t n e g r) n r g e)
  told_both = record {
    succ = λ x h hh k. succ_at_lem hh k (at x h);
    from_below = λ x h hh k. (below_at_lem hh k (at x h)).0;
    to_below = λ x h hh k. (below_at_lem hh k (at x h)).1;
    both = λ x h hh k. both_at hh k (at x h);
    back = λ x h hh. back_at hh (at x h);
  }

-- A new element's word is no step, and the element counts.
told_word : {n count : ℕ} {step : ℕ → ℕ → ℕ} {t : List ℕ} → StepsAgree n count step t → (e : GroupElementId) (g : GeneratorId) (len : ℕ)
    → StepsAgree n (count + 1) step (set_word t n (record { 0 = count }) e g len)
told_word {n} {count} {step} {t} T e g len = record {
  succ = λ x h hh k. let s = same x h hh in s ∙ T.succ x h hh (rw s at k);
  from_below = λ x h hh k. let s = same x h hh in omega (arith, T.from_below x h hh (rw s at k));
  to_below = λ x h hh k. let s = same x h hh in omega (arith, T.to_below x h hh (rw s at k));
  both = λ x h hh k. let s = same x h hh in rw (same (step x h) h hh) (T.both x h hh (rw s at k));
  back = λ x h hh. word_step n t count e g len x (n + h) (omega arith) ∙ T.back x h hh ∙ sym (same x h hh);
} where
  same : (x h : ℕ) → h < n → get_or (set_word t n (record { 0 = count }) e g len) (start_of n x + h) 0 ≡ get_or t (start_of n x + h) 0
  same x h hh = word_step n t count e g len x h (omega arith)

pub told_new : {n count N : ℕ} {o : List ℕ} {step : ℕ → ℕ → ℕ} {t : List ℕ} → StepsAgree n count step t → Looped n N o step → count < N → (e : GroupElementId) (g : GeneratorId)
    → e.0 < count → g.0 < n → step e.0 g.0 ≡ count → (len : ℕ) → (count + 1) * (2 * n + 4) ≤ length t → count < 65535
    → StepsAgree n (count + 1) step (stepped t n count e g len)
told_new {n} {count} {t = t} T L known e g he hg leads len fits limit =
    told_both (told_word T e g len) L (omega arith) e g (record { 0 = count }) (omega arith) hg (omega arith) leads (rw (word_length t n count e g len) fits) (omega arith)
