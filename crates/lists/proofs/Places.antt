-- Laws of the single calls at all places, for the loops that run them.
-- Assumes nothing.
use Prim.Native.Nat.{ℕ, zero, suc, ◌+◌, ◌-◌, ◌≤◌, ◌<◌}
use mathlib.Core.Path.{◌≡◌, refl, sym, ap, ◌∙◌, subst}
use mathlib.Core.List.{List, [], ◌∷◌, ◌++◌}
use native.Mathlib.Nat.{sub-zero}
use native.Mathlib.Omega.{arith}
use borrow.Author.Count.{below_more}
use lib.ListN.{length, take, set, get_or}
use lib.IntN.{ℤ}
use lib.Seq.{take-suc-set, set-get_or, get_or-set_same, get_or-set_other}
use Rattle.egg.specs.declared.Refusal.{Refusal}
use Rattle.egg.specs.declared.GroupElementId.{GroupElementId}
use Rattle.egg.specs.Answers.{Reached}
use Rattle.std.specs.Prelude.{Result, Ok, Err}
use Rattle.egg.proofs.Scans.{left_suc}
use Rattle.lists.specs.declared.ListRefusal.{ListRefusal}
use Rattle.lists.specs.Answers.{fine}
use Rattle.lists.specs.declared.ListRefusal.TheVariants.{RefusedAt}
use Rattle.lists.specs.Lists.{placed, first_refused, number_of, numbers}
use Rattle.lists.specs.Worked.{Worked, AllRight}

-- One more place at the end.
pub numbers_next : (i : ℕ) (single : ℕ → Reached) (j m : ℕ) → m ≡ j + i → numbers (suc i) single j ≡ numbers i single j ++ (number_of (single m) ∷ [])
unfolding numbers
numbers_next zero single j m e = let q : j ≡ m = omega arith in ap (λ (x : ℕ). number_of (single x) ∷ []) q
numbers_next (suc i) single j m e = ap (λ (l : List ℕ). number_of (single j) ∷ l) (numbers_next i single (j + 1) m (omega arith))

pub numbers_long : (k : ℕ) (single : ℕ → Reached) (i : ℕ) → length (numbers k single i) ≡ k
unfolding numbers
numbers_long zero single i = refl
numbers_long (suc k) single i = ap suc (numbers_long k single (i + 1))

pub numbers_at : (k : ℕ) (single : ℕ → Reached) (i j m : ℕ) → j < k → m ≡ i + j → get_or (numbers k single i) j 0 ≡ number_of (single m)
unfolding numbers
numbers_at zero single i j m h e = absurd (omega arith)
numbers_at (suc k) single i zero m h e = let q : i ≡ m = omega arith in ap (λ (x : ℕ). number_of (single x)) q
numbers_at (suc k) single i (suc j) m h e = numbers_at k single (i + 1) j m (omega arith) (omega arith)

pub refused_right : {why : ListRefusal} → Err why ≡ fine → ⊥
refused_right h = let q : ◌≡◌ {A = ℕ} 0 1 = cc in omega arith

-- What the single call's answer at a place says of the call.
abbrev Placed : Type 0
Placed = Result GroupElementId ListRefusal

never : {why : ListRefusal} {e : GroupElementId} → ◌≡◌ {A = Placed} (Err why) (Ok e) → ⊥
never h = let z : ◌≡◌ {A = ℕ} 0 1 = cc in omega arith

pub reached_at : (said : Reached) (place : ℕ) {e : GroupElementId} → placed said place ≡ Ok e → said ≡ Ok e
reached_at (Ok x) place {e} h = let z : x ≡ e = cc in ap (λ (y : GroupElementId). Ok y) z
reached_at (Err r) place h = absurd (never h)

pub refused_at : (said : Reached) (place : ℕ) {why : ListRefusal} → placed said place ≡ Err why
    → (r : Refusal) × (said ≡ Err r) × (RefusedAt (record { place = place; why = r }) ≡ why)
refused_at (Ok x) place h = absurd (never (sym h))
refused_at (Err r) place h = (r, refl, cc)

-- The invariant of a loop over k places that has come to i.
pub record Working (k : ℕ) (single : ℕ → Reached) (i : ℕ) (results : List ℕ) : Type 0 where
  pub within : i ≤ k
  pub rest : first_refused (k - i) single i ≡ first_refused k single 0
  pub filled : take i results ≡ numbers i single 0

pub working : {k : ℕ} {single : ℕ → Reached} {results : List ℕ} → Working k single 0 results
unfolding numbers
working = record { within = omega arith; rest = rw sub-zero; filled = refl }

module _ {k : ℕ} {single : ℕ → Reached} {i : ℕ} {results : List ℕ} (w : Working k single i results) where
  -- A right place's number is stored.
  pub stores : {said : Reached} {at : Result GroupElementId ListRefusal} {e : GroupElementId} → i < k → i < length results → said ≡ single i → at ≡ placed said i → at ≡ Ok e
      → Working k single (i + 1) (set results i e.0)
  unfolding first_refused
  stores {said} {at} {e} h l q p told =
      let here : single i ≡ Ok e = sym q ∙ reached_at said i (sym p ∙ told) in
      let next : first_refused (k - i) single i ≡ first_refused (k - (i + 1)) single (i + 1) = rw (left_suc h, here) in
      let more : i + 1 ≡ suc i = omega arith in
      record {
        within = omega arith;
        rest = sym next ∙ w.rest;
        filled = ap (λ (j : ℕ). take j (set results i e.0)) more ∙ take-suc-set results i e.0 l ∙ rw (w.filled, more, numbers_next i single 0 i (omega arith), here);
      }

  -- A refused place ends it.
  pub refuses : {said : Reached} {at : Result GroupElementId ListRefusal} {why : ListRefusal} {left : List ℕ} → i < k → said ≡ single i → at ≡ placed said i → at ≡ Err why
      → Worked k single (Err why) left
  unfolding first_refused
  refuses {said} {at} {why} h q p stop =
      let R = refused_at said i (sym p ∙ stop) in
      let here : single i ≡ Err R.0 = sym q ∙ R.1 in
      let whole : first_refused (k - i) single i ≡ Err (RefusedAt (record { place = i; why = R.0 })) = rw (left_suc h, here) in
      record { told = ap (λ (y : ListRefusal). Err y) (sym R.2) ∙ sym whole ∙ w.rest; filled = λ good. absurd (refused_right good) }

  -- All places are right.
  pub worked : k ≤ i → Worked k single fine results
  unfolding first_refused
  worked h =
      let all : i ≡ k = omega (arith, w.within) in
      let none : k - i ≡ 0 = omega arith in
      record { told = sym (rw none) ∙ w.rest; filled = λ good. ap (λ (j : ℕ). take j results) (sym all) ∙ w.filled ∙ ap (λ (j : ℕ). numbers j single 0) all }

-- Where the first places are known to be right, whichever way their numbers were found, that is what a loop over the places comes to there.
module _ {k at : ℕ} {single : ℕ → Reached} {results : List ℕ} (a : AllRight at single results) (within : at ≤ k) (long : at ≤ length results) where
  come : (i : ℕ) → i ≤ at → Working k single i results
  come zero h = working
  come (suc i) h =
      let more : i + 1 ≡ suc i = omega arith in
      let stored : Working k single (i + 1) (set results i (get_or results i 0)) = stores (come i (omega arith)) (omega arith) (omega arith) refl refl (ap (λ (x : Reached). placed x i) (a.each i (omega arith))) in
      subst (λ (j : ℕ). Working k single j results) more (subst (λ (l : List ℕ). Working k single (i + 1) l) (set-get_or results i 0) stored)

  pub come_so_far : Working k single at results
  come_so_far = come at (omega arith)

pub all_worked : {k : ℕ} {single : ℕ → Reached} {results : List ℕ} → AllRight k single results → k ≤ length results → Worked k single fine results
all_worked a long = worked (come_so_far a (omega arith) long) (omega arith)

-- The same place by place, for a loop that asks each by a quick way.
pub none_yet : {single : ℕ → Reached} {results : List ℕ} → AllRight 0 single results
none_yet = record { each = λ i u. absurd (omega arith) }

pub all_places : {k at : ℕ} {single : ℕ → Reached} {results : List ℕ} → AllRight at single results → k ≤ at → AllRight k single results
all_places w h = record { each = λ i u. w.each i (omega arith) }

pub right_here : {single : ℕ → Reached} {i x : ℕ} {results : List ℕ} → AllRight i single results → i < length results → single i ≡ Ok (record { 0 = x })
    → AllRight (i + 1) single (set results i x)
right_here {single} {i} {x} {results} w h q =
    let put : (y z : ℕ) → y ≡ z → ◌≡◌ {A = Reached} (Ok (record { 0 = y })) (Ok (record { 0 = z })) = λ y z e. ap (λ (v : ℕ). Ok (record { 0 = v })) e in
    record {
      each = below_more (λ (j : ℕ). single j ≡ Ok (record { 0 = get_or (set results i x) j 0 })) i
          (λ j u. w.each j u ∙ put _ _ (sym (get_or-set_other results i j x 0 (λ e. omega arith))))
          (q ∙ put _ _ (sym (get_or-set_same results i x 0 h)));
    }

-- The single call, where its exponent was read from a list.
pub exponent_there : (single : ℤ → Reached) {said : Reached} {k e : ℤ} → said ≡ single k → k ≡ e → said ≡ single e
exponent_there single p q = p ∙ ap single q
