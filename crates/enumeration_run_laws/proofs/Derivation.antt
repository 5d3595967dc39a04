-- The table of an accepted enumeration is right; with nothing missing it is derived from the relations, which is demand 3's second premise.
use Prim.Native.Nat.{ℕ, zero, suc, ◌+◌, ◌*◌, ◌<◌, ◌≤◌}
use mathlib.Core.Path.{◌≡◌, refl, sym, ap, ◌∙◌, subst}
use mathlib.Core.List.{List, [], ◌∷◌, ◌++◌}
use native.Mathlib.Decide.{ℕ_discrete}
use native.Mathlib.Nat.{le_refl}
use native.Mathlib.Omega.{arith}
use lib.ListN.{length, get_or}
use Rattle.theory.specs.Words.{trace}
use Rattle.theory.specs.Presentation.{order_of, Derived}
use Rattle.egg.specs.Table.{start_of, parent_of, last_of, step_of}
use Rattle.enumeration_run.specs.Run.{enumerated}
use Rattle.enumeration_run.specs.declared.inner.Ran.{Ran}
use Rattle.enumeration_run.specs.declared.inner.Ran.TheVariants as ran
use Rattle.enumeration_run_laws.specs.Invariant.{RecordsWords, RunOk}
use Rattle.enumeration_run_laws.specs.Recorded.{words, FromOrders, AllKnown}
use Rattle.enumeration_run.specs.Limits.{Limits}
use Rattle.enumeration_run_laws.proofs.Growing.{step_more}
use Rattle.enumeration_run_laws.proofs.Running.{EndsOk, enumerated_ok}

-- The recorded words are the words that go from parent to parent.
traced : {n : ℕ} {word : ℕ → List ℕ} {count : ℕ} {t : List ℕ} → RecordsWords n word count t → (k x : ℕ) → x ≤ k → x < count → trace (parent_of t n) (last_of t n) k x ≡ word x
traced W zero zero h b = sym W.start
traced W zero (suc x) h b = absurd (omega arith)
traced W (suc k) zero h b = sym W.start
traced {n} {word} {count} {t} W (suc k) (suc x) h b =
    let p = W.earlier (suc x) (omega arith) b in
    ap (λ (u : List ℕ). u ++ last_of t n (suc x) ∷ []) (traced W k (parent_of t n (suc x)) (omega arith) (omega arith)) ∙ sym (W.grow (suc x) (omega arith) b)

pub words_traced : {n : ℕ} {word : ℕ → List ℕ} {count : ℕ} {t : List ℕ} → RecordsWords n word count t → (x : ℕ) → x < count → words n t x ≡ word x
words_traced W x h = traced W x x (le_refl x) h

-- What is right at any place of a run, as the table records it.
pub run_sound : {n : ℕ} {o : List ℕ} {room lt lw N : ℕ} {t w : List ℕ} → RunOk n (order_of o) room lt lw N t w → FromOrders n o room lt N t
run_sound {n} {N = N} {t} I = record {
  some = I.some;
  fits = I.fits;
  whole = I.table_length;
  blank = zero_beyond;
  earlier = I.table.words.earlier;
  generator = I.table.words.generator;
  made = I.made.made;
  succ = λ e g r h v. step_more (le_refl N) agree ((I.table.marks (start_of n e + g)).succ e g r h refl v);
  back = λ e g r h v. step_more (le_refl N) agree ((I.table.marks (start_of n e + n + g)).back e g r h refl v);
} where
  agree : (x : ℕ) → x < N → words n t x ≡ I.word x
  agree = words_traced I.table.words

  zero_beyond : (e k : ℕ) → N ≤ e → k < 2 * n + 4 → get_or t (start_of n e + k) 0 ≡ 0
  zero_beyond e k h hk = by (ℕ_discrete (get_or t (start_of n e + k) 0) 0) where
    by : Dec (get_or t (start_of n e + k) 0 ≡ 0) → get_or t (start_of n e + k) 0 ≡ 0
    by (yes z) = z
    by (no d) = let b = (I.table.marks (start_of n e + k)).inside e k hk refl d in absurd (omega arith)

-- A run that is done leaves a table of which every known step follows from the relations.
pub done_sound : {n : ℕ} {o : List ℕ} {room lt lw : ℕ} → Limits n o room lt lw → {N : ℕ} → (enumerated n o room lt lw).answer ≡ ran.Done N → FromOrders n o room lt N (enumerated n o room lt lw).table
done_sound {n} {o} {room} {lt} {lw} L q = run_sound (subst (λ (a : Ran). EndsOk L a (enumerated n o room lt lw).table (enumerated n o room lt lw).work) q (enumerated_ok L))

-- And it has kept the length of the work.
pub work_long : {n : ℕ} {o : List ℕ} {room lt lw : ℕ} → Limits n o room lt lw → {N : ℕ} → (enumerated n o room lt lw).answer ≡ ran.Done N → length (enumerated n o room lt lw).work ≡ lw
work_long {n} {o} {room} {lt} {lw} L q =
    let ok = subst (λ (a : Ran). EndsOk L a (enumerated n o room lt lw).table (enumerated n o room lt lw).work) q (enumerated_ok L) in
    ok.work_length

-- With nothing missing, every step of the table follows from the relations.
pub sound_derived : {n : ℕ} {o : List ℕ} {room lt N : ℕ} {t : List ℕ} → FromOrders n o room lt N t → AllKnown n N t → Derived n N (order_of o) (step_of t n) (words n t)
sound_derived {n} {t = t} R known = record {
  derived = λ {e} {g} he hg. let z = known e g he hg in (R.succ e g (step_of t n e g) hg (omega arith)).leads;
}
