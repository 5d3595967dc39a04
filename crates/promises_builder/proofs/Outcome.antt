-- What `build` comes to in its stretches: the reading is stopped, an element is not reached where there are no generators, 8, or else all steps are there and
-- all elements reached, and the checks decide.
use Prim.Native.Nat.{ℕ, ◌+◌, ◌*◌, ◌≤◌, ◌<◌}
use mathlib.Core.Path.{◌≡◌, refl, sym, ap, ◌∙◌, subst}
use mathlib.Core.Logic.{⊎_elim}
use mathlib.Core.List.{List}
use native.Mathlib.Nat.{eq-zero-or-pos}
use native.Mathlib.Decide.{ℕ_discrete, dec_lt}
use native.Mathlib.Omega.{arith}
use borrow.Author.Tests.{eq-eqb, ne_eqb, le-leb, lt-leb}
use lib.ListN.{length, replicate, length-replicate}
use Rattle.egg.specs.declared.Refusal.{Refusal}
use Rattle.egg.specs.Answers.{Verdict, fine}
use Rattle.std.specs.Prelude.{Ok, Err}
use Rattle.egg.specs.Answers.{numbered}
use Rattle.build_reading.specs.Reading.{Placed, placed, read_all}
use Rattle.build_checks.specs.Checks.{check8, check_table, check_group}
use Rattle.build_lending.specs.Finish.{Built, built, zeroed, settled_by, finished, finished_placed}
use Rattle.builder_rereading.specs.Own.{stored_at, own_all, all_reached, reaches_all, own_in}
use Rattle.build_reading_laws.specs.Read.{Read, Readable, ReadingRefused}
use Rattle.build_reading_laws.proofs.Readings.{accepted_read, refused_read, read_readable}
use Rattle.promises_builder.specs.Own.{own_number, own_refusal}
use Rattle.promises_builder.specs.Refusals.{BuilderLacks}
use Rattle.promises_builder.proofs.AnyWork.{own_in_zeros}
use Rattle.promises_builder.proofs.EndAlike.{EndAlike}
use Rattle.promises_builder.proofs.Missing.{TableBeside, OwnRefusal, own_beside}
use Rattle.promises_builder.proofs.Lacking.{ReadOwn, lacks, unreached, never_fine}

pub data Comes (own : ℕ → ℕ → ℕ) (n room size N : ℕ) (w : List ℕ) (B : Built) : Type 0 where
  stopped : (r : Refusal) → ReadingRefused (own_number N own) n room r → B ≡ built (Err (own_refusal N r)) (replicate size 0) (replicate (length w) 0)
      → Comes own n room size N w B
  nowhere : n ≡ 0 → 1 < N → B ≡ built (Err (numbered 17 0 0 0)) (replicate size 0) (replicate (length w) 0) → Comes own n room size N w B
  lacking : (c : ℕ) (r : Refusal) → Readable (own_number N own) n room c → BuilderLacks own n N c r → B ≡ built (Err r) (replicate size 0) (replicate (length w) 0)
      → Comes own n room size N w B
  whole : (t : List ℕ) → own_all own n room N (replicate size 0) ≡ placed (Ok N) t → ReadOwn own n room size N N t → check8 t n N ≡ fine → B ≡ settled_by n N (check_group t (zeroed w) n N)
      → Comes own n room size N w B

module _ (own : ℕ → ℕ → ℕ) (n room size N : ℕ) (w : List ℕ) where
  -- A refusal leaves zeros.
  zeros_left : (r : Refusal) (t : List ℕ) → length t ≡ size
      → built (Err r) (zeroed t) (zeroed (zeroed w)) ≡ built (Err r) (replicate size 0) (replicate (length w) 0)
  zeros_left r t q = rw (q, length-replicate {A = ℕ} (length w) 0)

  refused_8 : (t : List ℕ) {r : Refusal} → check8 t n N ≡ Err r
      → settled_by n N (check_group t (zeroed w) n N) ≡ built (Err r) (zeroed t) (zeroed (zeroed w))
  unfolding check_group check_table
  refused_8 t q = rw q

  -- What the count and the generators decide.
  module _ (c : ℕ) (t : List ℕ) where
    abbrev end : Built
    end = finished_placed (reaches_all n N (placed (Ok c) t)) n (zeroed w)

    end_reached : N ≤ c → end ≡ finished (Ok c) n t (zeroed w)
    unfolding all_reached
    end_reached h = rw (le-leb N c h)

    end_nowhere : c < N → n ≡ 0 → end ≡ built (Err (numbered 17 0 0 0)) (zeroed t) (zeroed (zeroed w))
    unfolding finished all_reached
    end_nowhere h z = rw (lt-leb N c h, eq-eqb n 0 z)

    end_unreached : c < N → (n ≡ 0 → ⊥) → {r : Refusal} → check8 t n N ≡ Err r
        → end ≡ built (Err r) (zeroed t) (zeroed (zeroed w))
    unfolding finished all_reached
    end_unreached h z q = rw (lt-leb N c h, ne_eqb n 0 z, q)

  all_read : (t : List ℕ) → own_all own n room N (replicate size 0) ≡ placed (Ok N) t → ReadOwn own n room size N N t → Comes own n room size N w (finished (Ok N) n t (zeroed w))
  unfolding finished
  all_read t all O = by (check8 t n N) refl where
    by : (v : Verdict) → check8 t n N ≡ v → Comes own n room size N w (settled_by n N (check_group t (zeroed w) n N))
    by (Ok _) q = whole t all O q refl
    by (Err r) q = lacking N r (read_readable O.read) (lacks O refl q) (refused_8 t q ∙ zeros_left r t O.beside.whole)

  some_read : (c : ℕ) (t : List ℕ) → ReadOwn own n room size N c t → c < N
      → Comes own n room size N w (finished_placed (reaches_all n N (placed (Ok c) t)) n (zeroed w))
  some_read c t O less = none_or_some (ℕ_discrete n 0) where
    by : (v : Verdict) → (n ≡ 0 → ⊥) → 0 < n → check8 t n N ≡ v → Comes own n room size N w (end c t)
    by (Ok _) z pos q = absurd (never_fine O pos less q)
    by (Err r) z pos q =
        lacking c r (read_readable O.read) (unreached O pos less q) (end_unreached c t less z q ∙ zeros_left r t O.beside.whole)

    none_or_some : Dec (n ≡ 0) → Comes own n room size N w (end c t)
    none_or_some (yes z) = nowhere z (omega (arith, O.some)) (end_nowhere c t less z ∙ zeros_left (numbered 17 0 0 0) t O.beside.whole)
    none_or_some (no z) = by (check8 t n N) z (⊎_elim (λ q. absurd (z q)) (λ p. p) (eq-zero-or-pos n)) refl

module _ (own : ℕ → ℕ → ℕ) (n room size N : ℕ) (w : List ℕ) (least : n ≤ 8) (lo : 1 ≤ N) (hi : N ≤ room) (limit : room ≤ 65535) (fits : room * (2 * n + 4) ≤ size) where
  end_refused : (s : Refusal) (t : List ℕ) → finished (Err s) n t (zeroed w) ≡ built (Err s) (zeroed t) (zeroed (zeroed w))
  unfolding finished
  end_refused s t = refl

  came : (p p' : Placed) → own_all own n room N (replicate size 0) ≡ p → read_all (own_number N own) n room (replicate size 0) ≡ p' → EndAlike 1 N (OwnRefusal N size) (TableBeside own n size) p p'
      → Comes own n room size N w (finished_placed (reaches_all n N p) n (zeroed w))
  came (placed (Ok c) t) (placed (Ok c') t') all q a = by (dec_lt c N) where
    O : ReadOwn own n room size N c t
    O = record {
      numbers = t';
      read = subst (λ (k : ℕ). Read (own_number N own) n room size k t') a.0 (accepted_read (own_number N own) n room size least (omega arith) limit fits q);
      beside = a.3;
      some = a.1;
      most = a.2;
    }

    by : Dec (c < N) → Comes own n room size N w (finished_placed (reaches_all n N (placed (Ok c) t)) n (zeroed w))
    by (yes less) = some_read own n room size N w c t O less
    by (no more) =
        let e : c ≡ N = omega (arith, a.2) in
        rw (end_reached own n room size N w c t (omega arith))
        (subst (λ (k : ℕ). Comes own n room size N w (finished (Ok k) n t (zeroed w))) (sym e)
        (all_read own n room size N w t (all ∙ ap (λ (k : ℕ). placed (Ok k) t) e) (subst (λ (k : ℕ). ReadOwn own n room size N k t) e O)))
  came (placed (Ok c) t) (placed (Err r) t') all q a = absurd a
  came (placed (Err s) t) (placed (Ok c) t') all q a = absurd a
  came (placed (Err s) t) (placed (Err r) t') all q a =
      stopped r (refused_read (own_number N own) n room size least (omega arith) limit fits q)
      (end_refused s t ∙ zeros_left own n room size N w s t a.1
      ∙ ap (λ (x : Refusal). built (Err x) (replicate size 0) (replicate (length w) 0)) a.0)

module _ (s w : List ℕ) (n room size N : ℕ) (least : n ≤ 8) (lo : 1 ≤ N) (hi : N ≤ room) (limit : room ≤ 65535) (fits : room * (2 * n + 4) ≤ size)
    (long : length s ≡ size) where
  pub comes : Comes (stored_at s n) n room size N w (own_in s w n room N)
  comes =
      let z : zeroed s ≡ replicate size 0 = ap (λ (k : ℕ). replicate k 0) long in
      let own = stored_at s n in
      rw (own_in_zeros s w n room N, z)
      (came own n room size N w least lo hi limit fits (own_all own n room N (replicate size 0)) (read_all (own_number N own) n room (replicate size 0)) refl refl
      (own_beside own n room size N lo hi limit fits))
