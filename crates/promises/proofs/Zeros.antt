-- What a refused build leaves in its stretches, and by which numbers it is refused: from the numbers of a source, and from pair orders.
use Prim.Native.Nat.{ℕ, ◌+◌, ◌*◌, ◌≤◌}
use mathlib.Core.Path.{◌≡◌, refl, sym, ap, ◌∙◌, subst}
use mathlib.Core.Logic.{◌⊎◌, inl, inr, ⊎_elim}
use mathlib.Core.Bool.{true}
use mathlib.Core.List.{List, [], ◌∷◌}
use native.Mathlib.Nat.{le_refl, mul-le-mul}
use native.Mathlib.Omega.{arith}
use lib.ListN.{length, replicate, length-replicate}
use Rattle.egg.specs.declared.Refusal.{Refusal}
use Rattle.egg.specs.Answers.{Counted, Verdict, fine}
use Rattle.egg.specs.Refusals.{refusal_paper}
use Rattle.std.specs.Prelude.{Ok, Err}
use Rattle.egg.specs.Pairs.{orders_right}
use Rattle.egg.proofs.Scans.{Says}
use Rattle.build_word_cells.specs.Hops.{with_hops}
use Rattle.build_word_cells.proofs.Hops.{hops_long}
use Rattle.build_checks.specs.Checks.{check_table, Checked, checked, check_group}
use Rattle.build_lending.specs.Finish.{built, zeroed, settled_by, finished, finished_placed}
use Rattle.build_lending.proofs.Finishing.{refused_counted}
use Rattle.build_reading.specs.Reading.{Placed, placed, read_all}
use Rattle.factor_relations.specs.Relations.{relations_row}
use Rattle.enumeration_run.specs.declared.inner.Ran.{Ran}
use Rattle.enumeration_run.specs.declared.inner.Ran.TheVariants as ran
use Rattle.enumeration_run.specs.Run.{enumerated}
use Rattle.enumeration.specs.Calls.{ran_count, relating_by, with_work, related, enumerated_in}
use Rattle.build_checks_laws.specs.Numbers.{member, every, RefusalIn, late_numbers}
use Rattle.build_checks_laws.proofs.Accepted.{checks_sound, checks_kept}
use Rattle.build_checks_laws.proofs.Hopping.{hopping_sound}
use Rattle.build_checks_laws.proofs.Lengths.{checks_work}
use Rattle.build_checks_laws.proofs.Numbers.{each_in, none_of, ranged_numbers, full_numbers, checks_number}
use Rattle.build_reading_laws.proofs.Readings.{accepted_read, refused_read, refused_number}
use Rattle.factor_relations_laws.specs.Fails.{Fails}
use Rattle.factor_relations_laws.proofs.Relators.{orders_long, relations_identity, relations_fail}
use Rattle.enumeration_run.specs.Limits.{Limits}
use Rattle.enumeration_run_laws.specs.Going.{Broken, no_room, long_word}
use Rattle.enumeration_run_laws.proofs.Derivation.{done_sound}
use Rattle.enumeration_run_laws.proofs.Going.{done_finished, refused_broken}
use Rattle.enumeration_run_laws.proofs.Ending.{never_paused}
use Rattle.promises.specs.Leaves.{composed_numbers, enumeration_numbers}
use Rattle.promises.proofs.ReadLengths.{read_length}
use Rattle.promises.proofs.Passing.{finished_8, finished_ranges, read_ranges}

-- A refused build leaves zeros in its stretches, and has one of these numbers.
pub record Zeros (r : Refusal) (l : List ℕ) (lt lw : ℕ) (t w : List ℕ) : Type 0 where
  pub number : member (refusal_paper r).number l ≡ true
  pub table : t ≡ replicate lt 0
  pub work : w ≡ replicate lw 0

-- Whatever is refused at the end of a build, both lists are zero then.
pub settled_zeros : (c : ℕ) (k : Checked) (t₀ w₀ : List ℕ) (n : ℕ) → check_group t₀ w₀ n c ≡ k → {r : Refusal} {t w : List ℕ} → settled_by n c k ≡ built (Err r) t w
    → (t ≡ replicate (length t₀) 0) × (w ≡ replicate (length w₀) 0)
settled_zeros c (checked (Ok _) t₁ w₁) t₀ w₀ n h q = absurd (refused_counted (sym q))
settled_zeros c (checked (Err s) t₁ w₁) t₀ w₀ n h {r} {t} {w} q =
    let a : t ≡ zeroed t₁ = cc in
    let b : w ≡ zeroed w₁ = cc in
    (a ∙ ap (λ (k : ℕ). replicate k 0) (checks_kept t₀ w₀ n c h).size, b ∙ ap (λ (k : ℕ). replicate k 0) (checks_work t₀ w₀ n c h))

pub finished_zeros : (c : Counted) (n : ℕ) (t₀ w₀ : List ℕ) {r : Refusal} {t w : List ℕ} → finished c n t₀ w₀ ≡ built (Err r) t w
    → (t ≡ replicate (length t₀) 0) × (w ≡ replicate (length w₀) 0)
unfolding finished
finished_zeros (Ok c) n t₀ w₀ q = settled_zeros c (check_group t₀ w₀ n c) t₀ w₀ n refl q
finished_zeros (Err s) n t₀ w₀ {r} {t} {w} q = (cc, cc)

pub check_zeros : (l : List ℕ) → every (λ x. member x l) late_numbers ≡ true → (t₀ w₀ : List ℕ) (n c : ℕ) → Says (RefusalIn l) (check_table t₀ n c)
    → (k : Checked) → check_group t₀ w₀ n c ≡ k → {r : Refusal} {t w : List ℕ} → settled_by n c k ≡ built (Err r) t w
    → Zeros r l (length t₀) (length w₀) t w
check_zeros l late t₀ w₀ n c says (checked (Ok _) t₁ w₂) h q = absurd (refused_counted (sym q))
check_zeros l late t₀ w₀ n c says (checked (Err s) t₁ w₂) h {r} q =
    let e : s ≡ r = cc in
    let z = settled_zeros c (checked (Err s) t₁ w₂) t₀ w₀ n h q in
    record { number = rw e at (checks_number l late t₀ w₀ n c says h); table = z.0; work = z.1 }

pub zeros_widen : {r : Refusal} {l : List ℕ} (m : List ℕ) {lt lw : ℕ} {t w : List ℕ} → every (λ x. member x m) l ≡ true → Zeros r l lt lw t w → Zeros r m lt lw t w
zeros_widen {r} {l} m h Z = record { number = each_in (λ x. member x m) (refusal_paper r).number l h Z.number; table = Z.table; work = Z.work }

read_numbers : {k : ℕ} → (k ≡ 7) ⊎ ((k ≡ 5) ⊎ (k ≡ 6)) → member k composed_numbers ≡ true
read_numbers (inl a) = rw a
read_numbers (inr (inl a)) = rw a
read_numbers (inr (inr a)) = rw a

-- A build from the numbers of any source.
module _ (src : ℕ → ℕ → ℕ) (n room size : ℕ) (w₀ : List ℕ) (few : n ≤ 8) (lo : 1 ≤ room) (hi : room ≤ 65535) (fits : room * (2 * n + 4) ≤ size) where
  read_by : (p : Placed) → read_all src n room (replicate size 0) ≡ p → {r : Refusal} {t w : List ℕ} → finished_placed p n w₀ ≡ built (Err r) t w
      → Zeros r composed_numbers size (length w₀) t w
  unfolding finished
  read_by (placed (Ok c) t₀) e {r} {t} {w} q =
      let long : length t₀ ≡ size = read_length src n room (replicate size 0) e ∙ length-replicate size 0 in
      subst (λ (k : ℕ). Zeros r composed_numbers k (length w₀) t w) long (zeros_widen composed_numbers refl
      (check_zeros (8 ∷ late_numbers) refl t₀ w₀ n c (ranged_numbers t₀ n c (read_ranges (accepted_read src n room size few lo hi fits e)))
      (check_group t₀ w₀ n c) refl q))
  read_by (placed (Err s) t₀) e {r} {t} {w} q =
      let long : length t₀ ≡ size = read_length src n room (replicate size 0) e ∙ length-replicate size 0 in
      let i : s ≡ r = cc in
      let a : t ≡ zeroed t₀ = cc in
      let b : w ≡ zeroed w₀ = cc in
      record {
        number = rw i at (read_numbers (refused_number (refused_read src n room size few lo hi fits e)));
        table = a ∙ ap (λ (k : ℕ). replicate k 0) long;
        work = b;
      }

  pub read_zeros : {r : Refusal} {t w : List ℕ} → finished_placed (read_all src n room (replicate size 0)) n w₀ ≡ built (Err r) t w
      → Zeros r composed_numbers size (length w₀) t w
  read_zeros q = read_by (read_all src n room (replicate size 0)) refl q

fails_number : {n : ℕ} {m step : ℕ → ℕ → ℕ} {e : ℕ} {r : Refusal} → Fails n m step e r → (refusal_paper r).number ≡ 13
fails_number F = ap (λ (x : Refusal). (refusal_paper x).number) F.places

module _ (o : List ℕ) (n room lt lw : ℕ) (L : Limits n o room lt lw) (right : orders_right o n ≡ fine) where
  module _ (N : ℕ) (D : (enumerated n o room lt lw).answer ≡ ran.Done N) where
    abbrev T : List ℕ
    T = (enumerated n o room lt lw).table

    abbrev W : List ℕ
    W = (enumerated n o room lt lw).work

    -- 13, where 8 to 12 have passed.
    thirteen : {t₁ w₂ : List ℕ} → check_group T W n N ≡ checked fine t₁ w₂ → {r : Refusal} → relations_row (with_hops N t₁ n) n N o 0 ≡ Err r
        → (refusal_paper r).number ≡ 13
    thirteen {t₁} c {r} q =
        let F = done_sound L D in
        let small : N ≤ 65535 = omega (arith, F.fits, L.limit) in
        let fits : N * (2 * n + 4) ≤ length T = omega (arith, F.whole, L.table_room, mul-le-mul F.fits (le_refl (2 * n + 4))) in
        let S = hopping_sound (checks_sound T W n N c F.some small fits) in
        fails_number (relations_fail S L.few o (orders_long o n right) (relations_identity S L.few o (orders_long o n right) ∙ q))

    related_by : {t₁ w₂ : List ℕ} → check_group T W n N ≡ checked fine t₁ w₂ → (v : Verdict) → relations_row (with_hops N t₁ n) n N o 0 ≡ v → {r : Refusal} {t w : List ℕ}
        → with_work (zeroed w₂) (relating_by v N (with_hops N t₁ n)) ≡ built (Err r) t w → Zeros r (13 ∷ late_numbers) (length T) (length W) t w
    related_by c (Ok _) e q = absurd (refused_counted (sym q))
    related_by {t₁} {w₂} c (Err s) e {r} {t} {w} q =
        let i : s ≡ r = cc in
        let a : t ≡ zeroed (with_hops N t₁ n) = cc in
        let b : w ≡ zeroed w₂ = cc in
        let k : (refusal_paper r).number ≡ 13 = ap (λ (x : Refusal). (refusal_paper x).number) (sym i) ∙ thirteen c e in
        record {
          number = rw k;
          table = a ∙ ap (λ (k : ℕ). replicate k 0) (hops_long N t₁ n ∙ (checks_kept T W n N c).size);
          work = b ∙ ap (λ (k : ℕ). replicate k 0) (checks_work T W n N c);
        }

    checked_by : (k : Checked) → check_group T W n N ≡ k → {r : Refusal} {t w : List ℕ} → related n o (settled_by n N k) ≡ built (Err r) t w
        → Zeros r (13 ∷ late_numbers) (length T) (length W) t w
    checked_by (checked (Ok _) t₁ w₂) e q = related_by e (relations_row (with_hops N t₁ n) n N o 0) refl q
    checked_by (checked (Err s) t₁ w₂) e q =
        let F = done_finished L D in
        zeros_widen (13 ∷ late_numbers) refl
        (check_zeros late_numbers refl T W n N (full_numbers T n N (finished_8 F) (finished_ranges F)) (checked (Err s) t₁ w₂) e q)

  broken_number : {t w : List ℕ} {r : Refusal} → Broken n o room lt lw t w r → (member (refusal_paper r).number enumeration_numbers ≡ true) × (length t ≡ lt) × (length w ≡ lw)
  broken_number (no_room e g a b G z) = (refl, G.run.table_length, G.run.work_length)
  broken_number (long_word e g c a b d G z l) = (refl, G.run.table_length, G.run.work_length)

  -- What the checks or 13 refused, or what the run did.
  enumerated_by : (a : Ran) → (enumerated n o room lt lw).answer ≡ a → {r : Refusal} {t w : List ℕ}
      → related n o (finished (ran_count a) n (enumerated n o room lt lw).table (enumerated n o room lt lw).work) ≡ built (Err r) t w
      → Zeros r (13 ∷ late_numbers) lt lw t w ⊎ (Zeros r enumeration_numbers lt lw t w × ((enumerated n o room lt lw).answer ≡ ran.Refused r))
  unfolding finished
  enumerated_by (ran.Done c) e {r} {t} {w} q =
      let F = done_finished L e in
      let Z = checked_by c e (check_group (enumerated n o room lt lw).table (enumerated n o room lt lw).work n c) refl q in
      inl (subst (λ (k : ℕ). Zeros r (13 ∷ late_numbers) k lw t w) F.run.table_length
      (subst (λ (k : ℕ). Zeros r (13 ∷ late_numbers) (length (enumerated n o room lt lw).table) k t w) F.run.work_length Z))
  enumerated_by (ran.Paused at) e q = absurd (never_paused L e)
  enumerated_by (ran.Refused s) e {r} {t} {w} q =
      let B = broken_number (refused_broken L e) in
      let i : s ≡ r = cc in
      let a : t ≡ zeroed (enumerated n o room lt lw).table = cc in
      let b : w ≡ zeroed (enumerated n o room lt lw).work = cc in
      inr (
        record {
          number = rw i at B.0;
          table = a ∙ ap (λ (k : ℕ). replicate k 0) B.1;
          work = b ∙ ap (λ (k : ℕ). replicate k 0) B.2;
        },
        e ∙ ap ran.Refused i,
      )

  pub enumerated_zeros : {r : Refusal} {t w : List ℕ} → enumerated_in lt lw o n room ≡ built (Err r) t w → Zeros r enumeration_numbers lt lw t w
  unfolding enumerated_in
  enumerated_zeros {r} {t} {w} q = by (enumerated_by (enumerated n o room lt lw).answer refl q) where
    by : Zeros r (13 ∷ late_numbers) lt lw t w ⊎ (Zeros r enumeration_numbers lt lw t w × ((enumerated n o room lt lw).answer ≡ ran.Refused r)) → Zeros r enumeration_numbers lt lw t w
    by (inl Z) = zeros_widen enumeration_numbers refl Z
    by (inr Z) = Z.0

  -- 5 and 6 are the run's, and what the run refuses is refused.
  pub enumerated_stops : {r : Refusal} {t w : List ℕ} → enumerated_in lt lw o n room ≡ built (Err r) t w → member (refusal_paper r).number (5 ∷ 6 ∷ []) ≡ true
      → (enumerated n o room lt lw).answer ≡ ran.Refused r
  unfolding enumerated_in
  enumerated_stops {r} {t} {w} q five =
      ⊎_elim (λ Z. absurd (none_of (refusal_paper r).number (5 ∷ 6 ∷ []) (13 ∷ late_numbers) refl five Z.number)) (λ Z. Z.1) (enumerated_by (enumerated n o room lt lw).answer refl q)

  pub stopped_built : {r : Refusal} → (enumerated n o room lt lw).answer ≡ ran.Refused r
      → enumerated_in lt lw o n room ≡ built (Err r) (zeroed (enumerated n o room lt lw).table) (zeroed (enumerated n o room lt lw).work)
  unfolding enumerated_in finished
  stopped_built q = rw q

  pub stopped_number : {r : Refusal} → (enumerated n o room lt lw).answer ≡ ran.Refused r → member (refusal_paper r).number (5 ∷ 6 ∷ []) ≡ true
  stopped_number q = by (refused_broken L q) where
    by : {r : Refusal} {t w : List ℕ} → Broken n o room lt lw t w r → member (refusal_paper r).number (5 ∷ 6 ∷ []) ≡ true
    by (no_room e g a b G z) = refl
    by (long_word e g c a b d G z l) = refl
