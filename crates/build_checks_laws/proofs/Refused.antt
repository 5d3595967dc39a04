-- Accepted exactly when some group has the table and its identity row is 1..n; 12 exactly when 8 to 11 pass and no group has it.
use Prim.Native.Nat.{ℕ, zero, suc, ◌+◌, ◌*◌, ◌≤◌, ◌<◌}
use mathlib.Core.Path.{◌≡◌, refl, sym, ap, ◌∙◌}
use mathlib.Core.Logic.{◌↔◌}
use mathlib.Core.List.{List}
use native.Mathlib.Omega.{arith}
use mathlib.Core.Bool.{false}
use borrow.Author.Tests.{eqb-false}
use lib.Dec.{eqb}
use lib.ListN.{length}
use Rattle.egg.specs.declared.Refusal.{Refusal}
use Rattle.egg.specs.Answers.{Verdict, fine}
use Rattle.egg.specs.Refusals.{numbered, refusal_paper}
use Rattle.std.specs.Prelude.{Ok, Err}
use Rattle.egg.specs.Scan.{refused_of, and_then}
use Rattle.build_checks.specs.Checks.{missing, missing_row, check8, ranges, range_row, links_of, wrong, wrong_row, check_table, counted, counts_right}
use Rattle.build_checks_inverses.specs.Inverses.{fill_inverses, inverses_right}
use Rattle.build_checks_group.specs.Lefts.{identity_row, columns_row, spelled_row, spelled, check_steps, fill_left, goes_row, all_go, Lefts, left, then_left, lefts}
pub use Rattle.build_checks_group.specs.Lefts.{left_verdict}
pub use Rattle.build_checks.specs.Checks.{verdict_of}
use Rattle.build_checks.specs.Checks.{Checked, checked, then_checked, with_table, check_rest, check_group}
use Rattle.theory.specs.Table.{Table, Columns}
use Rattle.theory.specs.Words.{Parents, Recorded}
use Rattle.theory.specs.Group.{RightRegular}
use Rattle.theory.proofs.ColumnLaws.{arrivals_are}
use Rattle.build_checks_laws.specs.Stored.{StoredTable}
use Rattle.build_checks_laws.specs.Until12.{Until12}
use Rattle.egg.proofs.Scans.{refused_fine, Says, says_fine, says_refused, says_pick, says_then, says_scan}
use Rattle.build_checks_laws.proofs.Tests.{table_fine, wrong_fine, counts_fine, identity_fine}
use Rattle.build_checks_laws.proofs.Inverses.{fill_kept, stored_kept, step_is}
use Rattle.build_checks_laws.proofs.Accepted.{checks_sound, checks_kept, sound_regular}
use Rattle.build_checks_laws.proofs.Arrivals.{arrivals_right}
use Rattle.build_checks_laws.proofs.Complete.{present, in_range, inverses_exactly, checks_complete}

-- Every check before those of 12 refuses with another number.
abbrev Earlier : Refusal → Type 0
Earlier r = (refusal_paper r).number ≡ 12 → ⊥

refuses : (r : Refusal) → eqb (refusal_paper r).number 12 ≡ false → Says Earlier (Err r)
refuses r h = says_refused (eqb-false (refusal_paper r).number 12 h)

ruleset earlier = (says_then, says_scan, says_pick, says_fine, refuses)

module _ (t : List ℕ) (n N : ℕ) where
  table_earlier : Says Earlier (check_table t n N)
  unfolding check_table check8 missing missing_row ranges range_row links_of wrong wrong_row
  table_earlier = search earlier depth 12

  counts_earlier : (w : List ℕ) → Says Earlier (counts_right w n N)
  unfolding counts_right
  counts_earlier w = search earlier

  inverses_earlier : Says Earlier (inverses_right t n N)
  unfolding inverses_right
  inverses_earlier = search earlier

  identity_earlier : Says Earlier (identity_row t n)
  unfolding identity_row
  identity_earlier = search earlier

-- 8 to 11 have passed, as the definitions test them; the table has its inverses from 10 on.
pub record Before12 (t w : List ℕ) (n N : ℕ) : Type 0 where
  pub table : check_table t n N ≡ fine
  pub counts : counts_right (counted t w n N) n N ≡ fine
  pub inverses : inverses_right (fill_inverses N t n 0) n N ≡ fine
  pub identity : identity_row (fill_inverses N t n 0) n ≡ fine

-- A check that did not refuse so was passed.
passed_then : (v : Verdict) (t w : List ℕ) (c : Checked) {r : Refusal} {t₁ w₁ : List ℕ} → Says Earlier v → (refusal_paper r).number ≡ 12
    → then_checked v t w c ≡ checked (Err r) t₁ w₁ → (v ≡ fine) × (c ≡ checked (Err r) t₁ w₁)
passed_then (Ok _) t w c s q h = (refl, h)
passed_then (Err s) t w c {r} p q h = absurd (p.of r (cc) q)

passed_first : (v : Verdict) (t w : List ℕ) (u : Verdict) (c : Checked) {r : Refusal} {t₁ w₁ : List ℕ} → Says Earlier v → (refusal_paper r).number ≡ 12
    → then_checked (and_then v u) t w c ≡ checked (Err r) t₁ w₁ → v ≡ fine
passed_first (Ok _) t w u c p q h = refl
passed_first (Err s) t w u c {r} p q h = absurd (p.of r (cc) q)

-- 12 comes after 11.
pub before_12 : (t w : List ℕ) (n N : ℕ) {r : Refusal} {t₁ w₁ : List ℕ} → check_group t w n N ≡ checked (Err r) t₁ w₁ → (refusal_paper r).number ≡ 12
    → Before12 t w n N
unfolding check_group check_rest check_steps
before_12 t w n N h q =
    let f = fill_inverses N t n 0 in
    let c = counted t w n N in
    let a = passed_then (check_table t n N) t w _ (table_earlier t n N) q h in
    let b = passed_then (counts_right c n N) t c _ (counts_earlier t n N c) q a.1 in
    let d = passed_then (inverses_right f n N) f c _ (inverses_earlier f n N) q b.1 in
    record {
      table = a.0;
      counts = b.0;
      inverses = d.0;
      identity = passed_first (identity_row f n) f c (spelled f n N) _ (identity_earlier f n N) q d.1;
    }

-- After 11 only 12 is given, and its places are zero.
abbrev pub Twelve : Refusal → Type 0
Twelve r = r ≡ numbered 12 0 0 0

twelve : Says Twelve (refused_of 12 0 0 0)
twelve = says_refused refl

ruleset late = (says_then, says_scan, says_pick, says_fine, twelve)

module _ (t : List ℕ) (n N : ℕ) where
  spelled_late : Says Twelve (spelled t n N)
  unfolding spelled columns_row spelled_row
  spelled_late = search late depth 12

  all_go_late : (w : List ℕ) → Says Twelve (all_go t w n N)
  unfolding all_go goes_row
  all_go_late w = search late

pub left_says : {Q : Refusal → Type 0} (v : Verdict) (w : List ℕ) (l : Lefts) → Says Q v → Says Q (left_verdict l) → Says Q (left_verdict (then_left v w l))
left_says (Ok _) w l p q = q
left_says (Err r) w l p q = p

pub checked_says : {Q : Refusal → Type 0} (v : Verdict) (t w : List ℕ) (c : Checked) → Says Q v → Says Q (verdict_of c) → Says Q (verdict_of (then_checked v t w c))
checked_says (Ok _) t w c p q = q
checked_says (Err r) t w c p q = p

pub table_says : {Q : Refusal → Type 0} (t : List ℕ) (l : Lefts) → Says Q (left_verdict l) → Says Q (verdict_of (with_table t l))
table_says t (left v w) p = p

pub lefts_late : (k : ℕ) (t : List ℕ) (n N : ℕ) (w : List ℕ) (s : ℕ) → Says Twelve (left_verdict (lefts k t n N w s))
unfolding lefts
lefts_late zero t n N w s = says_fine
lefts_late (suc k) t n N w s =
    let v = fill_left N t n s w 0 in
    left_says (all_go t v n N) v (lefts k t n N v (s + 1)) (all_go_late t n N v) (lefts_late k t n N v (s + 1))

after_11 : (t w : List ℕ) (n N : ℕ) → Before12 t w n N → Says Twelve (verdict_of (check_group t w n N))
unfolding check_group check_rest check_steps
after_11 t w n N B =
    let f = fill_inverses N t n 0 in
    let c = counted t w n N in
    rw (B.table, B.counts, B.inverses, B.identity)
    (checked_says (spelled f n N) f c _ (spelled_late f n N) (table_says f (lefts n f n N c 0) (lefts_late n f n N c 0)))

-- So a refusal by 12 has no places.
pub places_12 : (t w : List ℕ) (n N : ℕ) {r : Refusal} {t₁ w₁ : List ℕ} → check_group t w n N ≡ checked (Err r) t₁ w₁ → (refusal_paper r).number ≡ 12
    → r ≡ numbered 12 0 0 0
places_12 t w n N {r} h q = (after_11 t w n N (before_12 t w n N h q)).of r (ap verdict_of h)

pub regular_same : {n N : ℕ} {step step' : ℕ → ℕ → ℕ} → Table n N step → ((e g : ℕ) → e < N → g < n → step e g ≡ step' e g) → RightRegular n N step
    → RightRegular n N step'
regular_same T same G = record {
  op = G.op;
  inv = G.inv;
  group = G.group;
  steps = record {
    element = λ {g} hg. rw (same 0 g T.origin hg) at (G.steps.element hg);
    step_is = λ {e} {g} he hg. cc (same e g he hg, same 0 g T.origin hg, G.steps.step_is he hg);
  };
}

module _ {n N : ℕ} {step back : ℕ → ℕ → ℕ} {parent last : ℕ → ℕ} {word : ℕ → List ℕ} {t : List ℕ}
    (few : n ≤ 8) (small : N ≤ 65535) (room : N * (2 * n + 4) ≤ length t) (S : StoredTable t n N step back parent last word)
    (T : Table n N step) (P : Parents n N step parent last) (R : Recorded N parent last word) (C : Columns n N step back)
    (short : (e : ℕ) → e < N → length (word e) ≤ 4096) (w : List ℕ) (work : 0 < n → N ≤ length w) where
  pub refused_no_group : {r : Refusal} {t₁ w₁ : List ℕ} → check_group t w n N ≡ checked (Err r) t₁ w₁ → ((g : ℕ) → g < n → step 0 g ≡ suc g)
      → RightRegular n N step → ⊥
  refused_no_group {r} h first G =
      let a = checks_complete few small room S T P R C short w work first G in
      let q : checked (Err r) _ _ ≡ checked fine _ _ = sym h ∙ a.2 in
      refused_fine {r = r} (cc)

  -- What it means that 8 to 11 pass.
  pub until_12 : Before12 t w n N ↔ Until12 n N step back word
  until_12 =
      let f = fill_inverses N t n 0 in
      let S₁ = stored_kept (fill_kept t n N) S in (
        λ B.
            let moving = (wrong_fine t n N).0 ((table_fine t n N).0 B.table).1.1 in
            record {
              successors = T;
              predecessors = C;
              no_fixed_point = λ {e} {g} he hg z. (moving e he g hg).0 (step_is S he hg ∙ z);
              generator_row = λ {e} {g} pos he hg z. (moving e he g hg).1 pos (step_is S he hg ∙ z ∙ sym (step_is S T.origin hg));
              counts = λ he. arrivals_are C he;
              inverse_of_inverse = λ {e} he. (inverses_exactly few small room S T P R C short).0 B.inverses e he;
              identity_row_lem = λ g hg. omega (arith, (identity_fine f n N).0 B.identity g hg, step_is S₁ T.origin hg);
            },
        λ U. record {
          table = (table_fine t n N).1 (
            present S T P R C,
            (
              in_range S T P R C short,
              (wrong_fine t n N).1 (λ e he g hg. (
                λ z. U.no_fixed_point he hg (sym (step_is S he hg) ∙ z),
                λ pos z. U.generator_row pos he hg (sym (step_is S he hg) ∙ z ∙ step_is S T.origin hg),
              )),
            ),
          );
          counts = (counts_fine t n N (counted t w n N)).1 (arrivals_right few S C w work);
          inverses = (inverses_exactly few small room S T P R C short).1 (λ e he. U.inverse_of_inverse he);
          identity = (identity_fine f n N).1 (λ g hg. omega (arith, step_is S₁ T.origin hg, U.identity_row_lem g hg));
        },
      )

  pub accepted_exactly : ((t₁ : List ℕ) × (w₁ : List ℕ) × (check_group t w n N ≡ checked fine t₁ w₁))
      ↔ (RightRegular n N step × ((g : ℕ) → g < n → step 0 g ≡ suc g))
  accepted_exactly = (
    λ a.
        let F = checks_sound t w n N a.2 T.origin small room in
        let S₁ = stored_kept (checks_kept t w n N a.2) S in
        (regular_same F.table (λ e g he hg. step_is S₁ he hg) (sound_regular F), λ g hg. sym (step_is S₁ T.origin hg) ∙ F.identity_row_lem hg),
    λ b. checks_complete few small room S T P R C short w work b.1 b.0,
  )

  -- 12, "no group has these right steps": given exactly when 8 to 11 pass and none has.
  pub refused_12 : ((r : Refusal) × (t₁ : List ℕ) × (w₁ : List ℕ) × (check_group t w n N ≡ checked (Err r) t₁ w₁) × ((refusal_paper r).number ≡ 12))
      ↔ (Until12 n N step back word × (RightRegular n N step → ⊥))
  refused_12 = (
    λ a. let U = until_12.0 (before_12 t w n N a.3 a.4) in (U, refused_no_group a.3 U.identity_row_lem),
    λ b. go b.1 (check_group t w n N) refl (after_11 t w n N (until_12.1 b.0)),
  ) where
    go : (RightRegular n N step → ⊥) → (c : Checked) → check_group t w n N ≡ c → Says Twelve (verdict_of c)
        → (r : Refusal) × (t₁ : List ℕ) × (w₁ : List ℕ) × (check_group t w n N ≡ checked (Err r) t₁ w₁) × ((refusal_paper r).number ≡ 12)
    go none (checked (Ok _) t₁ w₁) q s = absurd (none (accepted_exactly.0 (t₁, w₁, q)).0)
    go none (checked (Err r) t₁ w₁) q s = (r, t₁, w₁, q, ap (λ (x : Refusal). (refusal_paper x).number) (s.of r refl))
