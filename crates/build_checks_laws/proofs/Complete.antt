-- A group's table whose identity row is 1..n passes every check: the theory says what holds in a group, and each check tests just that.
use Prim.Native.Nat.{ℕ, suc, ◌+◌, ◌*◌, ◌-◌, ◌≤◌, ◌<◌}
use mathlib.Core.Path.{◌≡◌, sym, ap, ◌∙◌}
use mathlib.Core.Logic.{◌↔◌}
use mathlib.Core.List.{List}
use native.Mathlib.Decide.{dec_lt}
use native.Mathlib.Omega.{arith}
use lib.ListN.{length, get_or}
use Rattle.egg.specs.Answers.{fine}
use Rattle.egg.specs.Table.{start_of, parent_of, last_of, length_of, inverse_of, step_of}
use Rattle.build_checks.specs.Checks.{check8, ranges, wrong, counted, checked, check_rest, check_group}
use Rattle.build_checks_inverses.specs.Inverses.{fill_inverses, inverses_right}
use Rattle.build_checks_group.specs.Lefts.{spelled, check_steps}
use Rattle.theory.specs.Table.{Table, Columns}
use Rattle.theory.specs.Words.{Parents, Recorded}
use Rattle.theory.specs.Group.{RightRegular}
use Rattle.theory.specs.Regular.{inverse}
use Rattle.theory.proofs.Complete.{no_fixed_point, only_identity, complete, inverse_involution}
use Rattle.theory.proofs.Recording.{recorded_spelled, length_grow}
use Rattle.build_checks_laws.specs.Stored.{StoredTable}
use Rattle.build_checks_laws.proofs.Tests.{check8_fine, table_fine, steps_fine, ranges_fine, wrong_fine, counts_fine, inverses_fine, identity_fine, spelled_fine}
use Rattle.build_checks_laws.proofs.Inverses.{fill_kept, stored_kept, step_is, back_is, inverse_small, fill_inverse}
use Rattle.build_checks_laws.proofs.Lefts.{lefts_complete}
use Rattle.build_checks_laws.proofs.Arrivals.{counted_length, arrivals_right}

module _ {n N : ℕ} {step back : ℕ → ℕ → ℕ} {parent last : ℕ → ℕ} {word : ℕ → List ℕ} {t : List ℕ}
    (S : StoredTable t n N step back parent last word) (T : Table n N step) (P : Parents n N step parent last) (R : Recorded N parent last word)
    (C : Columns n N step back) where
  pub present : check8 t n N ≡ fine
  present = (check8_fine t n N).1 (λ e he g hg z. omega (arith, S.successor he hg), λ e he g hg z. omega (arith, S.predecessor he hg))

  pub in_range : ((e : ℕ) → e < N → length (word e) ≤ 4096) → ranges t n N ≡ fine
  in_range short = (ranges_fine t n N).1 (λ e he. (
    λ k hk. cell e k he hk (dec_lt k n),
    (rw (S.lengths he) (short e he), λ pos. rw (S.parents pos he, S.letters pos he) (P.earlier pos he, P.generator pos he)),
  )) where
    cell : (e k : ℕ) → e < N → k < 2 * n → Dec (k < n) → get_or t (start_of n e + k) 0 ≤ N
    cell e k he hk (yes h) = omega (arith, S.successor he h, T.closed he h)
    cell e k he hk (no h) =
        let g : k - n < n = omega arith in
        let q : start_of n e + k ≡ start_of n e + n + (k - n) = omega arith in
        rw q (omega (arith, S.predecessor he g, C.closed he g))

  -- "a fixed point or wrong generator row": in a group neither is there, where no generator is the identity.
  none_wrong : ((g : ℕ) → g < n → step 0 g ≡ suc g) → RightRegular n N step → wrong t n N ≡ fine
  none_wrong first G = (wrong_fine t n N).1 (λ e he g hg. (
    λ q. let z : step 0 g ≡ 0 = no_fixed_point G.group G.steps he hg (sym (step_is S he hg) ∙ q) in omega (arith, first g hg),
    λ pos q.
        let z : e ≡ 0 = only_identity G.group G.steps he hg (sym (step_is S he hg) ∙ q ∙ step_is S T.origin hg) in
        omega arith,
  ))

  -- The recorded words lead to their elements.
  pub words_right : spelled t n N ≡ fine
  words_right = (spelled_fine t n N).1 (λ e he. (
    λ g hg. rw (back_is S he hg) (step_is S (C.closed he hg) hg ∙ C.step_back he hg),
    (λ z. rw z (S.lengths T.origin ∙ ap length R.start), λ pos. links_right e pos he),
  )) where
    links_right : (e : ℕ) → 0 < e → e < N → (step_of t n (parent_of t n e) (last_of t n e) ≡ e) × (length_of t n e ≡ length_of t n (parent_of t n e) + 1)
    links_right e pos he =
        let m : parent e < N = omega (arith, P.earlier pos he) in
        rw (S.parents pos he, S.letters pos he)
        (step_is S m (P.generator pos he) ∙ P.arrives pos he, omega (arith, S.lengths he, S.lengths m, length_grow R pos he))

  right_steps : ((g : ℕ) → g < n → step 0 g ≡ suc g) → check_steps t n N ≡ fine
  right_steps first = (steps_fine t n N).1 ((identity_fine t n N).1 (λ g hg. omega (arith, step_is S T.origin hg, first g hg)), words_right)

module _ {n N : ℕ} {step back : ℕ → ℕ → ℕ} {parent last : ℕ → ℕ} {word : ℕ → List ℕ} {t : List ℕ}
    (few : n ≤ 8) (small : N ≤ 65535) (room : N * (2 * n + 4) ≤ length t) (S : StoredTable t n N step back parent last word)
    (T : Table n N step) (P : Parents n N step parent last) (R : Recorded N parent last word) (C : Columns n N step back)
    (short : (e : ℕ) → e < N → length (word e) ≤ 4096) where
  inverse_is : (e : ℕ) → e < N → inverse_of (fill_inverses N t n 0) n e ≡ inverse back word e
  inverse_is e he = fill_inverse T P R C small N t room S 0 (omega arith) e (omega arith) (omega arith)

  -- 10 passes just where the inverse of an inverse is the element.
  pub inverses_exactly : inverses_right (fill_inverses N t n 0) n N ≡ fine ↔ ((e : ℕ) → e < N → inverse back word (inverse back word e) ≡ e)
  inverses_exactly =
      let f = fill_inverses N t n 0 in
      let twice : (e : ℕ) → e < N → inverse_of f n (inverse_of f n e) ≡ inverse back word (inverse back word e) = λ e he.
      ap (λ (x : ℕ). inverse_of f n x) (inverse_is e he) ∙ inverse_is (inverse back word e) (inverse_small T P R C he) in (
        λ h e he. sym (twice e he) ∙ (inverses_fine f n N).0 h e he,
        λ h. (inverses_fine f n N).1 (λ e he. twice e he ∙ h e he),
      )

  pub checks_complete : (w : List ℕ) → (0 < n → N ≤ length w) → ((g : ℕ) → g < n → step 0 g ≡ suc g) → RightRegular n N step
      → (t₁ : List ℕ) × (w₁ : List ℕ) × (check_group t w n N ≡ checked fine t₁ w₁)
  unfolding check_group check_rest
  checks_complete w work first G =
      let f = fill_inverses N t n 0 in
      let c = counted t w n N in
      let S₁ = stored_kept (fill_kept t n N) S in
      let a = (table_fine t n N).1 (present S T P R C, (in_range S T P R C short, none_wrong S T P R C first G)) in
      let b = (counts_fine t n N c).1 (arrivals_right few S C w work) in
      let d = inverses_exactly.1 (λ e he. inverse_involution G.group G.steps (recorded_spelled P R) C he) in
      let s = right_steps S₁ T P R C first in
      let l = lefts_complete small S₁ T P R n c 0 (omega arith) (λ pos. omega (arith, work pos, counted_length t w n N))
      (complete G.group G.steps (recorded_spelled P R)) in
      (f, l.0, rw (a, b, d, s, l.1))
