-- 8 of a table that a builder's own rows were read into: the first place that is lacking.
use Prim.Native.Nat.{ℕ, zero, suc, ◌+◌, ◌*◌, ◌-◌, ◌≤◌, ◌<◌}
use mathlib.Core.Path.{◌≡◌, refl, sym, ap, ◌∙◌}
use mathlib.Core.Logic.{⊎_elim}
use mathlib.Core.Bool.{Bool, true, false}
use mathlib.Core.List.{List}
use native.Mathlib.Nat.{le_refl, eq-zero-or-pos}
use native.Mathlib.Decide.{dec_lt}
use native.Mathlib.Omega.{arith}
use borrow.Author.Tests.{eqb-true, le-ltb, lt-ltb, eq-eqb}
use lib.Dec.{eqb}
use lib.ListN.{get_or}
use Rattle.egg.specs.declared.Refusal.{Refusal}
use Rattle.egg.specs.Answers.{Verdict, fine}
use Rattle.egg.specs.Refusals.{refusal_paper}
use Rattle.std.specs.Prelude.{Ok, Err}
use Rattle.egg.specs.Table.{pick, start_of}
use Rattle.egg.specs.Scan.{refused_of, and_then, scan}
use Rattle.egg.proofs.Scans.{refused_fine, and_then_fine, scan_first, scan_each}
use Rattle.egg.specs.Answers.{numbered}
use Rattle.build_checks.specs.Checks.{missing_at, missing_row, missing, check8}
use Rattle.theory.specs.Appearance.{Ahead, row, column}
use Rattle.theory.proofs.Places.{Places, sooner, same, later, places}
use Rattle.theory.proofs.Counting.{numbered_table}
use Rattle.build_checks_laws.proofs.Tests.{missing_fine}
use Rattle.build_reading_laws.specs.Read.{Read}
use Rattle.promises_builder.specs.Own.{own_number}
use Rattle.promises_builder.specs.Refusals.{AllThere, NoneLeads, AllLedTo, BuilderLacks, no_successor, no_predecessor, not_reached}
use Rattle.promises_builder.proofs.Missing.{TableBeside}

-- The first place of the table at which a cell is zero.
pub record FirstZero (t : List ℕ) (n N shift : ℕ) (r : Refusal) : Type 0 where
  pub element : ℕ
  pub generator : ℕ
  pub is : r ≡ numbered 8 element generator 0
  pub inside : element < N
  pub column : generator < n
  pub zero_here : get_or t (start_of n element + shift + generator) 0 ≡ 0
  pub before : (y h : ℕ) → y < N → h < n → Ahead y h element generator → get_or t (start_of n y + shift + h) 0 ≡ 0 → ⊥

module _ (t : List ℕ) (n N shift : ℕ) where
  at_zero : (e g : ℕ) {r : Refusal} → missing_at t n shift e g ≡ Err r → (r ≡ numbered 8 e g 0) × (get_or t (start_of n e + shift + g) 0 ≡ 0)
  at_zero e g {r} h = by (eqb (get_or t (start_of n e + shift + g) 0) 0) refl h where
    by : (b : Bool) → eqb (get_or t (start_of n e + shift + g) 0) 0 ≡ b → pick b (refused_of 8 e g 0) fine ≡ Err r
        → (r ≡ numbered 8 e g 0) × (get_or t (start_of n e + shift + g) 0 ≡ 0)
    by true q p = (cc, eqb-true _ _ q)
    by false q p = absurd (refused_fine (sym p))

  at_fine : (e g : ℕ) → missing_at t n shift e g ≡ fine → get_or t (start_of n e + shift + g) 0 ≡ 0 → ⊥
  at_fine e g h z = refused_fine {r = numbered 8 e g 0} (rw (eq-eqb _ _ z) at h)

  pub missing_first : {r : Refusal} → missing t n N shift ≡ Err r → FirstZero t n N shift r
  unfolding missing missing_row
  missing_first {r} h =
      let p = scan_first N (λ e. missing_row t n shift e) 0 h in
      let q = scan_first n (λ g. missing_at t n shift p.0 g) 0 p.3 in
      let z = at_zero p.0 q.0 q.3 in
      record {
        element = p.0;
        generator = q.0;
        is = z.0;
        inside = omega (arith, p.2);
        column = omega (arith, q.2);
        zero_here = z.1;
        before = λ y k hy hk a. earlier p q y k hk a;
      } where
        earlier : (p : (j : ℕ) × (0 ≤ j) × (j < 0 + N) × (scan n (λ g. missing_at t n shift j g) 0 ≡ Err r) × ((l : ℕ) → 0 ≤ l → l < j → scan n (λ g. missing_at t n shift l g) 0 ≡ fine))
            (q : (j : ℕ) × (0 ≤ j) × (j < 0 + n) × (missing_at t n shift p.0 j ≡ Err r) × ((l : ℕ) → 0 ≤ l → l < j → missing_at t n shift p.0 l ≡ fine))
            (y k : ℕ) → k < n → Ahead y k p.0 q.0 → get_or t (start_of n y + shift + k) 0 ≡ 0 → ⊥
        earlier p q y k hk (row l) = at_fine y k (scan_each n (λ g. missing_at t n shift y g) 0 (p.4 y (omega arith) l) k (omega arith) (omega arith))
        earlier p q y k hk (column e l) = rw e (at_fine p.0 k (q.4 k (omega arith) l))

row_start : (n e : ℕ) → e * (2 * n + 4) ≤ start_of n e + 0
unfolding start_of
row_start n e = omega arith

-- Of what was read: the cells are the rows' steps, and a predecessor is there exactly where a step leads.
pub record ReadOwn (own : ℕ → ℕ → ℕ) (n room size N c : ℕ) (t : List ℕ) : Type 0 where
  pub numbers : List ℕ
  pub read : Read (own_number N own) n room size c numbers
  pub beside : TableBeside own n size c t numbers
  pub some : 1 ≤ c
  pub most : c ≤ N

module _ {own : ℕ → ℕ → ℕ} {n room size N c : ℕ} {t : List ℕ} (O : ReadOwn own n room size N c t) where
  -- A number that is read is an element's.
  pub own_inside : (e g : ℕ) → e < c → g < n → own e g ≤ c
  own_inside e g he hg = by (dec_lt N (own e g)) ((numbered_table O.read.by_rule).closed he hg) where
    by : Dec (N < own e g) → own_number N own e g < c → own e g ≤ c
    by (yes h) l = absurd (omega (arith, rw (lt-ltb N (own e g) h) at l, O.most))
    by (no h) l = let k : own e g ≤ N = omega arith in omega (arith, rw (le-ltb N (own e g) k) at l)

  pub own_number_lem : (e g : ℕ) → e < c → g < n → own_number N own e g ≡ own e g - 1
  own_number_lem e g he hg = let k : own e g ≤ N = omega (arith, own_inside e g he hg, O.most) in rw (le-ltb N (own e g) k)

  pub own_cell : (e g : ℕ) → e < c → g < n → get_or t (start_of n e + g) 0 ≡ own e g
  own_cell e g he hg = ⊎_elim
      (λ z. O.beside.missing hg z ∙ sym z)
      (λ p. O.beside.stored hg (λ z. omega arith) ∙ O.read.successor he hg ∙ ap suc (own_number_lem e g he hg) ∙ omega arith)
      (eq-zero-or-pos (own e g))

  pub own_led : (e g : ℕ) → e < c → g < n → get_or t (start_of n e + n + g) 0 ≡ 0 → NoneLeads own c e g
  own_led e g he hg z y hy o =
      let i : start_of n e + (n + g) ≡ start_of n e + n + g = omega arith in
      O.beside.arrived hg o (λ q. omega (arith, sym (own_cell y g hy hg) ∙ q)) (rw i z)

  pub own_none : (e g : ℕ) → e < c → g < n → NoneLeads own c e g → get_or t (start_of n e + n + g) 0 ≡ 0
  own_none e g he hg none = by (get_or t (start_of n e + n + g) 0) refl where
    by : (k : ℕ) → get_or t (start_of n e + n + g) 0 ≡ k → get_or t (start_of n e + n + g) 0 ≡ 0
    by zero q = q
    by (suc y) q =
        let i : start_of n e + (n + g) ≡ start_of n e + n + g = omega arith in
        let p = O.beside.back {r = e} {e = y} hg (rw i q) in
        absurd (none y p.0 p.1)

  -- What each answer of 8's search says of the rows.
  there : missing t n c 0 ≡ fine → AllThere own n c
  there h y k hy hk z = let i : start_of n y + 0 + k ≡ start_of n y + k = omega arith in (missing_fine t n c 0).0 h y hy k hk (rw i (own_cell y k hy hk ∙ z))

  pub all_there : check8 t n c ≡ fine → AllThere own n c × AllLedTo own n c
  unfolding check8
  all_there h =
      let p = (and_then_fine (missing t n c 0) (missing t n c n)).0 h in
      (there p.0, λ y k hy hk none. (missing_fine t n c n).0 p.1 y hy k hk (own_none y k hy hk none))

  -- Successors are searched in M rows, of which the first c were read.
  module _ {M : ℕ} (long : c ≤ M) where
    -- Of those no step is missing before the place that is found.
    before_there : {r : Refusal} (F : FirstZero t n M 0 r) (y h : ℕ) → y < c → h < n → Ahead y h F.element F.generator → own y h ≡ 0 → ⊥
    before_there F y h hy hh a z =
        let i : start_of n y + 0 + h ≡ start_of n y + h = omega arith in
        F.before y h (omega arith) hh a (rw i (own_cell y h hy hh ∙ z))

    first_successor : {r : Refusal} (F : FirstZero t n M 0 r) → F.element < c → BuilderLacks own n N c r
    first_successor F he =
        let e = F.element in
        let g = F.generator in
        let i : start_of n e + 0 + g ≡ start_of n e + g = omega arith in
        rw F.is
        (no_successor e g he F.column (sym (own_cell e g he F.column) ∙ (rw i at F.zero_here)) (before_there F))

  first_predecessor : {r : Refusal} → AllThere own n c → c ≡ N → FirstZero t n c n r → BuilderLacks own n N c r
  first_predecessor {r} A all F =
      rw F.is
      (no_predecessor F.element F.generator A all F.inside F.column (own_led F.element F.generator F.inside F.column F.zero_here)
      (λ y k hy hk a none. F.before y k hy hk a (own_none y k hy hk none)))

  pub lacks : {r : Refusal} → c ≡ N → check8 t n c ≡ Err r → BuilderLacks own n N c r
  unfolding check8
  lacks {r} all h = by (missing t n c 0) refl h where
    by : (v : Verdict) → missing t n c 0 ≡ v → and_then v (missing t n c n) ≡ Err r → BuilderLacks own n N c r
    by (Ok _) q p = first_predecessor (there q) all (missing_first t n c n p)
    by (Err s) q p =
        let i : s ≡ r = cc in
        let F = missing_first t n c 0 (q ∙ ap Err i) in
        first_successor (le_refl c) F F.inside

  -- Where an element is not reached, nothing stands in its row, and it is found at the latest.
  module _ (pos : 0 < n) (less : c < N) where
    row_empty : get_or t (start_of n c + 0 + 0) 0 ≡ 0
    row_empty =
        let i : start_of n c + 0 + 0 ≡ start_of n c + 0 = omega arith in
        rw i (⊎_elim (λ z. O.beside.missing pos z) (λ p. O.beside.stored pos (λ z. omega arith) ∙ O.read.beyond (row_start n c)) (eq-zero-or-pos (own c 0)))

    first_unreached : {r : Refusal} → FirstZero t n N 0 r → BuilderLacks own n N c r
    first_unreached {r} F = by (places F.element F.generator c 0) where
      by : Places F.element F.generator c 0 → BuilderLacks own n N c r
      by (sooner (row l)) = first_successor O.most F l
      by (sooner (column e l)) = absurd (omega arith)
      by (same p q) =
          let i : r ≡ numbered 8 c 0 0 = F.is ∙ rw (p, q) in
          rw i (not_reached (λ y h hy hh. before_there O.most F y h hy hh (row (omega arith))) pos less)
      by (later a) = absurd (F.before c 0 less pos a row_empty)

    pub unreached : {r : Refusal} → check8 t n N ≡ Err r → BuilderLacks own n N c r
    unfolding check8
    unreached {r} h = by (missing t n N 0) refl h where
      by : (v : Verdict) → missing t n N 0 ≡ v → and_then v (missing t n N n) ≡ Err r → BuilderLacks own n N c r
      by (Ok _) q p = absurd ((missing_fine t n N 0).0 q c less 0 pos row_empty)
      by (Err s) q p = let i : s ≡ r = cc in first_unreached (missing_first t n N 0 (q ∙ ap Err i))

    pub never_fine : check8 t n N ≡ fine → ⊥
    unfolding check8
    never_fine h = (missing_fine t n N 0).0 ((and_then_fine (missing t n N 0) (missing t n N n)).0 h).0 c less 0 pos row_empty

-- It is one refusal.
module _ {own : ℕ → ℕ → ℕ} {n N c : ℕ} where
  pub lacks_once : {r r' : Refusal} → BuilderLacks own n N c r → BuilderLacks own n N c r' → r ≡ r'
  lacks_once (no_successor e g he hg z b) (no_successor e' g' he' hg' z' b') = by (places e g e' g') where
    by : Places e g e' g' → numbered 8 e g 0 ≡ numbered 8 e' g' 0
    by (sooner a) = absurd (b' e g he hg a z)
    by (same p q) = rw (p, q)
    by (later a) = absurd (b e' g' he' hg' a z')
  lacks_once (no_successor e g he hg z b) (not_reached A pos less) = absurd (A e g he hg z)
  lacks_once (no_successor e g he hg z b) (no_predecessor e' g' A all he' hg' x b') = absurd (A e g he hg z)
  lacks_once (not_reached A pos less) (no_successor e g he hg z b) = absurd (A e g he hg z)
  lacks_once (not_reached A pos less) (not_reached A' pos' less') = refl
  lacks_once (not_reached A pos less) (no_predecessor e g A' all he hg x b) = absurd (omega arith)
  lacks_once (no_predecessor e g A all he hg x b) (no_successor e' g' he' hg' z b') = absurd (A e' g' he' hg' z)
  lacks_once (no_predecessor e g A all he hg x b) (not_reached A' pos less) = absurd (omega arith)
  lacks_once (no_predecessor e g A all he hg x b) (no_predecessor e' g' A' all' he' hg' x' b') = by (places e g e' g') where
    by : Places e g e' g' → numbered 8 e g 0 ≡ numbered 8 e' g' 0
    by (sooner a) = absurd (b' e g he hg a x)
    by (same p q) = rw (p, q)
    by (later a) = absurd (b e' g' he' hg' a x')

  -- And its number is 8.
  pub lacks_8 : {r : Refusal} → BuilderLacks own n N c r → (refusal_paper r).number ≡ 8
  lacks_8 (no_successor e g he hg z b) = refl
  lacks_8 (not_reached A pos less) = refl
  lacks_8 (no_predecessor e g A all he hg x b) = refl
