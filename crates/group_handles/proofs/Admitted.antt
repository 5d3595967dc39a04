-- Laws of the refusals before any reading, one for each answer; and what is known where a call goes on.
use Prim.Native.Nat.{ℕ, ◌%◌, ◌≤◌, ◌<◌}
use mathlib.Core.Path.{◌≡◌, refl, sym, ap, ◌∙◌}
use mathlib.Core.Bool.{Bool, true, false, ◌&&◌}
use mathlib.Core.List.{List}
use native.Mathlib.Omega.{arith}
use borrow.Author.Tests.{le-leb, lt-leb, leb-true, leb-false}
use lib.Dec.{leb}
use Rattle.egg.specs.declared.Refusal.{Refusal}
use Rattle.egg.specs.Answers.{Verdict, fine}
use Rattle.std.specs.Prelude.{Err}
use Rattle.egg.specs.Scan.{refused_of}
use Rattle.egg.proofs.Rooms.{and_first, and_second}
use Rattle.group_handles.specs.declared.Group.{Group}
use Rattle.egg.specs.declared.Factor.{Factor}
use Rattle.group_handles.specs.declared.inner.Seen.{Seen}
use Rattle.group_handles.specs.declared.inner.Limit.{Limit}
use Rattle.group_handles.specs.declared.inner.Limit.TheVariants.{Elements, Generators, Number}
use Rattle.group_handles.specs.Handles.{handles, elements_of, all_fit, capped, seen, limit_of, limit_seen, limited, in_order, admits, admits_seen, Looked}
use Rattle.group_handles.proofs.Caps.{cap_beyond, cap_within, cap_small}

module _ (g : Group) where
  pub limited_many : 8 < g.count → limited g ≡ false
  unfolding limited
  limited_many h = simp (lt-leb _ _ h)

  pub limited_elements : g.count ≤ 8 → {r : ℕ} → r ≡ capped (elements_of (handles g)) → leb r 4294967295 ≡ limited g
  unfolding limited
  limited_elements h q = rw (cap_within (elements_of (handles g)) q) (simp (le-leb _ _ h))

  module _ (h : limited g ≡ true) where
    pub few_factors_lem : g.count ≤ 8
    unfolding limited
    few_factors_lem = leb-true _ _ (and_first _ _ h)

    pub few_elements : elements_of (handles g) ≤ 4294967295
    unfolding limited
    few_elements = leb-true _ _ (and_second (leb g.count 8) _ h)

refusal_fine : {r : Refusal} → Err r ≡ fine → ⊥
refusal_fine q = let z : ◌≡◌ {A = ℕ} 0 1 = cc in omega arith

-- Where a call goes on.
pub record Goes (len : ℕ) (g : Group) (a la b lb : ℕ) : Type 0 where
  pub fits : all_fit len (handles g) ≡ true
  pub first : a < la
  pub second : b < lb
  pub within : limited g ≡ true

module _ (len : ℕ) (g : Group) (a la b lb : ℕ) where
  pub admits_handle : all_fit len (handles g) ≡ false → refused_of 17 0 0 0 ≡ admits len g a la b lb
  unfolding admits
  admits_handle h = rw h

  module _ (fits : all_fit len (handles g) ≡ true) where
    pub admits_first : la ≤ a → refused_of 14 0 0 0 ≡ admits len g a la b lb
    unfolding admits
    admits_first h = rw fits (simp (le-leb _ _ h))

    module _ (h : a < la) where
      pub admits_second : lb ≤ b → refused_of 14 1 0 0 ≡ admits len g a la b lb
      unfolding admits
      admits_second k = rw fits (simp (lt-leb _ _ h, le-leb _ _ k))

      module _ (k : b < lb) where
        pub admits_large : limited g ≡ false → refused_of 15 0 0 0 ≡ admits len g a la b lb
        unfolding admits
        admits_large z = rw fits (simp (lt-leb _ _ h, lt-leb _ _ k) (rw z))

        pub admits_fine : limited g ≡ true → fine ≡ admits len g a la b lb
        unfolding admits
        admits_fine z = rw fits (simp (lt-leb _ _ h, lt-leb _ _ k) (rw z))

  goes : admits len g a la b lb ≡ fine → Goes len g a la b lb
  goes q = by (all_fit len (handles g)) (leb la a) (leb lb b) (limited g) refl refl refl refl where
    by : (w x y z : Bool) → all_fit len (handles g) ≡ w → leb la a ≡ x → leb lb b ≡ y → limited g ≡ z → Goes len g a la b lb
    by false x y z p h k l = absurd (refusal_fine (admits_handle p ∙ q))
    by true true y z p h k l = absurd (refusal_fine (admits_first p (leb-true _ _ h) ∙ q))
    by true false true z p h k l = absurd (refusal_fine (admits_second p (leb-false _ _ h) (leb-true _ _ k) ∙ q))
    by true false false false p h k l = absurd (refusal_fine (admits_large p (leb-false _ _ h) (leb-false _ _ k) l ∙ q))
    by true false false true p h k l = record { fits = p; first = leb-false _ _ h; second = leb-false _ _ k; within = l }

  pub goes_on : {v : Verdict} → v ≡ admits len g a la b lb → v ≡ fine → Goes len g a la b lb
  goes_on q e = goes (sym q ∙ e)

  -- What the work of a call asks for.
  pub ready : {v : Verdict} → v ≡ admits len g a la b lb → v ≡ fine → (all_fit len (handles g) ≡ true) × (elements_of (handles g) ≤ 4294967295)
  ready q e = let G : Goes len g a la b lb = goes_on q e in (G.fits, few_elements g G.within)

-- A limit as far as 32 bits can tell does as well.
pub same_limit : (len : ℕ) (hs : List Factor) {s : Seen} → s ≡ seen len hs → {a : ℕ} → a < 4294967296 → (l : Limit) → leb (limit_seen s l) a ≡ leb (limit_of hs l) a
same_limit len hs q {a} h Elements = rw q (cap_beyond (elements_of hs) a h)
same_limit len hs q h Generators = rw q
same_limit len hs q h (Number k) = refl

pub looked : (len : ℕ) (hs : List Factor) {s : Seen} → s ≡ seen len hs → Looked len hs s
looked len hs q = record { fits = ap (λ (x : Seen). x.fit) q; whole = λ f. ap (λ (x : Seen). x.elements) q }

-- What was seen decides as the handles do, and where one does not fit that alone decides.
same_order : (f : Bool) {fits x first y second z within : Bool} → f ≡ fits → (f ≡ true → x ≡ first) → (f ≡ true → y ≡ second) → (f ≡ true → z ≡ within)
    → in_order f x y z ≡ in_order fits first second within
same_order true p q r o = rw (← p, q refl, r refl, o refl)
same_order false p q r o = rw (← p)

module _ {len : ℕ} (g : Group) {s : Seen} (w : Looked len (handles g) s) where
  pub elements_seen : {a : ℕ} → a < 4294967296 → s.fit ≡ true → leb s.elements a ≡ leb (elements_of (handles g)) a
  elements_seen {a} h f = ap (λ (x : ℕ). leb x a) (w.whole f) ∙ cap_beyond (elements_of (handles g)) a h

  within_seen : s.fit ≡ true → leb g.count 8 && leb s.elements 4294967295 ≡ limited g
  unfolding limited
  within_seen f = ap (λ (x : Bool). leb g.count 8 && x) (cap_within (elements_of (handles g)) (w.whole f))

  pub admits_seen_lem : (a : ℕ) (la : Limit) (m b : ℕ) (lb : Limit) (n : ℕ) {v : Verdict} → v ≡ admits_seen s g.count a la b lb → (s.fit ≡ true → leb (limit_seen s la) a ≡ leb m a)
      → (s.fit ≡ true → leb (limit_seen s lb) b ≡ leb n b) → v ≡ admits len g a m b n
  unfolding admits admits_seen
  admits_seen_lem a la m b lb n q x y = q ∙ same_order s.fit w.fits x y within_seen

-- 17 and 15 by what was seen.
pub seen_fit : (len : ℕ) (g : Group) {s : Seen} → s ≡ seen len (handles g) → {b : Bool} → s.fit ≡ b → all_fit len (handles g) ≡ b
seen_fit len g q e = ap (λ (x : Seen). x.fit) (sym q) ∙ e

module _ (g : Group) {m : ℕ} (q : m ≡ capped (elements_of (handles g))) where
  pub seen_few : g.count ≤ 8 → m ≤ 4294967295 → limited g ≡ true
  seen_few h k = sym (limited_elements g h q) ∙ le-leb _ _ k

  pub seen_many : g.count ≤ 8 → 4294967295 < m → limited g ≡ false
  seen_many h k = sym (limited_elements g h q) ∙ lt-leb _ _ k

module _ (len : ℕ) (g : Group) (a : ℕ) {m n : ℕ} (p : m ≡ n) where
  pub first_is : (b lb : ℕ) {v : Verdict} → v ≡ admits len g a m b lb → v ≡ admits len g a n b lb
  first_is b lb q = q ∙ ap (λ (l : ℕ). admits len g a l b lb) p

  pub second_is : (b lb : ℕ) {v : Verdict} → v ≡ admits len g b lb a m → v ≡ admits len g b lb a n
  second_is b lb q = q ∙ ap (λ (l : ℕ). admits len g b lb a l) p

pub count_told : {n r : ℕ} → r ≡ capped n → n ≤ 4294967295 → r % 4294967296 ≡ n
count_told {n} {r} q h = let z : r ≡ n = q ∙ cap_small h in omega (arith, z)
