-- A numbering into a table and two maps does, place by place, what a reading of the numbered step does.
use Prim.Native.Nat.{ℕ, zero, suc, ◌+◌, ◌<◌, ◌≤◌}
use mathlib.Core.Path.{◌≡◌, refl, sym, ◌∙◌, ap}
use mathlib.Core.Logic.{⊎_elim}
use mathlib.Core.List.{List}
use native.Mathlib.Decide.{dec_lt}
use native.Mathlib.Omega.{arith}
use borrow.Author.Tests.{lt-ltb, le-ltb}
use lib.ListN.{get_or, replicate, length-replicate, get_or-replicate}
use Rattle.egg.specs.Answers.{Reached}
use Rattle.std.specs.Prelude.{Ok, Err}
use Rattle.egg.specs.Table.{put_at}
use Rattle.egg.proofs.Cells.{put_same, put_other, put_length}
use Rattle.build_reading.specs.Build.{adds}
use Rattle.build_reading.specs.Reading.{Placed, placed, then_placed, read_place, read_row, read_from, read_all}
use Rattle.build_reading.proofs.Readings.{added_within, place_known, place_refused, place_new}
use Rattle.theory.specs.Numbering.{Known, start, old, new, next_row, Numbered}
use Rattle.theory.specs.Appearance.{row}
use Rattle.theory.proofs.BoundedTests.{below_suc}
use Rattle.theory.proofs.Places.{ahead_row}
use Rattle.theory.proofs.Counting.{row_known}
use Rattle.theory.proofs.RuleLaws.{no_skip, count_within}
use Rattle.theory.proofs.Reading.{numbered_once}
use Rattle.theory.specs.Orbit.{Inside, numbered_step, Appearing}
use Rattle.build_numbering.specs.Renumber.{no_number, Mapped, mapped, then_mapped, map_place, map_from, map_row, map_rows, map_all}
use Rattle.build_numbering_laws.specs.Source.{Answering}
use Rattle.build_numbering_laws.specs.Maps.{MapsFilled}
use Rattle.build_numbering_laws.proofs.Order.{number_is, step_outside}
use Rattle.build_numbering.proofs.PlaceLaws.{map_known, map_refused, map_new}
use Rattle.build_reading_laws.proofs.Runs.{zeros}

-- A numbering came to the same as a reading; after a count B holds of the maps.
abbrev pub Agree : (ℕ → List ℕ → List ℕ → Type 0) → Placed → Mapped → Type 0
Agree B p (mapped (placed (Ok c) t) inn outw) = (p ≡ placed (Ok c) t) × B c inn outw
Agree B p (mapped (placed (Err r) t) inn outw) = p ≡ placed (Err r) t

then_agree : (B C : ℕ → List ℕ → List ℕ → Type 0) (p : Placed) (m : Mapped) (f : ℕ → List ℕ → Placed) (h : ℕ → List ℕ → List ℕ → List ℕ → Mapped)
    → Agree B p m → ((c : ℕ) (t inn outw : List ℕ) → B c inn outw → Agree C (f c t) (h c t inn outw)) → Agree C (then_placed p f) (then_mapped m h)
then_agree B C p (mapped (placed (Ok c) t) inn outw) f h a k = rw a.0 (k c t inn outw a.1)
then_agree B C p (mapped (placed (Err r) t) inn outw) f h a k = rw a

module _ {n M : ℕ} {out : ℕ → ℕ → ℕ} {x₀ N : ℕ} {elt : ℕ → ℕ} (A : Appearing n M out x₀ N elt) (small : M ≤ 4294967295)
    (room K : ℕ) (limited : room ≤ 65535) (lent : room ≤ K) where
  abbrev src : ℕ → ℕ → ℕ
  src = numbered_step N elt out

  -- What holds when row e is to be read from column g on and c elements are known.
  pub record Before (e g c : ℕ) (inn outw : List ℕ) : Type 0 where
    pub known : Known n (numbered_step N elt out) e g c
    pub filled : MapsFilled M room K elt c inn outw

  module _ {e g c : ℕ} {inn outw : List ℕ} (S : Before e g c inn outw) (hg : g < n) where
    within_all : c ≤ N
    within_all = count_within A.by_rule S.known

    row_in : e < c
    row_in = row_known S.known

    pub inside : elt e < M
    inside = A.below (omega (arith, row_in, within_all))

    -- It never skips ahead.
    no_more : src e g ≤ c
    no_more = no_skip S.known hg A.by_rule.known (ahead_row hg (row (omega (arith, row_in, within_all, A.by_rule.last_row))))

    outside : elt (src e g) ≡ out (elt e) g
    outside = step_outside A (omega (arith, row_in, within_all)) hg

    number_there : src e g < c → src e g ≡ get_or inn (out (elt e) g) 0
    number_there h = sym (ap (λ x. get_or inn x 0) (sym outside) ∙ S.filled.numbers h)

    no_number_lem : out (elt e) g < M → ¬ (src e g < c) → no_number ≡ get_or inn (out (elt e) g) 0
    no_number_lem hx f = sym (S.filled.others hx (λ i l q.
        f (omega (arith, number_is N elt (out (elt e) g) i (λ d e. A.once) (omega (arith, within_all)) q))))

    -- A new element in both maps.
    module _ (hc : c < room) (is : src e g ≡ c) (hx : out (elt e) g < M) where
      there : elt c ≡ out (elt e) g
      there = ap elt (sym is) ∙ outside

      c_below : c < N
      c_below = omega (arith, is, count_within A.by_rule (new S.known hg is))

      numbers₁ : {i : ℕ} → i < suc c → get_or (put_at inn (out (elt e) g) c) (elt i) 0 ≡ i
      numbers₁ {i} h = ⊎_elim
          (λ q. ap (λ x. get_or (put_at inn (out (elt e) g) c) x 0) (ap elt q ∙ there)
          ∙ put_same inn (out (elt e) g) c (omega (arith, S.filled.inn_size)) (omega arith) ∙ sym q)
          (λ l. put_other inn (out (elt e) g) c (λ q. omega (arith, A.once (omega (arith, c_below)) c_below (q ∙ sym there)))
          ∙ S.filled.numbers l)
          (below_suc h)

      others₁ : {x : ℕ} → x < M → ((i : ℕ) → i < suc c → elt i ≡ x → ⊥) → get_or (put_at inn (out (elt e) g) c) x 0 ≡ no_number
      others₁ {x} h f =
          put_other inn (out (elt e) g) c (λ q. f c (omega arith) (there ∙ sym q))
          ∙ S.filled.others h (λ i l q. f i (omega arith) q)

      elements₁ : {i : ℕ} → i < suc c → get_or (put_at outw c (out (elt e) g)) i 0 ≡ elt i
      elements₁ {i} h = ⊎_elim
          (λ q. ap (λ k. get_or (put_at outw c (out (elt e) g)) k 0) q
          ∙ put_same outw c (out (elt e) g) (omega (arith, S.filled.outw_size)) (omega arith) ∙ sym there ∙ ap elt (sym q))
          (λ l. put_other outw c (out (elt e) g) (λ q. omega arith) ∙ S.filled.elements l)
          (below_suc h)

      filled₁ : MapsFilled M room K elt (suc c) (put_at inn (out (elt e) g) c) (put_at outw c (out (elt e) g))
      filled₁ = record {
        within = hc;
        inn_size = put_length inn _ _ ∙ S.filled.inn_size;
        outw_size = put_length outw _ _ ∙ S.filled.outw_size;
        numbers = numbers₁;
        others = others₁;
        elements = elements₁;
        beyond = λ {e = i} h. put_other outw c (out (elt e) g) (λ q. omega arith) ∙ S.filled.beyond (omega arith);
      }

      before₁ : Before e (suc g) (c + 1) (put_at inn (out (elt e) g) c) (put_at outw c (out (elt e) g))
      before₁ = let p : c + 1 ≡ suc c = omega arith in rw p (record { known = new S.known hg is; filled = filled₁ })

    -- One place.
    pub place_follows : (t : List ℕ) → out (elt e) g < M
        → Agree (Before e (suc g)) (read_place t n room c e g (src e g)) (map_place t inn outw n room c e g (out (elt e) g))
    place_follows t hx = go (dec_lt (src e g) c) where
      fresh : src e g ≡ c → no_number ≡ get_or inn (out (elt e) g) 0 → (a : Reached) → a ≡ (adds t n room c (record { 0 = e }) (record { 0 = g })).answer
          → Agree (Before e (suc g)) (read_place t n room c e g (src e g)) (map_place t inn outw n room c e g (out (elt e) g))
      fresh is k (Err r) q = rw (
        ← (map_refused t inn outw n room c e g (out (elt e) g) k refl q refl refl),
        ← (place_refused t n room c e g (src e g) (omega arith) (omega arith) q refl refl),
      ) refl
      fresh is k (Ok y) q =
          let h : c < room = added_within t n room c (record { 0 = e }) (record { 0 = g }) q refl in
          rw (
            ← (map_new t inn outw n room c e g (out (elt e) g) k refl q refl refl),
            ← (place_new t n room c e g (src e g) (omega arith) (omega arith) q refl refl),
          ) (refl, before₁ h is hx)

      go : Dec (src e g < c) → Agree (Before e (suc g)) (read_place t n room c e g (src e g)) (map_place t inn outw n room c e g (out (elt e) g))
      go (yes h) =
          let f : src e g ≡ no_number → ⊥ = λ q. omega (arith, S.filled.within) in
          rw (
            ← (map_known t inn outw n room c e g (out (elt e) g) (number_there h) f),
            ← (place_known t n room c e g (src e g) h),
          ) (refl, record { known = old S.known hg h; filled = S.filled })
      go (no f) = fresh (omega (arith, no_more)) (no_number_lem hx f) (adds t n room c (record { 0 = e }) (record { 0 = g })).answer refl

  -- A source that gives these steps within the set.
  module _ (I : Inside n M out x₀) (source : ℕ → ℕ → Reached) (answering : Answering n M out source) where
    from_follows : {e g c : ℕ} {inn outw : List ℕ} (t : List ℕ) (S : Before e g c inn outw) → g < n
        → Agree (Before e (suc g)) (read_place t n room c e g (src e g)) (map_from (source (get_or outw e 0) g) t inn outw n room c e g)
    from_follows t S hg =
        let h = inside S hg in
        rw (S.filled.elements (row_known S.known), answering.answers h hg) (place_follows S hg t (I.closed h hg))

    -- The k places that are left of row e.
    row_follows : (k : ℕ) {e g c : ℕ} {inn outw : List ℕ} (t : List ℕ) → g + k ≡ n → Before e g c inn outw
        → Agree (Before e n) (read_row k src n room e g c t) (map_row k source n room e g c t inn outw)
    unfolding read_row map_row
    row_follows zero {e} {g} {c} t q S = let p : g ≡ n = omega arith in (refl, rw p at S)
    row_follows (suc k) {e} {g} {c} {inn} {outw} t q S =
        let p : g + 1 ≡ suc g = omega arith in
        then_agree (Before e (suc g)) (Before e n) (read_place t n room c e g (src e g)) (map_from (source (get_or outw e 0) g) t inn outw n room c e g) _ _
        (from_follows t S (omega arith)) (λ c' t' inn' outw' S'. rw p (row_follows k {g = suc g} t' (omega arith) S'))

    abbrev Whole : ℕ → List ℕ → List ℕ → Type 0
    Whole c inn outw = (c ≡ N) × MapsFilled M room K elt c inn outw

    ends_here : (k e c : ℕ) (t inn outw : List ℕ) → c ≤ e → Whole c inn outw
        → Agree Whole (read_from k src n room e c t) (map_rows k source n room e c t inn outw)
    unfolding read_from map_rows
    ends_here zero e c t inn outw h W = (refl, W)
    ends_here (suc k) e c t inn outw h W = rw (le-ltb e c h) (refl, W)

    -- The rows from e on; k of them are enough.
    rows_follow : (k : ℕ) {e c : ℕ} {inn outw : List ℕ} (t : List ℕ) → room ≤ e + k → Before e 0 c inn outw
        → Agree Whole (read_from k src n room e c t) (map_rows k source n room e c t inn outw)
    unfolding read_from map_rows
    rows_follow zero {e} {c} t h S = absurd (omega (arith, row_known S.known, S.filled.within))
    rows_follow (suc k) {e} {c} {inn} {outw} t h S =
        rw (lt-ltb e c (row_known S.known))
        (then_agree (Before e n) Whole (read_row n src n room e 0 c t) (map_row n source n room e 0 c t inn outw) _ _ (row_follows n t (omega arith) S)
        (λ c' t' inn' outw' S'. go c' t' inn' outw' S' (λ S₂. rows_follow k {e = suc e} t' (omega arith) S₂) (dec_lt (suc e) c')))
      where
        go : (c' : ℕ) (t' inn' outw' : List ℕ) → Before e n c' inn' outw'
            → (Before (suc e) 0 c' inn' outw' → Agree Whole (read_from k src n room (suc e) c' t') (map_rows k source n room (suc e) c' t' inn' outw'))
            → Dec (suc e < c') → Agree Whole (read_from k src n room (e + 1) c' t') (map_rows k source n room (e + 1) c' t' inn' outw')
        go c' t' inn' outw' S' ih (yes l) =
            let p : e + 1 ≡ suc e = omega arith in
            rw p (ih (record { known = next_row S'.known l; filled = S'.filled }))
        go c' t' inn' outw' S' ih (no l) =
            let R : Numbered n c' src = record { end = e; last_row = omega (arith, row_known S'.known); known = S'.known } in
            ends_here k (e + 1) c' t' inn' outw' (omega arith) (numbered_once R A.by_rule, S'.filled)

    nothing_there : (size v i : ℕ) → i < size → get_or (replicate {A = ℕ} size v) i 0 ≡ v
    nothing_there size v i h = get_or-replicate size i v 0 h

    at_first : {e : ℕ} → e < 1 → elt e ≡ x₀
    at_first {e} h = let q : e ≡ 0 = omega arith in ap elt q ∙ A.first

    pub at_start_lem : 1 ≤ room → Before 0 0 1 (put_at (replicate M no_number) x₀ 0) (put_at (replicate K 0) 0 x₀)
    at_start_lem lo =
        let lm = length-replicate {A = ℕ} M no_number in
        let lr = length-replicate {A = ℕ} K 0 in
        record {
          known = start;
          filled = record {
            within = lo;
            inn_size = put_length (replicate M no_number) x₀ 0 ∙ lm;
            outw_size = put_length (replicate K 0) 0 x₀ ∙ lr;
            numbers = λ {e} h. ap (λ x. get_or (put_at (replicate M no_number) x₀ 0) x 0) (at_first h)
                ∙ put_same (replicate M no_number) x₀ 0 (omega (arith, lm, I.here)) (omega arith) ∙ omega arith;
            others = λ {x} h f. put_other (replicate M no_number) x₀ 0 (λ q. f 0 (omega arith) (A.first ∙ sym q)) ∙ nothing_there M no_number x h;
            elements = λ {e} h.
                let q : e ≡ 0 = omega arith in
                ap (λ i. get_or (put_at (replicate K 0) 0 x₀) i 0) q
                ∙ put_same (replicate K 0) 0 x₀ (omega (arith, lr)) (omega (arith, I.here)) ∙ sym (at_first h);
            beyond = λ {e} h. put_other (replicate K 0) 0 x₀ (λ q. omega arith) ∙ zeros K e;
          };
        }

    -- The whole reading.
    pub all_follows : 1 ≤ room → (t : List ℕ)
        → Agree (λ c inn outw. (c ≡ N) × MapsFilled M room K elt c inn outw) (read_all (numbered_step N elt out) n room t) (map_all source n room M K x₀ t)
    all_follows lo t = rows_follow room t (omega arith) (at_start_lem lo)
