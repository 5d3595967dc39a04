-- A source that may refuse: the numbering is that of the steps which it gives, each place that is read being answered; or it is refused as the source was, at the
-- first place that is read and not answered. Nothing else is assumed of the source than that its answers are in range; so this holds of an altered buffer too.
use Prim.Native.Nat.{ℕ, zero, suc, ◌+◌, ◌*◌, ◌<◌, ◌≤◌}
use mathlib.Core.Path.{◌≡◌, refl, sym, ◌∙◌, ap, subst}
use mathlib.Core.Logic.{◌⊎◌, inl, inr, ⊎_elim}
use mathlib.Core.Bool.{Bool, true, false}
use mathlib.Core.List.{List}
use native.Mathlib.Decide.{dec_lt}
use native.Mathlib.Omega.{arith}
use borrow.Author.Tests.{lt-ltb, le-ltb}
use lib.ListN.{get_or, replicate}
use lib.Dec.{leb, ltb}
use Rattle.egg.specs.declared.Refusal.{Refusal}
use Rattle.egg.specs.declared.GroupElementId.{GroupElementId}
use Rattle.egg.specs.declared.GeneratorId.{GeneratorId}
use Rattle.egg.specs.Answers.{Reached}
use Rattle.egg.specs.Refusals.{refusal_paper}
use Rattle.std.specs.Prelude.{Ok, Err}
use Rattle.egg.specs.Table.{pick, length_of}
use Rattle.build_reading.specs.Build.{Adds, adds}
use Rattle.egg.specs.Answers.{numbered}
use Rattle.build_reading.specs.Reading.{placed, on_adds, read_place}
use Rattle.build_lending.specs.Finish.{built, zeroed, finished}
use Rattle.build_reading_laws.specs.Read.{Stops, skips_ahead, no_room, long_word, Readable, ReadSoFar, ReadingRefused}
use Rattle.build_reading_laws.proofs.ReadingState.{ReadingState, On, read_place_lem}
use Rattle.build_reading_laws.proofs.Runs.{state_start, state_row}
use Rattle.theory.proofs.Places.{ahead_column, ahead_row, nothing_ahead}
use Rattle.theory.proofs.Counting.{row_known}
use Rattle.theory.proofs.Reading.{numbered_once}
use Rattle.build_numbering.specs.Build.{renumbering, finished_mapped, renumber_in}
use Rattle.theory.specs.Orbit.{Inside, numbered_step, Appearing}
use Rattle.build_numbering.specs.Renumber.{Mapped, mapped, then_mapped, map_place, map_from, map_row, map_rows, map_all}
use Rattle.build_numbering_laws.specs.Source.{Answering, Ranged, answered, out_of, total, AnsweredTo, AllAnswered, whole, until, RefusedAt}
use Rattle.build_numbering_laws.specs.Maps.{MapsFilled}
use Rattle.build_numbering_laws.proofs.Following.{Agree, Before, inside, place_follows, at_start_lem}

module _ {n M : ℕ} {source : ℕ → ℕ → Reached} (R : Ranged n M source) (x₀ : ℕ) (here : x₀ < M) where
  pub ranged_inside : Inside n M (out_of x₀ source) x₀
  ranged_inside = record { here = here; closed = λ {x} {g} hx hg. go (source x g) (λ y q. R.ranged {y = y} hx hg q) } where
    go : (r : Reached) → ((y : GroupElementId) → r ≡ Ok y → y.0 < M) → answered x₀ r < M
    go (Ok y) f = f y refl
    go (Err r) f = here

pub total_answering : (n M : ℕ) (source : ℕ → ℕ → Reached) (x₀ : ℕ) → Answering n M (out_of x₀ source) (total source x₀)
total_answering n M source x₀ = record { answers = λ hx hg. refl }

-- A refusal while a place is read has that place's element and generator.
adds_at : (t : List ℕ) (n room count : ℕ) (e : GroupElementId) (g : GeneratorId) {r : Refusal} → (adds t n room count e g).answer ≡ Err r
    → ((refusal_paper r).a ≡ e.0) × ((refusal_paper r).b ≡ g.0)
unfolding adds
adds_at t n room count e g {r} q = go (leb room count) (leb 4096 (length_of t n e.0)) _ _ q where
  go : (a b : Bool) (x : GroupElementId) (l : List ℕ)
      → (pick {A = Adds} a (record { answer = Err (numbered 5 e.0 g.0 0); table = t })
      (pick b (record { answer = Err (numbered 6 e.0 g.0 0); table = t }) (record { answer = Ok x; table = l }))).answer
      ≡ Err r → ((refusal_paper r).a ≡ e.0) × ((refusal_paper r).b ≡ g.0)
  go true b x l q = let i : numbered 5 e.0 g.0 0 ≡ r = cc in rw (← i) (refl, refl)
  go false true x l q = let i : numbered 6 e.0 g.0 0 ≡ r = cc in rw (← i) (refl, refl)
  go false false x l q = let z : ◌≡◌ {A = ℕ} 0 1 = cc in absurd (omega arith)

place_at_lem : (t : List ℕ) (n room c e g v : ℕ) {r : Refusal} {t' : List ℕ} → read_place t n room c e g v ≡ placed (Err r) t' → ((refusal_paper r).a ≡ e) × ((refusal_paper r).b ≡ g)
unfolding read_place
place_at_lem t n room c e g v {r} {t'} q =
    go (ltb c v) (ltb v c) (adds t n room c (record { 0 = e }) (record { 0 = g })) _ (λ h. adds_at t n room c (record { 0 = e }) (record { 0 = g }) h) q
  where
    by : (x : Adds) → (x.answer ≡ Err r → ((refusal_paper r).a ≡ e) × ((refusal_paper r).b ≡ g)) → (y : Reached) → x.answer ≡ y
        → on_adds c y x.table ≡ placed (Err r) t' → ((refusal_paper r).a ≡ e) × ((refusal_paper r).b ≡ g)
    by x f (Ok y) p h = let z : ◌≡◌ {A = ℕ} 0 1 = cc in absurd (omega arith)
    by x f (Err s) p h = let i : s ≡ r = cc in f (p ∙ ap Err i)

    go : (a b : Bool) (x : Adds) (l : List ℕ) → (x.answer ≡ Err r → ((refusal_paper r).a ≡ e) × ((refusal_paper r).b ≡ g))
        → pick a (placed (Err (numbered 7 e g v)) t) (pick b (placed (Ok c) l) (on_adds c x.answer x.table)) ≡ placed (Err r) t'
        → ((refusal_paper r).a ≡ e) × ((refusal_paper r).b ≡ g)
    go true b x l f h = let i : numbered 7 e g v ≡ r = cc in rw (← i) (refl, refl)
    go false true x l f h = let z : ◌≡◌ {A = ℕ} 0 1 = cc in absurd (omega arith)
    go false false x l f h = by x f x.answer refl h

stops_at : {src : ℕ → ℕ → ℕ} {n room x g c : ℕ} {r : Refusal} → Stops src n room x g c r → ((refusal_paper r).a ≡ x) × ((refusal_paper r).b ≡ g)
stops_at (skips_ahead l) = (refl, refl)
stops_at (no_room p q) = (refl, refl)
stops_at (long_word p q w) = (refl, refl)

answered_so : (x₀ : ℕ) (r : Reached) {y : GroupElementId} → r ≡ Ok y → r ≡ Ok (record { 0 = answered x₀ r })
answered_so x₀ r q = rw q refl

ends : (k : ℕ) (source : ℕ → ℕ → Reached) (n room e c : ℕ) (t inn outw : List ℕ) → c ≤ e
    → map_rows k source n room e c t inn outw ≡ mapped (placed (Ok c) t) inn outw
unfolding map_rows
ends zero source n room e c t inn outw h = refl
ends (suc k) source n room e c t inn outw h = rw (le-ltb e c h)

module _ {n M : ℕ} (source : ℕ → ℕ → Reached) (x₀ : ℕ) {N : ℕ} {elt : ℕ → ℕ} (A : Appearing n M (out_of x₀ source) x₀ N elt)
    (I : Inside n M (out_of x₀ source) x₀) (small : M ≤ 4294967295) (room K : ℕ) (lo : 1 ≤ room) (hi : room ≤ 65535) (lent : room ≤ K) (size : ℕ)
    (few : n ≤ 8) (fits : room * (2 * n + 4) ≤ size) where
  abbrev src : ℕ → ℕ → ℕ
  src = numbered_step N elt (out_of x₀ source)

  -- What holds when row e is to be read from column g on and c elements are known.
  record Here (e g c : ℕ) (t inn outw : List ℕ) : Type 0 where
    state : ReadingState (numbered_step N elt (out_of x₀ source)) n room size e g c t
    filled : MapsFilled M room K elt c inn outw
    answered_to : AnsweredTo source x₀ n elt e g

  -- The reading of the source m, and that of its steps m': they come to the same, with all places answered until there; or the source was met refusing.
  data Came (B : ℕ → List ℕ → List ℕ → List ℕ → Type 0) (m m' : Mapped) : Type 0 where
    counts : {c : ℕ} {t inn outw : List ℕ} → m ≡ mapped (placed (Ok c) t) inn outw → m' ≡ mapped (placed (Ok c) t) inn outw → B c t inn outw
        → Came B m m'
    stops : {r : Refusal} {t inn outw : List ℕ} → m ≡ mapped (placed (Err r) t) inn outw → m' ≡ mapped (placed (Err r) t) inn outw
        → AllAnswered source x₀ n room N elt → Came B m m'
    breaks : {r : Refusal} {t inn outw : List ℕ} → m ≡ mapped (placed (Err r) t) inn outw → RefusedAt source x₀ n room N elt r → Came B m m'

  then_came : {B C : ℕ → List ℕ → List ℕ → List ℕ → Type 0} (m m' : Mapped) (f h : ℕ → List ℕ → List ℕ → List ℕ → Mapped) → Came B m m'
      → ((c : ℕ) (t inn outw : List ℕ) → B c t inn outw → Came C (f c t inn outw) (h c t inn outw)) → Came C (then_mapped m f) (then_mapped m' h)
  then_came m m' f h (counts {c} {t} {inn} {outw} p q b) k = rw (p, q) (k c t inn outw b)
  then_came m m' f h (stops p q a) k = stops (ap (λ (x : Mapped). then_mapped x f) p) (ap (λ (x : Mapped). then_mapped x h) q) a
  then_came m m' f h (breaks p b) k = breaks (ap (λ (x : Mapped). then_mapped x f) p) b

  module _ {e g c : ℕ} {t inn outw : List ℕ} (H : Here e g c t inn outw) (hg : g < n) where
    before : Before A small room K hi lent e g c inn outw
    before = record { known = H.state.held.known; filled = H.filled }

    more_answered : {y : GroupElementId} → source (elt e) g ≡ Ok y → AnsweredTo source x₀ n elt e (suc g)
    more_answered q = record {
      answers = λ hh a. ⊎_elim
          (λ p. rw (p.0, p.1) (answered_so x₀ (source (elt e) g) q))
          (λ b. H.answered_to.answers hh b)
          (ahead_column a);
    }

    until_here : {r : Refusal} {t' : List ℕ} → read_place t n room c e g (src e g) ≡ placed (Err r) t' → (F : ReadingRefused src n room r)
        → AnsweredTo source x₀ n elt e (suc g) → AllAnswered source x₀ n room N elt
    until_here q F a =
        let (x, y) = place_at_lem t n room c e g (src e g) q in
        let (z, w) = stops_at F.stops in
        until F (rw (sym z ∙ x, sym w ∙ y) a)

    settled : (m : Mapped) → Agree (Before A small room K hi lent e (suc g)) (read_place t n room c e g (src e g)) m → AnsweredTo source x₀ n elt e (suc g)
        → Came (Here e (suc g)) m m
    settled (mapped (placed (Ok c') t') inn' outw') (q, S) a =
        counts refl refl (record {
          state = subst (On (ReadingState src n room size e (suc g)) (ReadingRefused src n room)) q (read_place_lem few hi fits H.state hg);
          filled = S.filled;
          answered_to = a;
        })
    settled (mapped (placed (Err r) t') inn' outw') q a =
        stops refl refl (until_here q (subst (On (ReadingState src n room size e (suc g)) (ReadingRefused src n room)) q (read_place_lem few hi fits H.state hg)) a)

    place_came : Came (Here e (suc g)) (map_from (source (get_or outw e 0) g) t inn outw n room c e g)
        (map_from (total source x₀ (get_or outw e 0) g) t inn outw n room c e g)
    place_came = rw (H.filled.elements (row_known H.state.held.known)) (go (source (elt e) g) refl) where
      go : (r : Reached) → source (elt e) g ≡ r
          → Came (Here e (suc g)) (map_from r t inn outw n room c e g) (map_from (Ok (record { 0 = answered x₀ r })) t inn outw n room c e g)
      go (Ok y) q =
          let z : answered x₀ (source (elt e) g) ≡ y.0 = ap (answered x₀) q in
          settled (map_place t inn outw n room c e g y.0)
          (subst (λ (v : ℕ). Agree (Before A small room K hi lent e (suc g)) (read_place t n room c e g (src e g)) (map_place t inn outw n room c e g v)) z
          (place_follows A small room K hi lent before hg t (I.closed (inside A small room K hi lent before hg) hg)))
          (more_answered q)
      go (Err r) q = breaks refl (record {
        row = e;
        column = g;
        count = c;
        before = H.state.held;
        place = hg;
        answered = H.answered_to;
        refused = q;
      })

  -- The k places that are left of row e.
  row_came : (k : ℕ) {e g c : ℕ} {t inn outw : List ℕ} → g + k ≡ n → Here e g c t inn outw
      → Came (Here e n) (map_row k source n room e g c t inn outw) (map_row k (total source x₀) n room e g c t inn outw)
  unfolding map_row
  row_came zero {e} {g} q H = let p : g ≡ n = omega arith in counts refl refl (rw p at H)
  row_came (suc k) {e} {g} {c} {t} {inn} {outw} q H =
      let p : g + 1 ≡ suc g = omega arith in
      then_came (map_from (source (get_or outw e 0) g) t inn outw n room c e g) (map_from (total source x₀ (get_or outw e 0) g) t inn outw n room c e g) _ _
      (place_came H (omega arith)) (λ c' t' inn' outw' H'. rw p (row_came k {g = suc g} (omega arith) H'))

  abbrev Ended : ℕ → List ℕ → List ℕ → List ℕ → Type 0
  Ended c t inn outw = AllAnswered source x₀ n room N elt

  -- After the last row all is read.
  at_end : {e c : ℕ} {t inn outw : List ℕ} → c ≤ suc e → Here e n c t inn outw → AllAnswered source x₀ n room N elt
  at_end {e} {c} h H =
      let K = H.state.held in
      let l : suc e ≡ c = omega (arith, row_known K.known) in
      let q : c ≡ N = numbered_once (record { end = e; last_row = l; known = K.known }) A.by_rule in
      let r : suc e ≡ N = l ∙ q in
      let a : AnsweredTo source x₀ n elt (suc e) 0 = record { answers = λ hh b. H.answered_to.answers hh (ahead_row hh b) } in
      whole (rw q at (readable l K)) (rw r at a)
    where
      readable : suc e ≡ c → ReadSoFar src n room e n c → Readable src n room c
      readable l K = record { by_rule = record { end = e; last_row = l; known = K.known }; within = K.within; short = K.short }

  -- The rows from e on; k of them are enough.
  rows_came : (k : ℕ) {e c : ℕ} {t inn outw : List ℕ} → room ≤ e + k → Here e 0 c t inn outw
      → Came Ended (map_rows k source n room e c t inn outw) (map_rows k (total source x₀) n room e c t inn outw)
  unfolding map_rows
  rows_came zero {e} {c} h H = absurd (omega (arith, row_known H.state.held.known, H.filled.within))
  rows_came (suc k) {e} {c} {t} {inn} {outw} h H =
      rw (lt-ltb e c (row_known H.state.held.known))
      (then_came (map_row n source n room e 0 c t inn outw) (map_row n (total source x₀) n room e 0 c t inn outw) _ _ (row_came n (omega arith) H)
      (λ c' t' inn' outw' H'. go c' t' inn' outw' H' (λ H₂. rows_came k {e = suc e} (omega arith) H₂) (dec_lt (suc e) c')))
    where
      go : (c' : ℕ) (t' inn' outw' : List ℕ) → Here e n c' t' inn' outw'
          → (Here (suc e) 0 c' t' inn' outw'
          → Came Ended (map_rows k source n room (suc e) c' t' inn' outw') (map_rows k (total source x₀) n room (suc e) c' t' inn' outw'))
          → Dec (suc e < c') → Came Ended (map_rows k source n room (e + 1) c' t' inn' outw') (map_rows k (total source x₀) n room (e + 1) c' t' inn' outw')
      go c' t' inn' outw' H' ih (yes l) =
          let p : e + 1 ≡ suc e = omega arith in
          rw p (ih (record {
            state = state_row src n room size l H'.state;
            filled = H'.filled;
            answered_to = record { answers = λ hh a. H'.answered_to.answers hh (ahead_row hh a) };
          }))
      go c' t' inn' outw' H' ih (no l) =
          counts (ends k source n room (e + 1) c' t' inn' outw' (omega arith)) (ends k (total source x₀) n room (e + 1) c' t' inn' outw' (omega arith))
          (at_end (omega arith) H')

  all_came : Came Ended (map_all source n room M K x₀ (replicate size 0)) (map_all (total source x₀) n room M K x₀ (replicate size 0))
  all_came = rows_came room (omega arith) (record {
    state = state_start src n room size lo;
    filled = (at_start_lem A small room K hi lent I (total source x₀) (total_answering n M source x₀) lo).filled;
    answered_to = record { answers = λ hh a. absurd (nothing_ahead a) };
  })

  -- The same of a whole build: it is that of the steps, and all that it read was answered; or is refused as the source was met, with everything zero.
  pub partial_build : (w : List ℕ)
      → ((renumber_in size w source n room M K x₀ ≡ renumber_in size w (total source x₀) n room M K x₀) × AllAnswered source x₀ n room N elt)
      ⊎ ((r : Refusal) × RefusedAt source x₀ n room N elt r × (t : List ℕ) × (inn : List ℕ) × (outw : List ℕ)
      × (renumber_in size w source n room M K x₀ ≡ renumbering (built (Err r) (zeroed t) (zeroed w)) (zeroed inn) (zeroed outw)))
  unfolding renumber_in finished
  partial_build w = go all_came where
    go : Came Ended (map_all source n room M K x₀ (replicate size 0)) (map_all (total source x₀) n room M K x₀ (replicate size 0))
        → ((finished_mapped (map_all source n room M K x₀ (replicate size 0)) n w ≡ finished_mapped (map_all (total source x₀) n room M K x₀ (replicate size 0)) n w)
        × AllAnswered source x₀ n room N elt)
        ⊎ ((r : Refusal) × RefusedAt source x₀ n room N elt r × (t : List ℕ) × (inn : List ℕ) × (outw : List ℕ)
        × (finished_mapped (map_all source n room M K x₀ (replicate size 0)) n w ≡ renumbering (built (Err r) (zeroed t) (zeroed w)) (zeroed inn) (zeroed outw)))
    go (counts p q a) = inl (ap (λ (m : Mapped). finished_mapped m n w) (p ∙ sym q), a)
    go (stops p q a) = inl (ap (λ (m : Mapped). finished_mapped m n w) (p ∙ sym q), a)
    go (breaks {r} {t} {inn} {outw} p b) = inr (r, b, t, inn, outw, ap (λ (m : Mapped). finished_mapped m n w) p)
