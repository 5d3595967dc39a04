-- The check against pair orders on whatever a stretch holds: 13 or 17, as the first of all places is met. A walk is read to its end or is not, and which of
-- the two is known from the numbers alone.
use Prim.Native.Nat.{ℕ, zero, suc, ◌+◌, ◌-◌, ◌/◌, ◌%◌, ◌≤◌, ◌<◌}
use mathlib.Core.Path.{◌≡◌, refl, sym, ap, ◌∙◌, subst}
use mathlib.Core.Logic.{◌↔◌, ⊎_elim}
use mathlib.Core.Bool.{Bool, true, false}
use mathlib.Core.List.{List, ◌∷◌}
use native.Mathlib.Omega.{arith}
use borrow.Author.Tests.{eq-eqb, ne_eqb, eqb-true, eqb-false, ltb-true, ltb-false}
use lib.Dec.{eqb, ltb}
use lib.ListN.{length, get_or}
use Rattle.egg.specs.declared.Refusal.{Refusal}
use Rattle.egg.specs.declared.Factor.{Factor}
use Rattle.egg.specs.Answers.{Reached, Verdict, fine, numbered, on_reached}
use Rattle.std.specs.Prelude.{Ok, Err}
use Rattle.egg.specs.Table.{pick, start_of}
use Rattle.egg.specs.Scan.{and_then, scan}
use Rattle.egg.specs.Pairs.{pair_code, orders_right}
use Rattle.egg.specs.Factor.{Paper, verdict_paper, fits_in, stretch, refused_reach, read_step}
use Rattle.egg.proofs.Rooms.{some}
use Rattle.egg.proofs.Scans.{refused_fine, and_then_fine, scan_fine, scan_first}
use Rattle.build_lending.proofs.Fits.{fits_small}
use Rattle.factor_relations.specs.Relations.{turned, returns_to, relation_at, doubled_row, pairs_row, relations_row, relations}
use Rattle.factor.specs.Questions.{admits}
use Rattle.factor.specs.Relations.{check_answer}
use Rattle.theory.specs.Presentation.{pairs_below, pair_place, order_of, alternate}
use Rattle.theory.proofs.Pairs.{pair_at, pair_inside}
use Rattle.build_checks_laws.proofs.Passes.{scan_stops}
use Rattle.factor_laws.specs.Accepted.{reach}
use Rattle.factor_relations_laws.proofs.Codes.{code_first, code_second}
use Rattle.factor_laws.proofs.Handles.{admits_fine}
use Rattle.promises_refusals.specs.Orders.{OrdersRight}
use Rattle.promises_refusals.specs.AsMet.{Leads, stays, goes, Unread, missing, beyond, later, Returns, Met, astray, unread, AllReturn, FirstMet, doubled, paired, CheckAny, no_handle, wrong_orders, as_met, all_return}
use Rattle.promises_refusals.proofs.Checked.{then_split}
use Rattle.promises_refusals.proofs.Orders.{orders_either, fault_orders, right_orders}

-- A scan refuses by r exactly where the first place that is not fine does.
abbrev FirstRefused : ℕ → (ℕ → Verdict) → Refusal → Type 0
FirstRefused k f r = (i : ℕ) × (i < k) × (f i ≡ Err r) × ((j : ℕ) → j < i → f j ≡ fine)

scan_met : (k : ℕ) (f : ℕ → Verdict) (r : Refusal) → scan k f 0 ≡ Err r ↔ FirstRefused k f r
scan_met k f r = (
  λ h. let p = scan_first k f 0 h in (p.0, omega (arith, p.2), p.3, λ j l. p.4 j (omega arith) l),
  λ p. scan_stops k f 0 p.0 (omega arith) (omega (arith, p.1)) p.2 (λ j a l. p.3 j l),
)

module _ (s : List ℕ) (n N : ℕ) where
  abbrev stored : ℕ → ℕ → ℕ
  stored e g = get_or s (start_of n e + g) 0

  -- Where a walk comes to, and that it is read to its end or not.
  data Walked (e : ℕ) (w : List ℕ) : Reached → Type 0 where
    led : {x : ℕ} → Leads stored N e w x → Walked e w (reach x)
    stopped : Unread stored N e w → Walked e w (refused_reach 17 0)

  data Stepped (e g : ℕ) : Reached → Type 0 where
    to : {x : ℕ} → stored e g ≡ suc x → x < N → Stepped e g (reach x)
    nowhere : ((w : List ℕ) → Unread stored N e (g ∷ w)) → Stepped e g (refused_reach 17 0)

  stepped : (e g : ℕ) → Stepped e g (read_step s n N e g)
  unfolding read_step
  stepped e g = by (stored e g) refl (ltb N (stored e g)) refl where
    by : (v : ℕ) → stored e g ≡ v → (b : Bool) → ltb N (stored e g) ≡ b
        → Stepped e g (pick (eqb (stored e g) 0) (refused_reach 17 0) (pick (ltb N (stored e g)) (refused_reach 17 0) (reach (stored e g - 1))))
    by zero q b l = rw (eq-eqb (stored e g) 0 q) (nowhere (λ w. missing q))
    by (suc x) q true l = rw (ne_eqb (stored e g) 0 (λ z. omega arith), l) (nowhere (λ w. beyond (ltb-true N (stored e g) l)))
    by (suc x) q false l =
        let most = ltb-false N (stored e g) l in
        let v : stored e g - 1 ≡ x = omega arith in
        rw (ne_eqb (stored e g) 0 (λ z. omega arith), l, v) (to q (omega arith))

  first_letter : {e g x : ℕ} {w : List ℕ} {r : Reached} → stored e g ≡ suc x → x < N → Walked x w r → Walked e (g ∷ w) r
  first_letter q l (led p) = led (goes q l p)
  first_letter q l (stopped p) = stopped (later q l p)

  walked : (k e a b : ℕ) → Walked e (alternate a b k) (turned k s n N e a b)
  unfolding turned
  walked zero e a b = led stays
  walked (suc k) e a b = first (λ y. walked k y a b) (stepped e a) where
    second : ((y : ℕ) → Walked y (alternate a b k) (turned k s n N y a b)) → (x : ℕ) {r : Reached} → Stepped x b r
        → Walked x (b ∷ alternate a b k) (on_reached r (λ y. turned k s n N y a b))
    second rest x (to {x = y} q l) = first_letter q l (rest y)
    second rest x (nowhere u) = stopped (u (alternate a b k))

    first : ((y : ℕ) → Walked y (alternate a b k) (turned k s n N y a b)) → {r : Reached} → Stepped e a r
        → Walked e (a ∷ b ∷ alternate a b k) (on_reached r (λ x. on_reached (read_step s n N x b) (λ y. turned k s n N y a b)))
    first rest (to {x} q l) = first_letter q l (second rest x (stepped x b))
    first rest (nowhere u) = stopped (u (b ∷ alternate a b k))

  -- The numbers decide which of both.
  leads_once : {e x y : ℕ} {w : List ℕ} → Leads stored N e w x → Leads stored N e w y → x ≡ y
  leads_once stays stays = refl
  leads_once (goes {x = x} q l p) (goes {x = x'} {y} {w} q' l' p') =
      let z : x' ≡ x = omega arith in leads_once p (subst (λ (v : ℕ). Leads stored N v w y) z p')

  leads_unread : {e x : ℕ} {w : List ℕ} → Leads stored N e w x → Unread stored N e w → ⊥
  leads_unread (stays {e = e}) u = elim u [ ]
  leads_unread (goes q l p) (missing z) = omega arith
  leads_unread (goes q l p) (beyond z) = omega arith
  leads_unread (goes {x = x} {w = w} q l p) (later {x = x'} q' l' u) =
      let z : x' ≡ x = omega arith in leads_unread p (subst (λ (v : ℕ). Unread stored N v w) z u)

  same_refusal : {r r' : Refusal} → ◌≡◌ {A = Verdict} (Err r) (Err r') → r ≡ r'
  same_refusal h = cc

  module _ (e a b m : ℕ) where
    fine_of : {r : Reached} → Walked e (alternate a b m) r → returns_to e a b r ≡ fine ↔ Returns stored N e a b m
    fine_of (led {x} p) = by (eqb x e) refl where
      by : (c : Bool) → eqb x e ≡ c → pick c fine (Err (numbered 13 e a b)) ≡ fine ↔ Returns stored N e a b m
      by true q = (λ h. subst (λ (v : ℕ). Leads stored N e (alternate a b m) v) (eqb-true x e q) p, λ h. refl)
      by false q = (λ h. absurd (refused_fine h), λ h. absurd (eqb-false x e q (leads_once p h)))
    fine_of (stopped u) = (λ h. absurd (refused_fine h), λ h. absurd (leads_unread h u))

    met_of : (r : Refusal) {x : Reached} → Walked e (alternate a b m) x → returns_to e a b x ≡ Err r ↔ Met stored N e a b m r
    met_of r (led {x} p) = by (eqb x e) refl where
      never : {r : Refusal} → x ≡ e → Met stored N e a b m r → ⊥
      never z (astray p' d) = d (leads_once p' p ∙ z)
      never z (unread u) = leads_unread p u

      back : {r : Refusal} → Met stored N e a b m r → ◌≡◌ {A = Verdict} (Err (numbered 13 e a b)) (Err r)
      back (astray p' d) = refl
      back (unread u) = absurd (leads_unread p u)

      by : (c : Bool) → eqb x e ≡ c → pick c fine (Err (numbered 13 e a b)) ≡ Err r ↔ Met stored N e a b m r
      by true q = (λ h. absurd (refused_fine (sym h)), λ M. absurd (never (eqb-true x e q) M))
      by false q = (λ h. subst (Met stored N e a b m) (same_refusal h) (astray p (eqb-false x e q)), back)
    met_of r (stopped u) = (λ h. subst (Met stored N e a b m) (same_refusal h) (unread u), back) where
      back : {r : Refusal} → Met stored N e a b m r → ◌≡◌ {A = Verdict} (Err (numbered 17 0 0 0)) (Err r)
      back (astray p d) = absurd (leads_unread p u)
      back (unread v) = refl

    relation_fine : relation_at s n N e a b m ≡ fine ↔ Returns stored N e a b m
    relation_fine = fine_of (walked m e a b)

    relation_met : (r : Refusal) → relation_at s n N e a b m ≡ Err r ↔ Met stored N e a b m r
    relation_met r = met_of r (walked m e a b)

  -- The relations at one element.
  doubled_fine : (e : ℕ) → doubled_row s n N e ≡ fine ↔ ((g : ℕ) → g < n → Returns stored N e g g 1)
  unfolding doubled_row
  doubled_fine e = (
    λ h g l. (relation_fine e g g 1).0 ((scan_fine n (λ g. relation_at s n N e g g 1)).0 h g l),
    λ h. (scan_fine n (λ g. relation_at s n N e g g 1)).1 (λ g l. (relation_fine e g g 1).1 (h g l)),
  )

  module _ (few : n ≤ 8) (o : List ℕ) (long : length o ≡ pairs_below n) where
    at : ℕ → ℕ → Verdict
    at e k = relation_at s n N e (pair_code k / 8) (pair_code k % 8) (get_or o k 0)

    -- The pair at its place of the list.
    at_pair : (e : ℕ) {i j : ℕ} → i < j → j < n → at e (pair_place i j) ≡ relation_at s n N e i j (order_of o i j)
    unfolding at
    at_pair e {i} {j} hi hj = let small : j < 8 = omega arith in rw (code_first hi small, code_second hi small)

    pairs_fine : (e : ℕ) → pairs_row s n N o e ≡ fine ↔ ((i j : ℕ) → i < j → j < n → Returns stored N e i j (order_of o i j))
    unfolding pairs_row at
    pairs_fine e = (
      λ h i j hi hj.
          (relation_fine e i j (order_of o i j)).0 (sym (at_pair e hi hj) ∙ (scan_fine (length o) (at e)).0 h (pair_place i j) (rw long (pair_inside hi hj))),
      λ h. (scan_fine (length o) (at e)).1 (λ k l.
          let (i, j, hi, hj, q) = pair_at n k (rw long at l) in
          ap (at e) (sym q) ∙ at_pair e hi hj ∙ (relation_fine e i j (order_of o i j)).1 (h i j hi hj)),
    )

    row_fine : (e : ℕ) → relations_row s n N o e ≡ fine ↔ AllReturn stored n N o e
    row_fine e = (
      λ h.
          let b = (and_then_fine (doubled_row s n N e) (pairs_row s n N o e)).0 h in
          record { doubled = (doubled_fine e).0 b.0; paired = (pairs_fine e).0 b.1 },
      λ A. (and_then_fine (doubled_row s n N e) (pairs_row s n N o e)).1 ((doubled_fine e).1 A.doubled, (pairs_fine e).1 A.paired),
    )

    -- The first place of the list that is refused is the first pair's.
    first_paired : {e : ℕ} {r : Refusal} → e < N → ((x : ℕ) → x < e → AllReturn stored n N o x) → ((g : ℕ) → g < n → Returns stored N e g g 1)
        → FirstRefused (length o) (at e) r → FirstMet stored n N o r
    first_paired {e} {r} he all twice (k, hk, m, before) =
        let (i, j, hi, hj, z) = pair_at n k (rw long at hk) in
        paired he all twice hi hj
        (λ a b ha hb l. (relation_fine e a b (order_of o a b)).0 (sym (at_pair e ha hb) ∙ before (pair_place a b) (rw z at l)))
        ((relation_met e i j (order_of o i j) r).0 (sym (at_pair e hi hj) ∙ ap (at e) z ∙ m))

    relations_met : (r : Refusal) → relations s n N o ≡ Err r ↔ FirstMet stored n N o r
    unfolding relations doubled_row pairs_row at
    relations_met r = (
      λ h.
          let (e, he, q, earlier) = (scan_met N (λ e. relations_row s n N o e) r).0 h in
          let all : (x : ℕ) → x < e → AllReturn stored n N o x = λ x l. (row_fine x).0 (earlier x l) in
          ⊎_elim
          (λ d.
          let (g, hg, m, before) = (scan_met n (λ g. relation_at s n N e g g 1) r).0 d in
          doubled he all hg (λ h l. (relation_fine e h h 1).0 (before h l)) ((relation_met e g g 1 r).0 m))
          (λ p. first_paired he all ((doubled_fine e).0 p.0) ((scan_met (length o) (at e) r).0 p.1))
          (then_split (doubled_row s n N e) (pairs_row s n N o e) q),
      refuses,
    ) where
      refused_row : {e : ℕ} {r : Refusal} → e < N → ((x : ℕ) → x < e → AllReturn stored n N o x) → relations_row s n N o e ≡ Err r → relations s n N o ≡ Err r
      refused_row {e} {r} he all q = (scan_met N (λ e. relations_row s n N o e) r).1 (e, he, q, λ x l. (row_fine x).1 (all x l))

      refuses : {r : Refusal} → FirstMet stored n N o r → relations s n N o ≡ Err r
      refuses {r} (doubled {e} {g} he all hg before M) =
          refused_row he all
          (ap (λ (v : Verdict). and_then v (pairs_row s n N o e))
          ((scan_met n (λ g. relation_at s n N e g g 1) r).1 (g, hg, (relation_met e g g 1 r).1 M, λ h l. (relation_fine e h h 1).1 (before h l))))
      refuses {r} (paired {e} {i} {j} he all twice hi hj before M) =
          let q : pairs_row s n N o e ≡ Err r = (scan_met (length o) (at e) r).1 (
            pair_place i j,
            rw long (pair_inside hi hj),
            at_pair e hi hj ∙ (relation_met e i j (order_of o i j) r).1 M,
            λ k l.
                let (a, b, ha, hb, z) = pair_at n k (omega (arith, pair_inside hi hj)) in
                ap (at e) (sym z) ∙ at_pair e ha hb ∙ (relation_fine e a b (order_of o a b)).1 (before a b ha hb (rw z l)),
          ) in
          refused_row he all (rw ((doubled_fine e).1 twice) q)

    relations_fine : relations s n N o ≡ fine ↔ ((e : ℕ) → e < N → AllReturn stored n N o e)
    unfolding relations
    relations_fine = (
      λ h e l. (row_fine e).0 ((scan_fine N (λ e. relations_row s n N o e)).0 h e l),
      λ h. (scan_fine N (λ e. relations_row s n N o e)).1 (λ e l. (row_fine e).1 (h e l)),
    )

module _ (t : List ℕ) (f : Factor) (o : List ℕ) where
  abbrev n : ℕ
  n = f.generators

  without_handle : fits_in (length t) f ≡ false → check_answer t f o ≡ Err (numbered 17 0 0 0)
  unfolding check_answer admits
  without_handle q = rw q

  with_handle : fits_in (length t) f ≡ true → check_answer t f o ≡ and_then (orders_right o f.generators) (relations (stretch t f) f.generators f.elements o)
  unfolding check_answer
  with_handle q = rw (admits_fine (length t) f q (some (length t) f q) (some (length t) f q))

  with_orders : fits_in (length t) f ≡ true → OrdersRight o f.generators → check_answer t f o ≡ relations (stretch t f) f.generators f.elements o
  with_orders q R = with_handle q ∙ ap (λ (v : Verdict). and_then v (relations (stretch t f) f.generators f.elements o)) (right_orders o f.generators R)

  -- Some answer there is ..
  any_some : CheckAny t f o (verdict_paper (check_answer t f o))
  any_some = by (fits_in (length t) f) refl where
    related : fits_in (length t) f ≡ true → OrdersRight o f.generators → (v : Verdict) → relations (stretch t f) f.generators f.elements o ≡ v
        → CheckAny t f o (verdict_paper v)
    related q R (Ok _) e = all_return q R ((relations_fine (stretch t f) n f.elements (fits_small (length t) f q).0 o R.long).0 e)
    related q R (Err r) e = as_met q R ((relations_met (stretch t f) n f.elements (fits_small (length t) f q).0 o R.long r).0 e)

    by : (c : Bool) → fits_in (length t) f ≡ c → CheckAny t f o (verdict_paper (check_answer t f o))
    by false q = rw (without_handle q) (no_handle q)
    by true q = ⊎_elim
        (λ a. rw (with_orders q a.1) (related q a.1 (relations (stretch t f) n f.elements o) refl))
        (λ b. rw (with_handle q, b.1) (wrong_orders q b.2))
        (orders_either o n)

  -- .. and it is the one that the arguments and the stretch say.
  any_given : {p : Paper} → CheckAny t f o p → verdict_paper (check_answer t f o) ≡ p
  any_given (no_handle q) = ap verdict_paper (without_handle q)
  any_given (wrong_orders q F) = rw (with_handle q, fault_orders o n F)
  any_given (as_met {r} q R F) =
      ap verdict_paper (with_orders q R ∙ (relations_met (stretch t f) n f.elements (fits_small (length t) f q).0 o R.long r).1 F)
  any_given (all_return q R A) =
      ap verdict_paper (with_orders q R ∙ (relations_fine (stretch t f) n f.elements (fits_small (length t) f q).0 o R.long).1 A)

  -- On every input, altered or not: each answer exactly when.
  pub check_any : (p : Paper) → verdict_paper (check_answer t f o) ≡ p ↔ CheckAny t f o p
  check_any p = (λ q. subst (CheckAny t f o) q any_some, any_given)
