-- The predicate form: which elements are chosen, and how it ends.
use Prim.Native.Nat.{ℕ, zero, suc, ◌+◌, ◌<◌, ◌≤◌}
use mathlib.Core.Path.{◌≡◌, refl, sym, ◌∙◌, ap, subst}
use mathlib.Core.Logic.{◌⊎◌, inl, inr}
use mathlib.Core.Bool.{Bool, true, false}
use mathlib.Core.List.{List, [], ◌∷◌, ◌++◌}
use native.Mathlib.Nat.{add-zero}
use native.Mathlib.Decide.{ℕ_discrete, dec_lt}
use native.Mathlib.Omega.{arith}
use lib.ListN.{length, get_or, length-append, get_or-append}
use lib.Seq.{get_or-append-add}
use lib.Dec.{eqb, ltb}
use borrow.Author.Tests.{eqb-true, eqb-false, not-true, eq-eqb, ne_eqb, ltb-true, ltb-false}
use Rattle.egg.specs.Table.{pick}
use Rattle.egg.proofs.Rooms.{and_first, and_second, false_true}
use Rattle.std.specs.Prelude.{Ok, Err}
use Rattle.build_lending.specs.Finish.{built}
use Rattle.build_numbering.specs.Renumber as appear
use Rattle.build_numbering.specs.Build.{Renumbering, renumbering}
use Rattle.theory.specs.Orbit.{Orbit, origin, onward}
use Rattle.theory.specs.Subgroup.{right_by}
use Rattle.subgroup_predicate_choices.specs.Choices.{Picked, is_new_member, chooses}
use Rattle.promises_subgroup_predicate.specs.Predicate.{Reach, Gathered, Chosen, Knows, Faithful, Ends, accepted, refused, too_many}

-- The same by generators that are the same.
pub orbit_as : (op : ℕ → ℕ → ℕ) {n : ℕ} {f g : ℕ → ℕ} {y : ℕ} → ((i : ℕ) → i < n → f i ≡ g i) → Orbit n (right_by op f) 0 y → Orbit n (right_by op g) 0 y
orbit_as op e origin = origin
orbit_as op e (onward {g = i} o h) = rw (e i h) (onward {g = i} (orbit_as op e o) h)

module _ (gens : List ℕ) (x : ℕ) where
  pub more_length : length (gens ++ (x ∷ [])) ≡ length gens + 1
  more_length = length-append gens (x ∷ [])

  old : {g : ℕ} → g < length gens → get_or (gens ++ (x ∷ [])) g 0 ≡ get_or gens g 0
  old {g} h = get_or-append gens (x ∷ []) 0 g h

  new : {g : ℕ} → g ≡ length gens → get_or (gens ++ (x ∷ [])) g 0 ≡ x
  new {g} q = ap (λ (i : ℕ). get_or (gens ++ (x ∷ [])) i 0) (q ∙ sym (add-zero (length gens))) ∙ get_or-append-add gens (x ∷ []) 0 0

  reach_more : (op : ℕ → ℕ → ℕ) {k y : ℕ} → k ≤ length gens → Reach op gens k y → Reach op (gens ++ (x ∷ [])) k y
  reach_more op h = orbit_as op (λ i l. sym (old (omega arith)))

  reach_less : (op : ℕ → ℕ → ℕ) {k y : ℕ} → k ≤ length gens → Reach op (gens ++ (x ∷ [])) k y → Reach op gens k y
  reach_less op h = orbit_as op (λ i l. old (omega arith))

  last_or : {g : ℕ} → g < length (gens ++ (x ∷ [])) → (g < length gens) ⊎ (g ≡ length gens)
  last_or {g} h = by (dec_lt g (length gens)) where
    by : Dec (g < length gens) → (g < length gens) ⊎ (g ≡ length gens)
    by (yes k) = inl k
    by (no k) = inr (omega (arith, more_length))

-- What was gathered is so still later, and with one more member.
module _ {byte : ℕ → ℕ} {x : ℕ} {gens : List ℕ} (G : Gathered byte x gens) where
  pub gathered_later : {y : ℕ} → x ≤ y → Gathered byte y gens
  gathered_later l = record { few = G.few; before = λ {g} h. omega (arith, G.before h); ascending = G.ascending; members = G.members }

  pub gathered_more : length gens < 8 → ¬ (byte x ≡ 0) → Gathered byte (x + 1) (gens ++ (x ∷ []))
  gathered_more room m = record {
    few = omega (arith, more_length gens x);
    before = λ {g} h. sooner g (last_or gens x h);
    ascending = λ {g} {h} l k. rising g h l (last_or gens x k);
    members = λ {g} h. member g (last_or gens x h);
  } where
    sooner : (g : ℕ) → (g < length gens) ⊎ (g ≡ length gens) → get_or (gens ++ (x ∷ [])) g 0 < x + 1
    sooner g (inl k) = rw (old gens x k) (omega (arith, G.before k))
    sooner g (inr q) = rw (new gens x q) (omega arith)

    rising : (g h : ℕ) → g < h → (h < length gens) ⊎ (h ≡ length gens) → get_or (gens ++ (x ∷ [])) g 0 < get_or (gens ++ (x ∷ [])) h 0
    rising g h l (inl k) = let i : g < length gens = omega arith in rw (old gens x k, old gens x i) (G.ascending l k)
    rising g h l (inr q) = let i : g < length gens = omega arith in rw (new gens x q, old gens x i) (G.before i)

    member : (g : ℕ) → (g < length gens) ⊎ (g ≡ length gens) → ¬ (byte (get_or (gens ++ (x ∷ [])) g 0) ≡ 0)
    member g (inl k) = rw (old gens x k) (G.members k)
    member g (inr q) = rw (new gens x q) m

pub nothing_gathered : {byte : ℕ → ℕ} → Gathered byte 0 []
nothing_gathered = record {
  few = omega arith;
  before = λ h. absurd (omega arith);
  ascending = λ h k. absurd (omega arith);
  members = λ h. absurd (omega arith);
}

pub new_byte : (inn : List ℕ) (byte : ℕ → ℕ) (x : ℕ) → is_new_member inn byte x ≡ true → ¬ (byte x ≡ 0)
new_byte inn byte x h q = eqb-false (byte x) 0 (not-true _ (and_second (eqb (get_or inn x 0) appear.no_number) _ h)) q

module _ {op : ℕ → ℕ → ℕ} {byte : ℕ → ℕ} {x : ℕ} {gens : List ℕ} (C : Chosen op byte x gens) where
  -- x is no member, or is generated already.
  pub chosen_same : (byte x ≡ 0) ⊎ Reach op gens (length gens) x → Chosen op byte (x + 1) gens
  chosen_same d = record {
    few = C.few;
    before = λ {g} h. omega (arith, C.before h);
    ascending = C.ascending;
    members = C.members;
    outside = C.outside;
    complete = λ {y} h m. seen y h m (dec_lt y x) d;
  } where
    seen : (y : ℕ) → y < x + 1 → ¬ (byte y ≡ 0) → Dec (y < x) → (byte x ≡ 0) ⊎ Reach op gens (length gens) x
        → ((g : ℕ) × (g < length gens) × (get_or gens g 0 ≡ y))
        ⊎ ((k : ℕ) × (k ≤ length gens) × (((g : ℕ) → g < k → get_or gens g 0 < y) × Reach op gens k y))
    seen y h m (yes l) d = C.complete l m
    seen y h m (no l) (inl z) = let q : y ≡ x = omega arith in absurd (m (ap byte q ∙ z))
    seen y h m (no l) (inr r) =
        let q : x ≡ y = omega arith in
        inr (length gens, omega arith, (λ g k. rw (← q) (C.before k), subst (Reach op gens (length gens)) q r))

  -- x is chosen.
  pub chosen_more : length gens < 8 → ¬ (byte x ≡ 0) → ¬ Reach op gens (length gens) x → Chosen op byte (x + 1) (gens ++ (x ∷ []))
  chosen_more room m n = record {
    few = together.few;
    before = together.before;
    ascending = together.ascending;
    members = together.members;
    outside = λ {g} h r. out g r (last_or gens x h);
    complete = λ {y} h k. seen y h k (dec_lt y x);
  } where
    so_far : Gathered byte x gens
    so_far = record { few = C.few; before = C.before; ascending = C.ascending; members = C.members }

    together : Gathered byte (x + 1) (gens ++ (x ∷ []))
    together = gathered_more so_far room m

    out : (g : ℕ) → Reach op (gens ++ (x ∷ [])) g (get_or (gens ++ (x ∷ [])) g 0) → (g < length gens) ⊎ (g ≡ length gens) → ⊥
    out g r (inl k) = C.outside k (reach_less gens x op (omega arith) (subst (Reach op (gens ++ (x ∷ [])) g) (old gens x k) r))
    out g r (inr q) = n (reach_less gens x op (omega arith) (subst (λ i. Reach op (gens ++ (x ∷ [])) i x) q (subst (Reach op (gens ++ (x ∷ [])) g) (new gens x q) r)))

    moved : (y : ℕ)
        → ((g : ℕ) × (g < length gens) × (get_or gens g 0 ≡ y))
        ⊎ ((k : ℕ) × (k ≤ length gens) × (((g : ℕ) → g < k → get_or gens g 0 < y) × Reach op gens k y))
        → ((g : ℕ) × (g < length (gens ++ (x ∷ []))) × (get_or (gens ++ (x ∷ [])) g 0 ≡ y))
        ⊎ ((k : ℕ) × (k ≤ length (gens ++ (x ∷ []))) × (((g : ℕ) → g < k → get_or (gens ++ (x ∷ [])) g 0 < y) × Reach op (gens ++ (x ∷ [])) k y))
    moved y (inl (g, h, q)) = inl (g, omega (arith, more_length gens x), old gens x h ∙ q)
    moved y (inr (k, h, f)) =
        inr (k, omega (arith, more_length gens x), (λ g l. let i : g < length gens = omega arith in rw (old gens x i) (f.0 g l), reach_more gens x op h f.1))

    seen : (y : ℕ) → y < x + 1 → ¬ (byte y ≡ 0) → Dec (y < x)
        → ((g : ℕ) × (g < length (gens ++ (x ∷ []))) × (get_or (gens ++ (x ∷ [])) g 0 ≡ y))
        ⊎ ((k : ℕ) × (k ≤ length (gens ++ (x ∷ []))) × (((g : ℕ) → g < k → get_or (gens ++ (x ∷ [])) g 0 < y) × Reach op (gens ++ (x ∷ [])) k y))
    seen y h k (yes l) = moved y (C.complete l k)
    seen y h k (no l) = inl (length gens, omega (arith, more_length gens x), new gens x refl ∙ omega arith)

pub pick_ends : (P : Picked → Type 0) (b d : Bool) {A B C : Picked} → (b ≡ true → d ≡ true → P A) → (b ≡ true → d ≡ false → P C) → (b ≡ false → P B)
    → P (pick b (pick d A C) B)
pick_ends P true true a c b = a refl refl
pick_ends P true false a c b = c refl refl
pick_ends P false d a c b = b refl

module _ {op : ℕ → ℕ → ℕ} {byte : ℕ → ℕ} {M L : ℕ} {again : List ℕ → List ℕ → Renumbering} (F : Faithful op M L again) where
  module _ {x : ℕ} {gens : List ℕ} (C : Chosen op byte x gens) (l : x < M) {inn w : List ℕ} (K : Knows op M L gens inn w) where
    pub new_member : is_new_member inn byte x ≡ true → ¬ (byte x ≡ 0)
    new_member h = new_byte inn byte x h

    pub new_outside : is_new_member inn byte x ≡ true → ¬ Reach op gens (length gens) x
    new_outside h = K.missing l (eqb-true (get_or inn x 0) appear.no_number (and_first (eqb (get_or inn x 0) appear.no_number) _ h))

    pub not_new : is_new_member inn byte x ≡ false → (byte x ≡ 0) ⊎ Reach op gens (length gens) x
    not_new h = by (ℕ_discrete (byte x) 0) (ℕ_discrete (get_or inn x 0) appear.no_number) where
      by : Dec (byte x ≡ 0) → Dec (get_or inn x 0 ≡ appear.no_number) → (byte x ≡ 0) ⊎ Reach op gens (length gens) x
      by (yes z) d = inl z
      by (no z) (no k) = inr (K.inside l k)
      by (no z) (yes k) =
          let t : is_new_member inn byte x ≡ true = rw (eq-eqb (get_or inn x 0) appear.no_number k, ne_eqb (byte x) 0 z) in
          absurd (false_true (sym h ∙ t))

  pub knowing : {x : ℕ} {gens : List ℕ} → Chosen op byte x gens → x ≤ M → {w₀ : List ℕ} → length w₀ ≡ L → {c : ℕ} {t w inn outw : List ℕ}
      → again gens w₀ ≡ renumbering (built (Ok c) t w) inn outw → Knows op M L gens inn w
  knowing C l h q = F.knows C.few (λ g k. omega (arith, C.before k)) h q

  pub choose_ends : (k x : ℕ) (gens : List ℕ) (r : Renumbering) (w₀ : List ℕ) → k + x ≡ M → Chosen op byte x gens → length w₀ ≡ L → again gens w₀ ≡ r
      → Ends op byte M L again (chooses k again byte x gens r)
  unfolding chooses
  choose_ends zero x gens (renumbering (built (Ok c) t w) inn outw) w₀ z C l q =
      let e : x ≡ M = omega arith in accepted w₀ l (subst (λ y. Chosen op byte y gens) e C) q
  choose_ends zero x gens (renumbering (built (Err f) t w) inn outw) w₀ z C l q = refused x w₀ (omega arith) l C q
  choose_ends (suc k) x gens (renumbering (built (Err f) t w) inn outw) w₀ z C l q = refused x w₀ (omega arith) l C q
  choose_ends (suc k) x gens (renumbering (built (Ok c) t w) inn outw) w₀ z C l q =
      let h : x < M = omega arith in
      let K = knowing C (omega arith) l q in
      pick_ends (Ends op byte M L again) (is_new_member inn byte x) (ltb (length gens) 8)
      (λ n d. choose_ends k (x + 1) (gens ++ (x ∷ [])) (again (gens ++ (x ∷ [])) w) w (omega arith)
      (chosen_more C (ltb-true (length gens) 8 d) (new_member C h K n) (new_outside C h K n)) K.work refl)
      (λ n d.
      let e : length gens ≡ 8 = omega (arith, ltb-false (length gens) 8 d, C.few) in
      too_many x w₀ h l C e (new_member C h K n) (subst (λ i. ¬ Reach op gens i x) e (new_outside C h K n)) q)
      (λ n. choose_ends k (x + 1) gens (renumbering (built (Ok c) t w) inn outw) w₀ (omega arith) (chosen_same C (not_new C h K n)) l q)

  pub nothing_chosen : Chosen op byte 0 []
  nothing_chosen = record {
    few = omega arith;
    before = λ h. absurd (omega arith);
    ascending = λ h k. absurd (omega arith);
    members = λ h. absurd (omega arith);
    outside = λ h. absurd (omega arith);
    complete = λ h. absurd (omega arith);
  }

  pub chooses_ends : (w : List ℕ) → length w ≡ L → Ends op byte M L again (chooses M again byte 0 [] (again [] w))
  chooses_ends w l = choose_ends M 0 [] (again [] w) w (add-zero M) nothing_chosen l refl
