-- A question over lists comes to an outcome exactly where `Outcome` says so.
-- Assumes nothing.
use Prim.Native.Nat.{ℕ, zero, suc, ◌+◌, ◌≤◌, ◌<◌}
use mathlib.Core.Path.{◌≡◌, refl, sym, ap, ◌∙◌, subst}
use mathlib.Core.Logic.{◌↔◌, ◌⊎◌, inl, inr, ⊎_elim}
use mathlib.Core.Bool.{Bool, true, false}
use mathlib.Core.List.{List, []}
use native.Mathlib.Nat.{eq-or-lt_of_le}
use native.Mathlib.Omega.{arith}
use borrow.Author.Tests.{eq-eqb, le-leb}
use lib.ListN.{length, get_or}
use lib.Seq.{take_all}
use Rattle.egg.specs.declared.Refusal.{Refusal}
use Rattle.egg.specs.Answers.{Reached}
use Rattle.std.specs.Prelude.{Ok, Err}
use Rattle.egg.specs.Table.{pick}
use Rattle.egg.proofs.Scans.{here_or_later}
use Rattle.lists.specs.Answers.{fine}
use Rattle.lists.specs.declared.ListRefusal.TheVariants.{RefusedAt}
use Rattle.lists.specs.Lists.{lengths_right, lists_refused, first_refused, number_of, numbers, Answered, answered, each_place, over_lists}
use Rattle.lists.specs.Worked.{Worked}
use Rattle.lists.proofs.Lengths.{right_lengths}
use Rattle.lists.proofs.Places.{numbers_long, numbers_at, all_worked}
use Rattle.lists_laws.specs.Outcomes.{Right, Alike, Outcome, unlike, stops, fills, Filled}

-- The lists are taken exactly where they are of one length that does not pass 4,096.
pub lengths_exactly : (first second out : ℕ) → lengths_right first second out ≡ true ↔ Alike first second out
unfolding lengths_right
lengths_exactly first second out = (
  (λ h. let l = right_lengths first second out h in record { inputs = l.0; output = l.1.0; within = l.1.1 }),
  (λ l. simp (eq-eqb _ _ l.inputs, eq-eqb _ _ l.output, le-leb _ _ l.within)),
)

-- Where the first refusal is known, the search comes to it.
first_refused_lem : (k : ℕ) (single : ℕ → Reached) (i j : ℕ) (r : Refusal) → i ≤ j → j < i + k → single j ≡ Err r
    → ((l : ℕ) → i ≤ l → l < j → Right (single l)) → first_refused k single i ≡ Err (RefusedAt (record { place = j; why = r }))
unfolding first_refused
first_refused_lem zero single i j r a b e before = absurd (omega arith)
first_refused_lem (suc k) single i j r a b e before =
    ⊎_elim
    (λ (q : i ≡ j). rw (q, e))
    (λ (p : i < j). rw (before i (omega arith) p).reached (first_refused_lem k single (i + 1) j r (omega arith) (omega arith) e (λ l u v. before l (omega arith) v)))
    (eq-or-lt_of_le a)

-- All places are right, or there is a first that is not.
abbrev FirstOf : ℕ → (ℕ → Reached) → ℕ → Type 0
FirstOf k single i =
    (j : ℕ) × (r : Refusal) × (i ≤ j) × (j < i + k) × (single j ≡ Err r) × ((l : ℕ) → i ≤ l → l < j → Right (single l))

abbrev AllOf : ℕ → (ℕ → Reached) → ℕ → Type 0
AllOf k single i = (j : ℕ) → i ≤ j → j < i + k → Right (single j)

look : (k : ℕ) (single : ℕ → Reached) (i : ℕ) → AllOf k single i ⊎ FirstOf k single i
look zero single i = inl (λ j u v. absurd (omega arith))
look (suc k) single i = go (single i) refl (look k single (i + 1)) where
  go : (x : Reached) → single i ≡ x → AllOf k single (i + 1) ⊎ FirstOf k single (i + 1) → AllOf (suc k) single i ⊎ FirstOf (suc k) single i
  go (Err r) e later = inr (i, r, omega arith, omega arith, e, λ l u v. absurd (omega arith))
  go (Ok x) e (inl all) =
      inl (λ j u v. here_or_later (λ j. Right (single j)) u (record { element = x; reached = e }) (λ p. all j (omega arith) (omega arith)))
  go (Ok x) e (inr p) =
      inr (p.0, p.1, omega (arith, p.2), omega (arith, p.3), p.4, λ l u v. here_or_later (λ j. Right (single j)) u (record { element = x; reached = e }) (λ q. p.5 l (omega arith) v))

right_number : {x : Reached} → Right x → x ≡ Ok (record { 0 = number_of x })
right_number {x} h = h.reached ∙ ap (λ (y : Reached). Ok (record { 0 = number_of y })) (sym h.reached)

-- The lists are alike, or 4 is due.
lengths_wrong : (first second out : ℕ) → lengths_right first second out ≡ false → Alike first second out → ⊥
lengths_wrong first second out h l = let z : true ≡ false = sym ((lengths_exactly first second out).1 l) ∙ h in differ z where
  differ : true ≡ false → ⊥
  differ z = let q : ◌≡◌ {A = ℕ} 0 1 = cc in omega arith

module _ (first second : ℕ) (single : ℕ → Reached) (out : List ℕ) where
  abbrev Whole : Answered
  Whole = over_lists (lengths_right first second (length out)) first single out

  pub given : {h : Answered} → Outcome first second single out h → Whole ≡ h
  unfolding over_lists each_place
  given (unlike wrong) = by (lengths_right first second (length out)) refl where
    by : (b : Bool) → lengths_right first second (length out) ≡ b → pick (lengths_right first second (length out)) (each_place first single out) (answered lists_refused out) ≡ answered lists_refused out
    by false q = rw q
    by true q = absurd (wrong ((lengths_exactly first second (length out)).0 q))
  given (stops place why l f) =
      rw ((lengths_exactly first second (length out)).1 l, first_refused_lem first single 0 place why (omega arith) (omega (arith, f.within)) f.refused (λ i u v. f.before i v))
  given (fills results l r) =
      let w : Worked first single fine results = all_worked r.right (omega (arith, r.long)) in
      rw ((lengths_exactly first second (length out)).1 l, ← w.told, ← w.filled refl, take_all first results (omega (arith, r.long)))

  some : (h : Answered) × Outcome first second single out h
  some = by (lengths_right first second (length out)) refl where
    by : (b : Bool) → lengths_right first second (length out) ≡ b → (h : Answered) × Outcome first second single out h
    by false q = (answered lists_refused out, unlike (lengths_wrong first second (length out) q))
    by true q =
        let l = (lengths_exactly first second (length out)).0 q in
        ⊎_elim
        (λ (all : AllOf first single 0). (
          answered fine (numbers first single 0),
          fills (numbers first single 0) l (record {
            long = numbers_long first single 0;
            right = record {
              each = λ j u. right_number (all j (omega arith) (omega arith)) ∙ ap (λ (x : ℕ). Ok (record { 0 = x })) (sym (numbers_at first single 0 j j u (omega arith)));
            };
          }),
        ))
        (λ (p : FirstOf first single 0). (
          answered (Err (RefusedAt (record { place = p.0; why = p.1 }))) out,
          stops p.0 p.1 l (record { within = omega (arith, p.3); refused = p.4; before = λ i v. p.5 i (omega arith) v }),
        ))
        (look first single 0)

  -- Each outcome, exactly.
  pub lists_exactly : (h : Answered) → Whole ≡ h ↔ Outcome first second single out h
  lists_exactly h = ((λ q. subst (Outcome first second single out) (sym (given some.1) ∙ q) some.1), (λ o. given o))

-- Lists that are alike, and single calls that are all known.
module _ {first second : ℕ} (single : ℕ → Reached) (out : List ℕ) (l : Alike first second (length out)) where
  pub filled_by_lem : (value : ℕ → ℕ) → ((place : ℕ) → place < first → single place ≡ Ok (record { 0 = value place }))
      → Filled (over_lists (lengths_right first second (length out)) first single out) first value
  filled_by_lem value at =
      let numbered : (place : ℕ) → place < first → get_or (numbers first single 0) place 0 ≡ value place =
      λ j u. numbers_at first single 0 j j u (omega arith) ∙ ap number_of (at j u) in
      record {
        results = numbers first single 0;
        answers = given first second single out (fills (numbers first single 0) l (record {
          long = numbers_long first single 0;
          right = record { each = λ j u. at j u ∙ ap (λ (x : ℕ). Ok (record { 0 = x })) (sym (numbered j u)) };
        }));
        long = numbers_long first single 0;
        each = numbered;
      }

  pub stopped_by : (place : ℕ) (why : Refusal) → place < first → single place ≡ Err why → ((before : ℕ) → before < place → Right (single before))
      → over_lists (lengths_right first second (length out)) first single out ≡ answered (Err (RefusedAt (record { place = place; why = why }))) out
  stopped_by place why u at before = given first second single out (stops place why l (record { within = u; refused = at; before = before }))

-- "Empty lists are fine", whatever the single call would say, of a bad handle too.
pub empty_fine : (single : ℕ → Reached) → over_lists (lengths_right 0 0 0) 0 single [] ≡ answered fine []
unfolding over_lists each_place first_refused numbers lengths_right
empty_fine single = refl
