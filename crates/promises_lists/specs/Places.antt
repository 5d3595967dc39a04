-- What the calls over lists answer on every input, whatever the handle, the buffer and the lists are. Order 2: "The result at each place equals the single
-- call at that place. If any place would be refused, the first such place and its refusal come back and the output list is unchanged. Empty lists are fine. ..
-- Refusals: 4 when the lists' lengths differ or pass 4,096, before anything else; then the first refused place."
-- Assumes nothing.
use Rattle.std.specs.Prelude.{ℕ, ◌<◌, ◌≡◌, ◌↔◌, true, List, [], ◌∷◌, length, ℤ}
use Rattle.egg.specs.declared.Refusal.{Refusal}
use Rattle.egg.specs.declared.Factor.{Factor}
use Rattle.egg.specs.Answers.{Reached}
use Rattle.egg.specs.Factor.{refusal_paper}
use Rattle.build_checks_laws.specs.Numbers.{member, RefusalIn}
use Rattle.group_handles.specs.declared.Group.{Group}
use Rattle.lists.specs.Answers.{fine}
use Rattle.lists.specs.Lists.{ListPaper, listed_paper, Answered, answered}
use Rattle.lists_laws.specs.Outcomes.{Right, Alike, FirstRefusal, Outcome}
use Rattle.lists_factor.specs.Each as factor
use Rattle.lists_group.specs.Each as product

-- The answer on paper: the refusal's number and places, 0 where there is none, and the place of the lists.
abbrev pub paper_of : Answered → ListPaper
paper_of (answered said out) = listed_paper said

-- An answer on paper, where the single calls are refused by the numbers of l alone. 4 is the lists' own and comes from no place; 0 says that all places are
-- right; and a refusal of the single call, with its places, stands beside the first place that has it.
pub record OnPaper (l : List ℕ) (first second : ℕ) (single : ℕ → Reached) (out : List ℕ) (whole : Answered) : Type 0 where
  pub among : member (paper_of whole).refusal.number (0 ∷ 4 ∷ l) ≡ true
  pub unlike : (paper_of whole).refusal.number ≡ 4 ↔ (Alike first second (length out) → ⊥)
  pub right : (paper_of whole).refusal.number ≡ 0 ↔ (Alike first second (length out) × ((place : ℕ) → place < first → Right (single place)))
  pub refused : (place : ℕ) (why : Refusal) → RefusalIn l why
      → paper_of whole ≡ record { place = place; refusal = refusal_paper why } ↔ (Alike first second (length out) × FirstRefusal first single place why)

-- Three calls over lists, each by the single call at a place. Answer and output list are h exactly when h is the outcome; empty lists are fine; and on paper
-- there are the numbers of the single calls, those of l, beside 4 and 0.
pub record PlaceByPlace (l : List ℕ) (compose : List ℕ → List ℕ → ℕ → Reached) (inverse : List ℕ → ℕ → Reached) (power : List ℕ → List ℤ → ℕ → Reached)
    (composed : List ℕ → List ℕ → List ℕ → Answered) (inverted : List ℕ → List ℕ → Answered) (powered : List ℕ → List ℤ → List ℕ → Answered) : Type 0 where
  pub composes : (a b out : List ℕ) (h : Answered) → composed a b out ≡ h ↔ Outcome (length a) (length b) (compose a b) out h
  pub inverts : (a out : List ℕ) (h : Answered) → inverted a out ≡ h ↔ Outcome (length a) (length a) (inverse a) out h
  pub powers : (a : List ℕ) (exponents : List ℤ) (out : List ℕ) (h : Answered)
      → powered a exponents out ≡ h ↔ Outcome (length a) (length exponents) (power a exponents) out h
  pub composes_none : composed [] [] [] ≡ answered fine []
  pub inverts_none : inverted [] [] ≡ answered fine []
  pub powers_none : powered [] [] [] ≡ answered fine []
  pub composes_paper : (a b out : List ℕ) → OnPaper l (length a) (length b) (compose a b) out (composed a b out)
  pub inverts_paper : (a out : List ℕ) → OnPaper l (length a) (length a) (inverse a) out (inverted a out)
  pub powers_paper : (a : List ℕ) (exponents : List ℤ) (out : List ℕ) → OnPaper l (length a) (length exponents) (power a exponents) out (powered a exponents out)

-- Of a factor: the handle does not fit or a number that is read is out of range (17), or an element is (14).
abbrev pub FactorPlaces : List ℕ → Factor → Type 0
FactorPlaces t f =
    PlaceByPlace (14 ∷ 17 ∷ []) (factor.compose_at t f) (factor.inverse_at t f) (factor.powi_at t f) (factor.compose_each t f) (factor.inverse_each t f) (factor.powi_each t f)

-- Of a product: these, or it is beyond document 01's limits (15).
abbrev pub ProductPlaces : List ℕ → Group → Type 0
ProductPlaces t g =
    PlaceByPlace (14 ∷ 15 ∷ 17 ∷ []) (product.compose_at t g) (product.inverse_at t g) (product.powi_at t g) (product.compose_each t g) (product.inverse_each t g) (product.powi_each t g)
