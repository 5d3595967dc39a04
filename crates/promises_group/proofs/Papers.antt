-- Of a product of accepted factors every answer on paper is the direct product's; and `product` answers each number exactly where it is due.
use Prim.Native.Nat.{ℕ}
use mathlib.Core.Path.{◌≡◌, refl, sym, ap, ◌∙◌}
use mathlib.Core.Bool.{Bool, true, false, ◌&&◌}
use mathlib.Core.List.{List, ◌++◌}
use native.Mathlib.Omega.{arith}
use borrow.Author.Tests.{le-leb, leb-true}
use lib.Dec.{leb}
use lib.ListN.{length}
use Rattle.egg.specs.Factor.{Paper, reached_paper, counted_paper}
use Rattle.egg.proofs.Rooms.{and_first, and_second, false_true}
use Rattle.factor_laws.specs.Papers.{value_paper}
use Rattle.group_handles.specs.declared.Group.{Group}
use Rattle.group_handles.specs.Handles.{handles, elements_of, all_fit, joins}
use Rattle.promises_group.specs.Products.{AcceptedProduct, direct}
use Rattle.promises_group.specs.Papers.{grouped_paper, refused_paper, Together, ProductPaper, ProductPapers}
use Rattle.promises_group.proofs.Answers.{product_answers}

pub product_papers : {t : List ℕ} {g : Group} → AcceptedProduct t g → ProductPapers t g (direct t g)
product_papers A = let Q = product_answers A in record {
  group = Q.group;
  right_steps = Q.right_steps;
  counts = ap counted_paper Q.counts;
  generator_counts = ap counted_paper Q.generator_counts;
  generators = λ hx. ap reached_paper (Q.generators hx);
  steps = λ he hx. ap reached_paper (Q.steps he hx);
  composes = λ ha hb. ap reached_paper (Q.composes ha hb);
  inverts = λ ha. ap reached_paper (Q.inverts ha);
  conjugates = λ ha hb. ap reached_paper (Q.conjugates ha hb);
  powers = λ ha z. ap reached_paper (Q.powers ha z);
  periods = λ ha. let (k, q, K) = Q.periods ha in (k, ap counted_paper q, K);
  splits = λ size he h. ap counted_paper (Q.split_counts size he h);
  joins = λ he. ap reached_paper (Q.joins he);
  projects = λ hf he. ap reached_paper (Q.projects hf he);
  injects = λ hf hx. ap reached_paper (Q.injects hf hx);
  lengths = λ he. ap counted_paper (Q.lengths he);
  writes = λ size he h. ap counted_paper (Q.writes size he h);
}

numbers : {p q : Paper} → p ≡ q → p.number ≡ q.number
numbers e = ap (λ (p : Paper). p.number) e

module _ (len : ℕ) (a b : Group) where
  tests : Bool
  tests = leb a.count 8 && (leb b.count 8 && (leb (length (handles a ++ handles b)) 8 && leb (elements_of (handles a ++ handles b)) 4294967295))

  together : tests ≡ true → Together a b
  unfolding tests
  together q =
      let r = and_second (leb a.count 8) _ q in
      let s = and_second (leb b.count 8) _ r in
      record {
        first = leb-true _ _ (and_first (leb a.count 8) _ q);
        second = leb-true _ _ (and_first (leb b.count 8) _ r);
        factors = leb-true _ _ (and_first (leb (length (handles a ++ handles b)) 8) _ s);
        elements = leb-true _ _ (and_second (leb (length (handles a ++ handles b)) 8) _ s);
      }

  apart : tests ≡ false → Together a b → ⊥
  unfolding tests
  apart q T =
      false_true (sym (rw (le-leb _ _ T.first, le-leb _ _ T.second, le-leb _ _ T.factors, le-leb _ _ T.elements) at q))

  pub product_paper : ProductPaper len a b
  unfolding joins tests
  product_paper = by (all_fit len (handles a ++ handles b)) tests refl refl where
    by : (x y : Bool) → all_fit len (handles a ++ handles b) ≡ x → tests ≡ y → ProductPaper len a b
    by false y p q =
        let e : grouped_paper (joins len a b) ≡ refused_paper 17 = rw p in
        record {
          handle = (λ z. p, λ z. e);
          large = (λ z. absurd (omega (arith, numbers (sym e ∙ z))), λ z. absurd (false_true (sym p ∙ z.0)));
          fine = (λ z. absurd (omega (arith, numbers (sym e ∙ z))), λ z. absurd (false_true (sym p ∙ z.0)));
          made = λ z. absurd (omega (arith, numbers (sym e ∙ z)));
        }
    by true false p q =
        let e : grouped_paper (joins len a b) ≡ refused_paper 15 = rw (p, q) in
        record {
          handle = (λ z. absurd (omega (arith, numbers (sym e ∙ z))), λ z. absurd (false_true (sym z ∙ p)));
          large = (λ z. (p, apart q), λ z. e);
          fine = (λ z. absurd (omega (arith, numbers (sym e ∙ z))), λ z. absurd (apart q z.1));
          made = λ z. absurd (omega (arith, numbers (sym e ∙ z)));
        }
    by true true p q =
        let e : grouped_paper (joins len a b) ≡ value_paper 0 = rw (p, q) in
        record {
          handle = (λ z. absurd (omega (arith, numbers (sym e ∙ z))), λ z. absurd (false_true (sym z ∙ p)));
          large = (λ z. absurd (omega (arith, numbers (sym e ∙ z))), λ z. absurd (z.1 (together q)));
          fine = (λ z. (p, together q), λ z. e);
          made = λ z. rw (p, q);
        }
