-- Which names a product has: none, the factor's, those of the first and then those of the second.
use Prim.Native.Nat.{ℕ, ◌+◌, ◌-◌, ◌≤◌}
use mathlib.Core.Path.{◌≡◌, refl, sym, ap, ◌∙◌, subst}
use mathlib.Core.List.{List, [], ◌∷◌, ◌++◌}
use native.Mathlib.Omega.{arith}
use lib.ListN.{length, replicate, length-append}
use lib.Seq.{take_at, length-take-le}
use Rattle.egg.specs.declared.Factor.{Factor}
use Rattle.std.specs.Prelude.{Ok, Err}
use Rattle.build_lending.specs.Lending.{no_factor}
use Rattle.group_handles.specs.Answers.{Grouped}
use Rattle.group_handles.specs.Handles.{handles, group_of, joins}
use Rattle.factor_laws.specs.Papers.{value_paper}
use Rattle.promises_group.specs.Papers.{grouped_paper, Together}
use Rattle.promises_group.proofs.Papers.{product_paper}
use Rattle.names_values.specs.declared.Name.{Name}
use Rattle.names_values.specs.declared.Named.{Named}
use Rattle.names_values.specs.declared.NamedGroup.{NamedGroup}
use Rattle.names_values.specs.Answers.{NamedGrouped}
use Rattle.names_values.specs.Names.{no_name}
use Rattle.names_joined.specs.Joined.{listed_names}
use Rattle.names.specs.Products.{with_names, product_of_one, grouped_with, named_joins}
use Rattle.promises_names.specs.Joining.{EightPlaces}
use Rattle.promises_names.proofs.Joining.{filled}

pub listed_none : listed_names (with_names (group_of []) []) ≡ []
listed_none = refl

pub listed_one : (f : Named) → listed_names (product_of_one f) ≡ f.name ∷ []
listed_one f = refl

eight_places : (hs : List Factor) (ms : List Name) → length hs ≤ 8 → length ms ≤ 8 → EightPlaces (with_names (group_of hs) ms)
eight_places hs ms h k = record { handles = filled 8 no_factor hs h; names = filled 8 no_name ms k }

pub eight_none : EightPlaces (with_names (group_of []) [])
eight_none = eight_places [] [] (omega arith) (omega arith)

pub eight_one : (f : Named) → EightPlaces (product_of_one f)
eight_one f = eight_places (f.factor ∷ []) (f.name ∷ []) (omega arith) (omega arith)

-- What `product` made was accepted.
accepted : (x : Grouped) (ms : List Name) {g : NamedGroup} → grouped_with x ms ≡ Ok g → grouped_paper x ≡ value_paper 0
accepted (Ok h) ms e = refl
accepted (Err r) ms e = let z : ◌≡◌ {A = ℕ} 0 1 = cc in absurd (omega arith)

same_made : {x y : NamedGroup} → ◌≡◌ {A = NamedGrouped} (Ok x) (Ok y) → x ≡ y
same_made e = cc

module _ (len : ℕ) (a b : NamedGroup) (A : EightPlaces a) (B : EightPlaces b) {g : NamedGroup} (was : named_joins len a b ≡ Ok g) where
  abbrev both : List Factor
  both = handles a.group ++ handles b.group

  abbrev both_names : List Name
  both_names = listed_names a ++ listed_names b

  given : grouped_paper (joins len a.group b.group) ≡ value_paper 0
  unfolding named_joins
  given = accepted (joins len a.group b.group) both_names was

  together : Together a.group b.group
  together = ((product_paper len a.group b.group).fine.0 given).1

  made : g ≡ with_names (group_of both) both_names
  unfolding named_joins
  made = same_made (sym was ∙ ap (λ (x : Grouped). grouped_with x both_names) ((product_paper len a.group b.group).made given))

  as_many : (g : NamedGroup) → EightPlaces g → g.group.count ≤ 8 → length (listed_names g) ≡ length (handles g.group)
  as_many g E h =
      length-take-le g.group.count g.names (rw E.names h) ∙ sym (length-take-le g.group.count g.group.factors (rw E.handles h))

  as_many_both : length both_names ≡ length both
  as_many_both =
      let e : length (listed_names a) + length (listed_names b) ≡ length (handles a.group) + length (handles b.group)
      = rw (as_many a A together.first, as_many b B together.second) in
      length-append (listed_names a) (listed_names b) ∙ e ∙ sym (length-append (handles a.group) (handles b.group))

  -- The names of the first, then those of the second.
  pub listed_joined : listed_names g ≡ listed_names a ++ listed_names b
  listed_joined = ap listed_names made ∙ take_at both_names (replicate (8 - length both_names) no_name) (length both) as_many_both

  pub eight_joined : EightPlaces g
  eight_joined = subst EightPlaces (sym made) (eight_places both both_names together.factors (rw as_many_both together.factors))
