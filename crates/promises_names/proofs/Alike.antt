-- Handles with the same numbers answer alike.
use mathlib.Core.Path.{◌≡◌, refl}
use Rattle.egg.specs.declared.Factor.{Factor}
use Rattle.builder.specs.declared.Builder.{Builder}
use Rattle.group_handles.specs.declared.Group.{Group}
use Rattle.promises_names.specs.Alike.{SameNumbers, FactorAlike, ProductAlike, BuilderAlike}

-- Nothing else is in a handle.
pub same_handle : (f g : Factor) → SameNumbers f g → f ≡ g
same_handle f g S = rw (S.starts, S.rooms, S.generators, S.elements)

pub same_product : (g h : Group) → g.factors ≡ h.factors → g.count ≡ h.count → g ≡ h
same_product g h p q = rw (p, q)

pub same_builder : (b c : Builder) → SameNumbers b.0 c.0 → b ≡ c
same_builder b c S = rw (same_handle b.0 c.0 S)

pub factor_alike : {f g : Factor} → f ≡ g → FactorAlike f g
factor_alike {f} {g} e = rw e (record {
  fits = λ len. refl;
  steps = λ t a x. refl;
  counts = λ t. refl;
  generators = λ t x. refl;
  walks = λ t a w. refl;
  composes = λ t a b. refl;
  inverts = λ t a. refl;
  conjugates = λ t a b. refl;
  lengths = λ t a. refl;
  writes = λ t a s. refl;
  leaves = λ t a o. refl;
  parts = λ t a o. refl;
  checks = λ t o. refl;
  images = λ t s. refl;
  image_leaves = λ t o. refl;
  composes_each = λ t a b o. refl;
  inverts_each = λ t a o. refl;
  powers_each = λ t a i o. refl;
})

pub product_alike : {g h : Group} → g ≡ h → ProductAlike g h
product_alike {g} {h} e = rw e (record {
  counts = λ t. refl;
  generator_counts = λ t. refl;
  generators = λ t x. refl;
  steps = λ t a x. refl;
  walks = λ t a w. refl;
  projects = λ t f a. refl;
  injects = λ t f a. refl;
  splits = λ t a s. refl;
  split_leaves_lem = λ t a o. refl;
  joined = λ t d. refl;
  composes = λ t a b. refl;
  inverts = λ t a. refl;
  conjugates = λ t a b. refl;
  powers = λ t a i. refl;
  periods = λ t a. refl;
  lengths = λ t a. refl;
  writes = λ t a s. refl;
  leaves = λ t a o. refl;
  parts = λ t a o. refl;
  flattens = λ from table start work room. refl;
  firsts = λ len b. refl;
  seconds = λ len a. refl;
  generated = λ from gens table start work inn outw room. refl;
  chosen = λ from members table start work inn outw room. refl;
  lefts = λ from table s. refl;
  rights = λ from table s. refl;
  composes_each = λ t a b o. refl;
  inverts_each = λ t a o. refl;
  powers_each = λ t a i o. refl;
})

pub builder_alike : {b c : Builder} → b ≡ c → BuilderAlike b c
builder_alike {b} {c} e = rw e (record { adds = λ t a g. refl; sets = λ t a g r. refl; builts = λ t w. refl })
