-- What is promised of an accepted factor holds of its handle, with whatever name: each call's own promise, by what it makes name aside.
use Prim.Native.Nat.{ℕ, ◌≤◌, ◌<◌}
use mathlib.Core.Path.{◌≡◌, sym, ap, ◌∙◌}
use mathlib.Core.List.{List}
use native.Mathlib.Decide.{dec_lt}
use native.Mathlib.Omega.{arith}
use lib.ListN.{length, drop}
use Rattle.std.specs.Prelude.{Ok}
use Rattle.build_lending.specs.Lending.{Making, making}
use Rattle.promises.specs.Composed.{Given}
use Rattle.promises.specs.Enumerated.{Enumerated}
use Rattle.promises.proofs.Composed.{composed_given}
use Rattle.promises.proofs.Enumerated.{enumeration_accepted}
use Rattle.promises_refusals.specs.Papers.{answer_of}
use Rattle.promises_builder.specs.Own.{own_rows}
use Rattle.promises_builder.proofs.Builds.{build_given}
use Rattle.promises_group.specs.Products.{AcceptedProduct, FlatGiven, direct}
use Rattle.promises_group.proofs.FlatGiven.{flat_given}
use Rattle.promises_image.specs.Images.{Bytes}
use Rattle.promises_image.proofs.Back.{read_given}
use Rattle.image_cells.specs.Cells.{halves}
use Rattle.image.specs.Image.{head_generators, head_elements}
use Rattle.names_values.specs.declared.Name.{Name}
use Rattle.names_values.specs.declared.Named.{Named}
use Rattle.names_values.specs.declared.NamedBuilder.{NamedBuilder}
use Rattle.names_values.specs.declared.NamedGroup.{NamedGroup}
use Rattle.names_values.specs.Names.{name_of, no_name}
use Rattle.names.specs.Making.{NamedMaking, named_making, named_composed, named_enumerates, named_builds, named_read, named_flat}
use Rattle.promises_names.specs.Aside.{name_aside, name_made, AsBefore}
use Rattle.promises_names.specs.Given.{NamedGiven}
use Rattle.promises_names.specs.LongNames.{LongName}
use Rattle.promises_names.proofs.Making.{composed_as_before, enumerate_as_before, build_as_before, read_as_before, flat_as_before}
use Rattle.promises_names.proofs.LongNames.{composed_long, enumerate_long}

module _ {f : Named} {t w : List ℕ} {x : NamedMaking} (q : x ≡ named_making (Ok f) t w) where
  -- The call without a name accepts the same handle, and the record has the name.
  made_fine : {m : Name} {made : Making} → AsBefore m made x → (made ≡ making (Ok f.factor) t w) × (f.name ≡ m)
  made_fine {m} {made} M =
      let e : made ≡ making (Ok f.factor) t w = sym M.as_before ∙ ap name_aside q in
      (e, sym (ap name_made q) ∙ M.accepted (ap answer_of e))

  -- With a name that is given in bytes.
  named_given : {right : Type 0} {made : Making} {t₀ w₀ : List ℕ} (name : List ℕ) → (length name ≤ 32 → AsBefore (name_of name) made x)
      → (32 < length name → LongName right made t₀ w₀ x)
      → (made ≡ making (Ok f.factor) t w) × ((length name ≤ 32) × (f.name ≡ name_of name))
  named_given {made = made} name short long = by (dec_lt 32 (length name)) where
    by : Dec (32 < length name) → (made ≡ making (Ok f.factor) t w) × ((length name ≤ 32) × (f.name ≡ name_of name))
    by (yes l) = absurd ((long l).refused (ap (λ (y : NamedMaking). answer_of (name_aside y)) q))
    by (no l) = let h : length name ≤ 32 = omega arith in let M = made_fine (short h) in (M.0, (h, M.1))

module _ (table : List ℕ) (start : ℕ) (work rows : List ℕ) (n room : ℕ) (name : List ℕ) {f : Named} {t w : List ℕ} where
  pub composed_named_given : named_composed table start work rows n room name ≡ named_making (Ok f) t w
      → NamedGiven (Given table start work rows n room f.factor t w) name f.name
  composed_named_given q =
      let g = named_given q name (λ s. composed_as_before name s table start work rows n room) (λ l. composed_long name l table start work rows n room) in
      record { as_unnamed = composed_given table start work rows n room f.factor t w g.0; short = g.1.0; kept = g.1.1 }

module _ (table : List ℕ) (start : ℕ) (work orders : List ℕ) (n room : ℕ) (name : List ℕ) {f : Named} {t w : List ℕ} where
  pub enumerate_named_given : named_enumerates table start work orders n room name ≡ named_making (Ok f) t w
      → NamedGiven (Enumerated table start work orders n room f.factor t w) name f.name
  enumerate_named_given q =
      let g = named_given q name (λ s. enumerate_as_before name s table start work orders n room) (λ l. enumerate_long name l table start work orders n room) in
      record { as_unnamed = enumeration_accepted table start work orders n room f.factor t w g.0; short = g.1.0; kept = g.1.1 }

-- The factor that is built has the builder's name.
pub build_named_given : (t₀ : List ℕ) (b : NamedBuilder) (w₀ : List ℕ) {f : Named} {t w : List ℕ}
    → named_builds t₀ b w₀ ≡ named_making (Ok f) t w
    → Given t₀ b.builder.0.start w₀ (own_rows t₀ b.builder.0) b.builder.0.generators b.builder.0.room f.factor t w × (f.name ≡ b.name)
build_named_given t₀ b w₀ {f} {t} {w} q =
    let M = made_fine q (build_as_before t₀ b w₀) in
    (build_given t₀ b.builder w₀ f.factor t w M.0, M.1)

pub read_named_given : {image : List ℕ} → Bytes image → (table : List ℕ) (start : ℕ) (work : List ℕ) {f : Named} {t w : List ℕ}
    → named_read image table start work ≡ named_making (Ok f) t w
    → Given table start work (halves (drop 8 image)) (head_generators image) (head_elements image) f.factor t w × (f.name ≡ no_name)
read_named_given {image} B table start work {f} {t} {w} q =
    let M = made_fine q (read_as_before image table start work) in
    ((read_given image B table start work M.0).1, M.1)

pub flat_named_given : {from : List ℕ} (g : NamedGroup) → AcceptedProduct from g.group → (table : List ℕ) (start : ℕ) (work : List ℕ) (room : ℕ)
    {f : Named} {t w : List ℕ} → named_flat from g table start work room ≡ named_making (Ok f) t w
    → FlatGiven (direct from g.group) t f.factor × (f.name ≡ no_name)
flat_named_given {from} g A table start work room {f} {t} {w} q =
    let M = made_fine q (flat_as_before from g table start work room) in
    (flat_given A table start work room M.0, M.1)
