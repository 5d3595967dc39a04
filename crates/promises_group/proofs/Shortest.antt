-- Of a product of accepted factors no word that leads to an element is shorter than the recorded one: each factor's recorded word is a shortest one, since its
-- table follows the numbering rule.
use Prim.Native.Nat.{ℕ, ◌≤◌}
use mathlib.Core.Path.{◌≡◌}
use mathlib.Core.List.{List}
use lib.ListN.{length}
use Rattle.egg.specs.declared.Factor.{Factor}
use Rattle.theory.specs.Words.{Word, walk}
use Rattle.factor_laws.specs.Accepted.{Accepted}
use Rattle.theory_products.specs.Product as theory
use Rattle.theory_products.specs.Product.{Each, Shortest}
use Rattle.theory_products.proofs.TableParts.{table_shortest}
use Rattle.theory_products.proofs.WordLaws as words
use Rattle.group_handles.specs.declared.Group.{Group}
use Rattle.promises_group.specs.Products.{part, parts, AllAccepted, none, more, AcceptedProduct, direct}

part_shortest : {t : List ℕ} {h : Factor} → Accepted t h → Shortest (part t h)
part_shortest A =
    table_shortest A.sound.table A.sound.spelled A.sound.columns A.sound.check A.ruled.appearance A.sound.recorded

all_shortest : {t : List ℕ} {hs : List Factor} → AllAccepted t hs → Each Shortest (parts t hs)
all_shortest none = theory.none
all_shortest (more A As) = theory.more (part_shortest A) (all_shortest As)

pub recorded_shortest : {t : List ℕ} {g : Group} → AcceptedProduct t g → {e : ℕ} {u : List ℕ} → Word (direct t g).generators u
    → walk (direct t g).step 0 u ≡ e → length ((direct t g).word e) ≤ length u
recorded_shortest A hu q = (words.product_shortest (all_shortest A.factors)).shortest hu q
