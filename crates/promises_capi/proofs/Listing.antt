-- The listing's one call has one answer and leaves one text in the lent bytes, by its own contract: an equation for each.
use Prim.Native.Nat.{ℕ}
use mathlib.Core.Path.{sym, ◌∙◌, ap}
use mathlib.Core.List.{List}
use Rattle.egg.specs.Answers.{Counted}
use Rattle.listing_page.proofs.listing.Kinds as listing-kinds
use Rattle.listing_page.proofs.listing.Reads as listing-reads
use Rattle.promises.specs.Unique.{Unique}

-- The length or the refusal, and what the lent bytes hold.
pub listing_unique : Unique 2 listing-kinds.ps listing-kinds.r listing-reads.Post {A = Counted × List ℕ} (λ κs a x. (a, x.1.0.now))
listing_unique = λ κs args a b x y p q. ap (λ c. (c, x.1.0.now)) (p.0 ∙ sym q.0) ∙ ap (λ l. (b, l)) (p.1 ∙ sym q.1)
