-- Each call on factors and products with names has one answer and leaves one thing in each lent buffer, by its own contract.
use Prim.Native.Nat.{ℕ}
use mathlib.Core.Path.{sym, ◌∙◌, ap}
use mathlib.Core.List.{List}
use Rattle.egg.specs.Answers.{Counted}
use Rattle.builder.specs.Calls.{leaving}
use Rattle.names.specs.Making.{named_making}
use Rattle.names_values.proofs.no_name.Kinds as no-name-kinds
use Rattle.names_values.proofs.no_name.Reads as no-name-reads
use Rattle.names_values.proofs.unnamed.Kinds as unnamed-kinds
use Rattle.names_values.proofs.unnamed.Reads as unnamed-reads
use Rattle.names.proofs.from_composed.Kinds as from-composed-kinds
use Rattle.names.proofs.from_composed.Reads as from-composed-reads
use Rattle.names.proofs.enumerate.Kinds as enumerate-kinds
use Rattle.names.proofs.enumerate.Reads as enumerate-reads
use Rattle.names.proofs.begin.Kinds as begin-kinds
use Rattle.names.proofs.begin.Reads as begin-reads
use Rattle.names.proofs.build.Kinds as build-kinds
use Rattle.names.proofs.build.Reads as build-reads
use Rattle.names.proofs.read.Kinds as read-kinds
use Rattle.names.proofs.read.Reads as read-reads
use Rattle.names.proofs.flatten.Kinds as flatten-kinds
use Rattle.names.proofs.flatten.Reads as flatten-reads
use Rattle.names.proofs.trivial.Kinds as trivial-kinds
use Rattle.names.proofs.trivial.Reads as trivial-reads
use Rattle.names.proofs.of.Kinds as of-kinds
use Rattle.names.proofs.of.Reads as of-reads
use Rattle.names.proofs.product.Kinds as product-kinds
use Rattle.names.proofs.product.Reads as product-reads
use Rattle.names.proofs.write_joined.Kinds as write-joined-kinds
use Rattle.names.proofs.write_joined.Reads as write-joined-reads
use Rattle.names.proofs.joined.Kinds as joined-kinds
use Rattle.names.proofs.joined.Reads as joined-reads
use Rattle.promises.specs.Unique.{Unique}

-- What makes names, factors and products.
pub no_name_unique : Unique 0 no-name-kinds.ps no-name-kinds.r no-name-reads.Post (λ κs a x. a)
no_name_unique = λ κs args a b x y p q. p ∙ sym q

pub unnamed_unique : Unique 0 unnamed-kinds.ps unnamed-kinds.r unnamed-reads.Post (λ κs a x. a)
unnamed_unique = λ κs args a b x y p q. p ∙ sym q

pub from_composed_unique : Unique 4 from-composed-kinds.ps from-composed-kinds.r from-composed-reads.Post (λ κs a x. named_making a x.0.now x.1.1.0.now)
from_composed_unique = λ κs args a b x y p q. p ∙ sym q

pub enumerate_unique : Unique 4 enumerate-kinds.ps enumerate-kinds.r enumerate-reads.Post (λ κs a x. named_making a x.0.now x.1.1.0.now)
enumerate_unique = λ κs args a b x y p q. p ∙ sym q

pub begin_unique : Unique 2 begin-kinds.ps begin-kinds.r begin-reads.Post (λ κs a x. leaving a x.0.now)
begin_unique = λ κs args a b x y p q. p ∙ sym q

pub build_unique : Unique 2 build-kinds.ps build-kinds.r build-reads.Post (λ κs a x. named_making a x.0.now x.1.1.0.now)
build_unique = λ κs args a b x y p q. p ∙ sym q

pub read_unique : Unique 3 read-kinds.ps read-kinds.r read-reads.Post (λ κs a x. named_making a x.1.0.now x.1.1.1.0.now)
read_unique = λ κs args a b x y p q. p ∙ sym q

pub flatten_unique : Unique 3 flatten-kinds.ps flatten-kinds.r flatten-reads.Post (λ κs a x. named_making a x.1.1.0.now x.1.1.1.1.0.now)
flatten_unique = λ κs args a b x y p q. p ∙ sym q

pub trivial_unique : Unique 0 trivial-kinds.ps trivial-kinds.r trivial-reads.Post (λ κs a x. a)
trivial_unique = λ κs args a b x y p q. p ∙ sym q

pub of_unique : Unique 0 of-kinds.ps of-kinds.r of-reads.Post (λ κs a x. a)
of_unique = λ κs args a b x y p q. p ∙ sym q

pub product_unique : Unique 1 product-kinds.ps product-kinds.r product-reads.Post (λ κs a x. a)
product_unique = λ κs args a b x y p q. p ∙ sym q

-- The joined name; of the form that hands a part of the buffer back, that part.
pub write_joined_unique : Unique 2 write-joined-kinds.ps write-joined-kinds.r write-joined-reads.Post {A = Counted × List ℕ} (λ κs a x. (a, x.1.1.0.now))
write_joined_unique = λ κs args a b x y p q. ap (λ c. (c, x.1.1.0.now)) (p.0 ∙ sym q.0) ∙ ap (λ l. (b, l)) (p.1 ∙ sym q.1)

pub joined_unique : Unique 2 joined-kinds.ps joined-kinds.r joined-reads.Post (λ κs a x. a.now)
joined_unique = λ κs args a b x y p q. p ∙ sym q
