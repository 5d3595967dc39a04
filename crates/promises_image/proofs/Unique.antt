-- Each of the image's calls, and each of its C functions, has one answer and leaves one thing in each lent buffer, by its own contract. Every contract is an
-- equation with a definition over the values at entry, so two outcomes that meet it are both that.
use Prim.Native.Nat.{ℕ}
use mathlib.Core.Path.{sym, ◌∙◌, ap}
use mathlib.Core.List.{List}
use Rattle.egg.specs.Answers.{Counted, Verdict}
use Rattle.build_lending.specs.Lending.{making}
use Rattle.image.proofs.head.Kinds as head-kinds
use Rattle.image.proofs.head.Reads as head-reads
use Rattle.image.proofs.generators.Kinds as generators-kinds
use Rattle.image.proofs.generators.Reads as generators-reads
use Rattle.image.proofs.elements.Kinds as elements-kinds
use Rattle.image.proofs.elements.Reads as elements-reads
use Rattle.image.proofs.bytes_need.Kinds as bytes-need-kinds
use Rattle.image.proofs.bytes_need.Reads as bytes-need-reads
use Rattle.image.proofs.need.Kinds as need-kinds
use Rattle.image.proofs.need.Reads as need-reads
use Rattle.image.proofs.verdict.Kinds as verdict-kinds
use Rattle.image.proofs.verdict.Reads as verdict-reads
use Rattle.image.proofs.check.Kinds as check-kinds
use Rattle.image.proofs.check.Reads as check-reads
use Rattle.image.proofs.walk.Kinds as walk-kinds
use Rattle.image.proofs.walk.Reads as walk-reads
use Rattle.image.proofs.write.Kinds as write-kinds
use Rattle.image.proofs.write.Reads as write-reads
use Rattle.image.proofs.read.Kinds as read-kinds
use Rattle.image.proofs.read.Reads as read-reads
use Rattle.capi_image.proofs.hg_image_check.Kinds as hg-image-check-kinds
use Rattle.capi_image.proofs.hg_image_check.Reads as hg-image-check-reads
use Rattle.capi_image.proofs.hg_image_walk.Kinds as hg-image-walk-kinds
use Rattle.capi_image.proofs.hg_image_walk.Reads as hg-image-walk-reads
use Rattle.promises.specs.Unique.{Unique}

-- What an image's head says.
pub head_unique : Unique 1 head-kinds.ps head-kinds.r head-reads.Post (λ κs a x. a)
head_unique = λ κs args a b x y p q. p ∙ sym q

pub generators_unique : Unique 1 generators-kinds.ps generators-kinds.r generators-reads.Post (λ κs a x. a)
generators_unique = λ κs args a b x y p q. p ∙ sym q

pub elements_unique : Unique 1 elements-kinds.ps elements-kinds.r elements-reads.Post (λ κs a x. a)
elements_unique = λ κs args a b x y p q. p.at ∙ sym q.at

pub bytes_need_unique : Unique 0 bytes-need-kinds.ps bytes-need-kinds.r bytes-need-reads.Post (λ κs a x. a)
bytes_need_unique = λ κs args a b x y p q. p ∙ sym q

pub need_unique : Unique 1 need-kinds.ps need-kinds.r need-reads.Post (λ κs a x. a)
need_unique = λ κs args a b x y p q. p ∙ sym q

-- The verdict and the work; the number and the work.
pub verdict_unique : Unique 2 verdict-kinds.ps verdict-kinds.r verdict-reads.Post {A = Verdict × List ℕ} (λ κs a x. (a, x.1.0.now))
verdict_unique = λ κs args a b x y p q. ap (λ c. (c, x.1.0.now)) (p.0 ∙ sym q.0) ∙ ap (λ l. (b, l)) (p.1 ∙ sym q.1)

pub check_unique : Unique 2 check-kinds.ps check-kinds.r check-reads.Post {A = ℕ × List ℕ} (λ κs a x. (a, x.1.0.now))
check_unique = λ κs args a b x y p q. ap (λ c. (c, x.1.0.now)) (p.0 ∙ sym q.0) ∙ ap (λ l. (b, l)) (p.1 ∙ sym q.1)

pub hg_image_check_unique : Unique 2 hg-image-check-kinds.ps hg-image-check-kinds.r hg-image-check-reads.Post {A = ℕ × List ℕ} (λ κs a x. (a, x.1.0.now))
hg_image_check_unique = λ κs args a b x y p q. ap (λ c. (c, x.1.0.now)) (p.0 ∙ sym q.0) ∙ ap (λ l. (b, l)) (p.1 ∙ sym q.1)

-- The number that a walk gives.
pub walk_unique : Unique 2 walk-kinds.ps walk-kinds.r walk-reads.Post (λ κs a x. a)
walk_unique = λ κs args a b x y p q. p ∙ sym q

pub hg_image_walk_unique : Unique 2 hg-image-walk-kinds.ps hg-image-walk-kinds.r hg-image-walk-reads.Post (λ κs a x. a)
hg_image_walk_unique = λ κs args a b x y p q. p ∙ sym q

-- The count and the bytes; the verdict and the handle, the table and the work.
pub write_unique : Unique 2 write-kinds.ps write-kinds.r write-reads.Post {A = Counted × List ℕ} (λ κs a x. (a, x.1.1.0.now))
write_unique = λ κs args a b x y p q. ap (λ c. (c, x.1.1.0.now)) (p.0 ∙ sym q.0) ∙ ap (λ l. (b, l)) (p.1 ∙ sym q.1)

pub read_unique : Unique 3 read-kinds.ps read-kinds.r read-reads.Post (λ κs a x. making a x.1.0.now x.1.1.1.0.now)
read_unique = λ κs args a b x y p q. p ∙ sym q
