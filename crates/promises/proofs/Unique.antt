-- Each question, and each call that makes a factor, has one answer and leaves one thing in each lent buffer, by its own contract. Every contract is an equation
-- with a definition over the values at entry, so two outcomes that meet it are both that.
use mathlib.Core.Path.{sym, ◌∙◌, ap}
use mathlib.Core.List.{List}
use Prim.Native.Nat.{ℕ}
use Rattle.egg.specs.Answers.{Counted}
use Rattle.build_lending.specs.Lending.{making}
use Rattle.egg.proofs.Refusal.number.Kinds as number-kinds
use Rattle.egg.proofs.Refusal.number.Reads as number-reads
use Rattle.egg.proofs.Refusal.places.Kinds as places-kinds
use Rattle.egg.proofs.Refusal.places.Reads as places-reads
use Rattle.egg.proofs.has_room.Kinds as has-room-kinds
use Rattle.egg.proofs.has_room.Reads as has-room-reads
use Rattle.egg.proofs.fits.Kinds as fits-kinds
use Rattle.egg.proofs.fits.Reads as fits-reads
use Rattle.egg.proofs.step.Kinds as step-kinds
use Rattle.egg.proofs.step.Reads as step-reads
use Rattle.factor.proofs.from_composed.Kinds as from-composed-kinds
use Rattle.factor.proofs.from_composed.Reads as from-composed-reads
use Rattle.factor.proofs.element_count.Kinds as element-count-kinds
use Rattle.factor.proofs.element_count.Reads as element-count-reads
use Rattle.factor.proofs.generator.Kinds as generator-kinds
use Rattle.factor.proofs.generator.Reads as generator-reads
use Rattle.factor.proofs.walk.Kinds as walk-kinds
use Rattle.factor.proofs.walk.Reads as walk-reads
use Rattle.factor.proofs.word_length.Kinds as word-length-kinds
use Rattle.factor.proofs.word_length.Reads as word-length-reads
use Rattle.factor.proofs.inverse.Kinds as inverse-kinds
use Rattle.factor.proofs.inverse.Reads as inverse-reads
use Rattle.factor.proofs.compose.Kinds as compose-kinds
use Rattle.factor.proofs.compose.Reads as compose-reads
use Rattle.factor.proofs.conjugate.Kinds as conjugate-kinds
use Rattle.factor.proofs.conjugate.Reads as conjugate-reads
use Rattle.factor.proofs.write_word.Kinds as write-word-kinds
use Rattle.factor.proofs.write_word.Reads as write-word-reads
use Rattle.factor.proofs.word.Kinds as word-kinds
use Rattle.factor.proofs.word.Reads as word-reads
use Rattle.factor.proofs.check.Kinds as check-kinds
use Rattle.factor.proofs.check.Reads as check-reads
use Rattle.enumeration.proofs.enumerate.Kinds as enumerate-kinds
use Rattle.enumeration.proofs.enumerate.Reads as enumerate-reads
use Rattle.promises.specs.Unique.{Unique}

-- egg.
pub number_unique : Unique 0 number-kinds.ps number-kinds.r number-reads.Post (λ κs a x. a)
number_unique = λ κs args a b x y p q. p ∙ sym q

pub places_unique : Unique 0 places-kinds.ps places-kinds.r places-reads.Post (λ κs a x. a)
places_unique = λ κs args a b x y p q. p ∙ sym q

pub has_room_unique : Unique 0 has-room-kinds.ps has-room-kinds.r has-room-reads.Post (λ κs a x. a)
has_room_unique = λ κs args a b x y p q. p ∙ sym q

pub fits_unique : Unique 1 fits-kinds.ps fits-kinds.r fits-reads.Post (λ κs a x. a)
fits_unique = λ κs args a b x y p q. p ∙ sym q

pub step_unique : Unique 1 step-kinds.ps step-kinds.r step-reads.Post (λ κs a x. a)
step_unique = λ κs args a b x y p q. p ∙ sym q

-- factor's questions.
pub element_count_unique : Unique 1 element-count-kinds.ps element-count-kinds.r element-count-reads.Post (λ κs a x. a)
element_count_unique = λ κs args a b x y p q. p ∙ sym q

pub generator_unique : Unique 1 generator-kinds.ps generator-kinds.r generator-reads.Post (λ κs a x. a)
generator_unique = λ κs args a b x y p q. p ∙ sym q

pub walk_unique : Unique 2 walk-kinds.ps walk-kinds.r walk-reads.Post (λ κs a x. a)
walk_unique = λ κs args a b x y p q. p ∙ sym q

pub word_length_unique : Unique 1 word-length-kinds.ps word-length-kinds.r word-length-reads.Post (λ κs a x. a)
word_length_unique = λ κs args a b x y p q. p ∙ sym q

pub inverse_unique : Unique 1 inverse-kinds.ps inverse-kinds.r inverse-reads.Post (λ κs a x. a)
inverse_unique = λ κs args a b x y p q. p ∙ sym q

pub compose_unique : Unique 1 compose-kinds.ps compose-kinds.r compose-reads.Post (λ κs a x. a)
compose_unique = λ κs args a b x y p q. p ∙ sym q

pub conjugate_unique : Unique 1 conjugate-kinds.ps conjugate-kinds.r conjugate-reads.Post (λ κs a x. a)
conjugate_unique = λ κs args a b x y p q. p ∙ sym q

pub check_unique : Unique 2 check-kinds.ps check-kinds.r check-reads.Post (λ κs a x. a)
check_unique = λ κs args a b x y p q. p ∙ sym q

-- The answer and the byte buffer.
pub write_word_unique : Unique 2 write-word-kinds.ps write-word-kinds.r write-word-reads.Post {A = Counted × List ℕ} (λ κs a x. (a, x.1.1.1.0.now))
write_word_unique = λ κs args a b x y p q. ap (λ c. (c, x.1.1.1.0.now)) (p.0 ∙ sym q.0) ∙ ap (λ l. (b, l)) (p.1 ∙ sym q.1)

-- The part of the buffer that is handed back. Of the rest of the buffer the language lets this contract say nothing; `write_word` says what it holds.
pub word_unique : Unique 2 word-kinds.ps word-kinds.r word-reads.Post (λ κs a x. a.now)
word_unique = λ κs args a b x y p q. p ∙ sym q

-- The calls that make a factor: the verdict and the handle, the table and the work.
pub from_composed_unique : Unique 3 from-composed-kinds.ps from-composed-kinds.r from-composed-reads.Post (λ κs a x. making a x.0.now x.1.1.0.now)
from_composed_unique = λ κs args a b x y p q. p ∙ sym q

pub enumerate_unique : Unique 3 enumerate-kinds.ps enumerate-kinds.r enumerate-reads.Post (λ κs a x. making a x.0.now x.1.1.0.now)
enumerate_unique = λ κs args a b x y p q. p ∙ sym q
