-- Each call on products has one answer and leaves one thing in each lent buffer, by its own contract. Every contract is an equation with a definition over
-- the values at entry, so two outcomes that meet it are both that.
use Prim.Native.Nat.{ℕ}
use mathlib.Core.Path.{sym, ◌∙◌, ap}
use mathlib.Core.List.{List}
use Rattle.egg.specs.Answers.{Counted}
use Rattle.build_lending.specs.Lending.{making}
use Rattle.group_handles.proofs.trivial.Kinds as trivial-kinds
use Rattle.group_handles.proofs.trivial.Reads as trivial-reads
use Rattle.group_handles.proofs.of.Kinds as of-kinds
use Rattle.group_handles.proofs.of.Reads as of-reads
use Rattle.group_handles.proofs.product.Kinds as product-kinds
use Rattle.group_handles.proofs.product.Reads as product-reads
use Rattle.group.proofs.element_count.Kinds as element-count-kinds
use Rattle.group.proofs.element_count.Reads as element-count-reads
use Rattle.group.proofs.generator_count.Kinds as generator-count-kinds
use Rattle.group.proofs.generator_count.Reads as generator-count-reads
use Rattle.group.proofs.generator.Kinds as generator-kinds
use Rattle.group.proofs.generator.Reads as generator-reads
use Rattle.group.proofs.step.Kinds as step-kinds
use Rattle.group.proofs.step.Reads as step-reads
use Rattle.group.proofs.walk.Kinds as walk-kinds
use Rattle.group.proofs.walk.Reads as walk-reads
use Rattle.group.proofs.project.Kinds as project-kinds
use Rattle.group.proofs.project.Reads as project-reads
use Rattle.group.proofs.inject.Kinds as inject-kinds
use Rattle.group.proofs.inject.Reads as inject-reads
use Rattle.group.proofs.split.Kinds as split-kinds
use Rattle.group.proofs.split.Reads as split-reads
use Rattle.group.proofs.join.Kinds as join-kinds
use Rattle.group.proofs.join.Reads as join-reads
use Rattle.group.proofs.compose.Kinds as compose-kinds
use Rattle.group.proofs.compose.Reads as compose-reads
use Rattle.group.proofs.inverse.Kinds as inverse-kinds
use Rattle.group.proofs.inverse.Reads as inverse-reads
use Rattle.group.proofs.conjugate.Kinds as conjugate-kinds
use Rattle.group.proofs.conjugate.Reads as conjugate-reads
use Rattle.group.proofs.powi.Kinds as powi-kinds
use Rattle.group.proofs.powi.Reads as powi-reads
use Rattle.group.proofs.period.Kinds as period-kinds
use Rattle.group.proofs.period.Reads as period-reads
use Rattle.group.proofs.word_length.Kinds as word-length-kinds
use Rattle.group.proofs.word_length.Reads as word-length-reads
use Rattle.group.proofs.write_word.Kinds as write-word-kinds
use Rattle.group.proofs.write_word.Reads as write-word-reads
use Rattle.group.proofs.word.Kinds as word-kinds
use Rattle.group.proofs.word.Reads as word-reads
use Rattle.group.proofs.flatten.Kinds as flatten-kinds
use Rattle.group.proofs.flatten.Reads as flatten-reads
use Rattle.promises.specs.Unique.{Unique}

-- What makes products.
pub trivial_unique : Unique 0 trivial-kinds.ps trivial-kinds.r trivial-reads.Post (λ κs a x. a)
trivial_unique = λ κs args a b x y p q. p ∙ sym q

pub of_unique : Unique 0 of-kinds.ps of-kinds.r of-reads.Post (λ κs a x. a)
of_unique = λ κs args a b x y p q. p ∙ sym q

pub product_unique : Unique 1 product-kinds.ps product-kinds.r product-reads.Post (λ κs a x. a)
product_unique = λ κs args a b x y p q. p ∙ sym q

-- The questions.
pub element_count_unique : Unique 1 element-count-kinds.ps element-count-kinds.r element-count-reads.Post (λ κs a x. a)
element_count_unique = λ κs args a b x y p q. p ∙ sym q

pub generator_count_unique : Unique 1 generator-count-kinds.ps generator-count-kinds.r generator-count-reads.Post (λ κs a x. a)
generator_count_unique = λ κs args a b x y p q. p ∙ sym q

pub generator_unique : Unique 1 generator-kinds.ps generator-kinds.r generator-reads.Post (λ κs a x. a)
generator_unique = λ κs args a b x y p q. p ∙ sym q

pub step_unique : Unique 1 step-kinds.ps step-kinds.r step-reads.Post (λ κs a x. a)
step_unique = λ κs args a b x y p q. p ∙ sym q

pub walk_unique : Unique 2 walk-kinds.ps walk-kinds.r walk-reads.Post (λ κs a x. a)
walk_unique = λ κs args a b x y p q. p ∙ sym q

pub project_unique : Unique 1 project-kinds.ps project-kinds.r project-reads.Post (λ κs a x. a)
project_unique = λ κs args a b x y p q. p ∙ sym q

pub inject_unique : Unique 1 inject-kinds.ps inject-kinds.r inject-reads.Post (λ κs a x. a)
inject_unique = λ κs args a b x y p q. p ∙ sym q

-- The answer, and what the lent list holds.
pub split_unique : Unique 2 split-kinds.ps split-kinds.r split-reads.Post {A = Counted × List ℕ} (λ κs a x. (a, x.1.1.1.0.now))
split_unique = λ κs args a b x y p q. ap (λ c. (c, x.1.1.1.0.now)) (p.0 ∙ sym q.0) ∙ ap (λ l. (b, l)) (p.1 ∙ sym q.1)

pub join_unique : Unique 2 join-kinds.ps join-kinds.r join-reads.Post (λ κs a x. a)
join_unique = λ κs args a b x y p q. p ∙ sym q

pub compose_unique : Unique 1 compose-kinds.ps compose-kinds.r compose-reads.Post (λ κs a x. a)
compose_unique = λ κs args a b x y p q. p ∙ sym q

pub inverse_unique : Unique 1 inverse-kinds.ps inverse-kinds.r inverse-reads.Post (λ κs a x. a)
inverse_unique = λ κs args a b x y p q. p ∙ sym q

pub conjugate_unique : Unique 1 conjugate-kinds.ps conjugate-kinds.r conjugate-reads.Post (λ κs a x. a)
conjugate_unique = λ κs args a b x y p q. p ∙ sym q

pub powi_unique : Unique 1 powi-kinds.ps powi-kinds.r powi-reads.Post (λ κs a x. a)
powi_unique = λ κs args a b x y p q. p ∙ sym q

pub period_unique : Unique 1 period-kinds.ps period-kinds.r period-reads.Post (λ κs a x. a)
period_unique = λ κs args a b x y p q. p ∙ sym q

pub word_length_unique : Unique 1 word-length-kinds.ps word-length-kinds.r word-length-reads.Post (λ κs a x. a)
word_length_unique = λ κs args a b x y p q. p ∙ sym q

-- The answer, and what the lent list holds.
pub write_word_unique : Unique 2 write-word-kinds.ps write-word-kinds.r write-word-reads.Post {A = Counted × List ℕ} (λ κs a x. (a, x.1.1.1.0.now))
write_word_unique = λ κs args a b x y p q. ap (λ c. (c, x.1.1.1.0.now)) (p.0 ∙ sym q.0) ∙ ap (λ l. (b, l)) (p.1 ∙ sym q.1)

-- The part of the buffer that is handed back. Of the rest of the buffer the language lets this contract say nothing; `write_word` says what it holds.
pub word_unique : Unique 2 word-kinds.ps word-kinds.r word-reads.Post (λ κs a x. a.now)
word_unique = λ κs args a b x y p q. p ∙ sym q

-- The verdict and the handle, the table and the work; the buffer that is read is only read.
pub flatten_unique : Unique 3 flatten-kinds.ps flatten-kinds.r flatten-reads.Post (λ κs a x. making a x.1.1.0.now x.1.1.1.1.0.now)
flatten_unique = λ κs args a b x y p q. p ∙ sym q
