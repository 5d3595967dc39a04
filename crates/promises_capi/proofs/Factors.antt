-- Each C function of a factor, those that write and read its image among them, has one answer and leaves one thing in each lent list, by its own contract.
-- Every contract is an equation with a definition over the values at entry, so two outcomes that meet it are both that.
use Prim.Native.Nat.{ℕ}
use mathlib.Core.Path.{sym, ◌∙◌, ap}
use mathlib.Core.List.{List, [], ◌∷◌}
use Rattle.capi_values.specs.Bridge.{telling}
use Rattle.capi_factor_build.proofs.hg_composed.Kinds as hg-composed-kinds
use Rattle.capi_factor_build.proofs.hg_composed.Reads as hg-composed-reads
use Rattle.capi_factor_build.proofs.hg_enumerate.Kinds as hg-enumerate-kinds
use Rattle.capi_factor_build.proofs.hg_enumerate.Reads as hg-enumerate-reads
use Rattle.capi_image.proofs.hg_image_need.Kinds as hg-image-need-kinds
use Rattle.capi_image.proofs.hg_image_need.Reads as hg-image-need-reads
use Rattle.capi_image.proofs.hg_image_read.Kinds as hg-image-read-kinds
use Rattle.capi_image.proofs.hg_image_read.Reads as hg-image-read-reads
use Rattle.capi_factor.proofs.hg_count.Kinds as hg-count-kinds
use Rattle.capi_factor.proofs.hg_count.Reads as hg-count-reads
use Rattle.capi_factor.proofs.hg_step.Kinds as hg-step-kinds
use Rattle.capi_factor.proofs.hg_step.Reads as hg-step-reads
use Rattle.capi_walks.proofs.hg_walk.Kinds as hg-walk-kinds
use Rattle.capi_walks.proofs.hg_walk.Reads as hg-walk-reads
use Rattle.capi_factor.proofs.hg_generator.Kinds as hg-generator-kinds
use Rattle.capi_factor.proofs.hg_generator.Reads as hg-generator-reads
use Rattle.capi_factor_compose.proofs.hg_compose.Kinds as hg-compose-kinds
use Rattle.capi_factor_compose.proofs.hg_compose.Reads as hg-compose-reads
use Rattle.capi_factor.proofs.hg_conjugate.Kinds as hg-conjugate-kinds
use Rattle.capi_factor.proofs.hg_conjugate.Reads as hg-conjugate-reads
use Rattle.capi_factor.proofs.hg_inverse.Kinds as hg-inverse-kinds
use Rattle.capi_factor.proofs.hg_inverse.Reads as hg-inverse-reads
use Rattle.capi_factor_words.proofs.hg_length.Kinds as hg-length-kinds
use Rattle.capi_factor_words.proofs.hg_length.Reads as hg-length-reads
use Rattle.capi_factor_words.proofs.hg_part.Kinds as hg-part-kinds
use Rattle.capi_factor_words.proofs.hg_part.Reads as hg-part-reads
use Rattle.capi_factor_words.proofs.hg_word.Kinds as hg-word-kinds
use Rattle.capi_factor_words.proofs.hg_word.Reads as hg-word-reads
use Rattle.capi_image.proofs.hg_image_verdict.Kinds as hg-image-verdict-kinds
use Rattle.capi_image.proofs.hg_image_verdict.Reads as hg-image-verdict-reads
use Rattle.capi_image.proofs.hg_image_write.Kinds as hg-image-write-kinds
use Rattle.capi_image.proofs.hg_image_write.Reads as hg-image-write-reads
use Rattle.capi_factor.proofs.hg_check.Kinds as hg-check-kinds
use Rattle.capi_factor.proofs.hg_check.Reads as hg-check-reads
use Rattle.promises.specs.Unique.{Unique}

-- The functions that make a factor: the number, the list of the answer, the table and the work.
pub hg_composed_unique : Unique 4 hg-composed-kinds.ps hg-composed-kinds.r hg-composed-reads.Post
    (λ κs a x. telling a x.1.1.1.1.1.1.0.now (x.0.now ∷ x.1.1.0.now ∷ []))
hg_composed_unique = λ κs args a b x y p q. p ∙ sym q

pub hg_enumerate_unique : Unique 4 hg-enumerate-kinds.ps hg-enumerate-kinds.r hg-enumerate-reads.Post
    (λ κs a x. telling a x.1.1.1.1.1.1.0.now (x.0.now ∷ x.1.1.0.now ∷ []))
hg_enumerate_unique = λ κs args a b x y p q. p ∙ sym q

pub hg_image_read_unique : Unique 4 hg-image-read-kinds.ps hg-image-read-kinds.r hg-image-read-reads.Post
    (λ κs a x. telling a x.1.1.1.1.0.now (x.1.0.now ∷ x.1.1.1.0.now ∷ []))
hg_image_read_unique = λ κs args a b x y p q. p ∙ sym q

pub hg_image_verdict_unique : Unique 3 hg-image-verdict-kinds.ps hg-image-verdict-kinds.r hg-image-verdict-reads.Post
    (λ κs a x. telling a x.1.1.0.now (x.1.0.now ∷ []))
hg_image_verdict_unique = λ κs args a b x y p q. p ∙ sym q

-- The questions, which only read.
pub hg_image_need_unique : Unique 1 hg-image-need-kinds.ps hg-image-need-kinds.r hg-image-need-reads.Post (λ κs a x. a)
hg_image_need_unique = λ κs args a b x y p q. p ∙ sym q

pub hg_count_unique : Unique 1 hg-count-kinds.ps hg-count-kinds.r hg-count-reads.Post (λ κs a x. a)
hg_count_unique = λ κs args a b x y p q. p ∙ sym q

pub hg_step_unique : Unique 1 hg-step-kinds.ps hg-step-kinds.r hg-step-reads.Post (λ κs a x. a)
hg_step_unique = λ κs args a b x y p q. p ∙ sym q

pub hg_walk_unique : Unique 2 hg-walk-kinds.ps hg-walk-kinds.r hg-walk-reads.Post (λ κs a x. a)
hg_walk_unique = λ κs args a b x y p q. p ∙ sym q

pub hg_generator_unique : Unique 1 hg-generator-kinds.ps hg-generator-kinds.r hg-generator-reads.Post (λ κs a x. a)
hg_generator_unique = λ κs args a b x y p q. p ∙ sym q

pub hg_compose_unique : Unique 1 hg-compose-kinds.ps hg-compose-kinds.r hg-compose-reads.Post (λ κs a x. a)
hg_compose_unique = λ κs args a b x y p q. p ∙ sym q

pub hg_conjugate_unique : Unique 1 hg-conjugate-kinds.ps hg-conjugate-kinds.r hg-conjugate-reads.Post (λ κs a x. a)
hg_conjugate_unique = λ κs args a b x y p q. p ∙ sym q

pub hg_inverse_unique : Unique 1 hg-inverse-kinds.ps hg-inverse-kinds.r hg-inverse-reads.Post (λ κs a x. a)
hg_inverse_unique = λ κs args a b x y p q. p ∙ sym q

pub hg_length_unique : Unique 1 hg-length-kinds.ps hg-length-kinds.r hg-length-reads.Post (λ κs a x. a)
hg_length_unique = λ κs args a b x y p q. p ∙ sym q

pub hg_part_unique : Unique 1 hg-part-kinds.ps hg-part-kinds.r hg-part-reads.Post (λ κs a x. a)
hg_part_unique = λ κs args a b x y p q. p ∙ sym q

-- The number, and what the lent bytes hold.
pub hg_word_unique : Unique 2 hg-word-kinds.ps hg-word-kinds.r hg-word-reads.Post {A = ℕ × List ℕ} (λ κs a x. (a, x.1.1.1.1.1.1.0.now))
hg_word_unique = λ κs args a b x y p q. ap (λ c. (c, x.1.1.1.1.1.1.0.now)) (p.0 ∙ sym q.0) ∙ ap (λ l. (b, l)) (p.1 ∙ sym q.1)

pub hg_image_write_unique : Unique 2 hg-image-write-kinds.ps hg-image-write-kinds.r hg-image-write-reads.Post
    {A = ℕ × List ℕ} (λ κs a x. (a, x.1.1.1.1.1.0.now))
hg_image_write_unique = λ κs args a b x y p q. ap (λ c. (c, x.1.1.1.1.1.0.now)) (p.0 ∙ sym q.0) ∙ ap (λ l. (b, l)) (p.1 ∙ sym q.1)

-- The number and the list of the answer: the factor is only read.
pub hg_check_unique : Unique 3 hg-check-kinds.ps hg-check-kinds.r hg-check-reads.Post (λ κs a x. telling a x.1.1.1.1.1.1.0.now [])
hg_check_unique = λ κs args a b x y p q. p ∙ sym q
