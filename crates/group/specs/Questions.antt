-- This file defines what each call on a product answers: the first refusal that is due, else the answer. Document 01: "Calls on handles check 17 in
-- the handle, then 14, then 15, then 1 to 4, then 17 in what they read". `admits` gives 17, 14 and 15; the place of a 14 is the argument's position,
-- from 0. `if_reach` and `if_count` go on only where there was no refusal.
use Rattle.std.specs.Prelude.{ℕ, List, length, get_or, ℤ}
use Rattle.egg.specs.Answers.{Counted, Reached, Verdict}
use Rattle.std.specs.Prelude.{Ok}
use Rattle.egg.specs.declared.GroupElementId.{GroupElementId}
use Rattle.egg.specs.declared.GeneratorId.{GeneratorId}
use Rattle.egg.specs.Table.{pick}
use Rattle.egg.specs.Factor.{refused_reach}
use Rattle.factor.specs.Questions.{filled_by}
use Rattle.egg.specs.Answers.{if_reach, if_count}
use Rattle.theory_radix.specs.Radix.{project, inject}
use Rattle.group_handles.specs.declared.Group.{Group}
use Rattle.group_handles.specs.Handles.{handles, sizes, elements_of, generators_of, all_fit, admits}
use Rattle.group_digits.specs.Digits.{Conjugate, digit_of, digitwise, step_in, composes, inverts}
use Rattle.group_digits.specs.Splits.{split_tail, digits_left, digits_right, join_tail}
use Rattle.group_powers.specs.Powers.{powers}
use Rattle.group_periods.specs.Periods.{periods}
use Rattle.group_words.specs.Words.{lengths, writes, leaves}
-- What `walk` answers, which has a crate of its own.
unfoldable pub use Rattle.group_walk.specs.Walked.{walk_answer}

-- The refusals of a call whose two arguments are elements.
abbrev pub two_elements : ℕ → Group → ℕ → ℕ → Verdict
two_elements len g a b = admits len g a (elements_of (handles g)) b (elements_of (handles g))

-- How many elements the product has. The call has no argument that could be out of range, and `admits` is asked about 0 below 1.
unfoldable pub count_answer : List ℕ → Group → Counted
count_answer t g = if_count (admits (length t) g 0 1 0 1) (Ok (elements_of (handles g)))

-- How many generators its factors have together.
unfoldable pub generators_answer : List ℕ → Group → Counted
generators_answer t g = if_count (admits (length t) g 0 1 0 1) (Ok (generators_of (handles g)))

-- The element of a generator: the step from the identity.
unfoldable pub generator_answer : List ℕ → Group → GeneratorId → Reached
generator_answer t g x = if_reach (admits (length t) g x.0 (generators_of (handles g)) 0 1) (step_in t (handles g) 0 x.0)

-- The step from e by the generator x. A product's generators are those of the first factor, then those of the second, and so on.
unfoldable pub step_answer : List ℕ → Group → GroupElementId → GeneratorId → Reached
step_answer t g e x =
    if_reach (admits (length t) g e.0 (elements_of (handles g)) x.0 (generators_of (handles g))) (step_in t (handles g) e.0 x.0)

-- The element that e has in the factor f: one digit of e.
unfoldable pub project_answer : List ℕ → Group → ℕ → GroupElementId → Reached
project_answer t g f e =
    if_reach (admits (length t) g f (length (handles g)) e.0 (elements_of (handles g))) (Ok (record { 0 = project (sizes (handles g)) f e.0 }))

-- The element of the product that has x in the factor f and the identity in every other.
unfoldable pub inject_answer : List ℕ → Group → ℕ → GroupElementId → Reached
inject_answer t g f x =
    if_reach (admits (length t) g f (length (handles g)) x.0 (get_or (sizes (handles g)) f 1)) (Ok (record { 0 = inject (sizes (handles g)) f x.0 }))

-- How many digits of e were written into a lent list of `size` numbers.
unfoldable pub split_answer : List ℕ → Group → GroupElementId → ℕ → Counted
split_answer t g e size = if_count (admits (length t) g e.0 (elements_of (handles g)) 0 1) (split_tail (handles g) size)

-- What that list holds afterwards: the digits at its start; where the call refuses, what it held.
unfoldable pub split_leaves : List ℕ → Group → GroupElementId → List ℕ → List ℕ
split_leaves t g e out = digits_left (split_answer t g e (length out)) (sizes (handles g)) e.0 out

-- The element whose digits the lent list starts with. Refuses in this order: 17 for a handle that does not fit, 14 for the first digit that is out of
-- range, and then, in `join_tail`, 15 for a product too large and 4 for a list with fewer digits than there are factors.
unfoldable pub join_answer : List ℕ → Group → List ℕ → Reached
join_answer t g ds =
    pick (all_fit (length t) (handles g)) (if_reach (digits_right (sizes (handles g)) ds) (join_tail g ds)) (refused_reach 17 0)

-- a·b, factor by factor.
unfoldable pub compose_answer : List ℕ → Group → GroupElementId → GroupElementId → Reached
compose_answer t g a b = if_reach (two_elements (length t) g a.0 b.0) (composes t (handles g) a.0 b.0)

-- The inverse of a, factor by factor.
unfoldable pub inverse_answer : List ℕ → Group → GroupElementId → Reached
inverse_answer t g a = if_reach (admits (length t) g a.0 (elements_of (handles g)) 0 1) (inverts t (handles g) a.0)

-- "`conjugate(a,b)` is a·b·a⁻¹", factor by factor.
unfoldable pub conjugate_answer : List ℕ → Group → GroupElementId → GroupElementId → Reached
conjugate_answer t g a b =
    if_reach (two_elements (length t) g a.0 b.0) (digitwise (digit_of Conjugate t) (handles g) a.0 b.0)

-- The i-th power of a. 1,073,741,824 is the 2^30 of "it squares the 2^30 power of the inverse".
unfoldable pub powi_answer : List ℕ → Group → GroupElementId → ℤ → Reached
powi_answer t g a i =
    if_reach (admits (length t) g a.0 (elements_of (handles g)) 0 1) (powers 1073741824 (composes t (handles g)) (inverts t (handles g)) a.0 i)

-- The period of a: the number of the first of its powers, from the 1st on, that is the identity.
unfoldable pub period_answer : List ℕ → Group → GroupElementId → Counted
period_answer t g a = if_count (admits (length t) g a.0 (elements_of (handles g)) 0 1) (periods t (handles g) a.0)

-- How many letters the word of e has.
unfoldable pub length_answer : List ℕ → Group → GroupElementId → Counted
length_answer t g e = if_count (admits (length t) g e.0 (elements_of (handles g)) 0 1) (lengths t (handles g) e.0)

-- How many letters were written into a lent buffer of `size` bytes.
unfoldable pub write_answer : List ℕ → Group → GroupElementId → ℕ → Counted
write_answer t g e size = if_count (admits (length t) g e.0 (elements_of (handles g)) 0 1) (writes t (handles g) e.0 size)

-- What that buffer holds afterwards: the word at its start; where the call refuses, what it held.
unfoldable pub written : List ℕ → Group → GroupElementId → List ℕ → List ℕ
written t g e out = leaves (write_answer t g e (length out)) t (handles g) e.0 out

-- The filled part of the buffer, as long as the recorded length; where the call refuses, the empty start.
unfoldable pub word_part : List ℕ → Group → GroupElementId → List ℕ → List ℕ
word_part t g e out = filled_by (write_answer t g e (length out)) (written t g e out)
