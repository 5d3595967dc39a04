-- What the questions about an accepted factor answer. Document 01: "Calls on handles check 17 in the handle, then 14, .. then 17 in what they read."
-- "A refused question writes nothing." Each is defined on the factor's stretch in `factor_questions` and `factor_words`, and here on the buffer and
-- the handle.
use Rattle.std.specs.Prelude.{ℕ, List, length, take, leb}
use Rattle.egg.specs.declared.Factor.{Factor}
use Rattle.egg.specs.declared.GroupElementId.{GroupElementId}
use Rattle.egg.specs.declared.GeneratorId.{GeneratorId}
use Rattle.egg.specs.Answers.{Counted, Reached, Verdict, fine}
use Rattle.std.specs.Prelude.{Ok, Err}
use Rattle.egg.specs.Table.{pick}
use Rattle.egg.specs.Scan.{refused_of}
use Rattle.egg.specs.Answers.{if_reach, if_count}
use Rattle.egg.specs.Factor.{fits_in, stretch}
use Rattle.factor_questions.specs.Walks.{inverse_in, compose_in, conjugate_in, generator_in}
use Rattle.factor_words.specs.Words.{length_in, write_in, written_by}
use Rattle.factor_walk.specs.Walked.{walk_in}

-- Refusal 17 in the handle, then 14 for two element arguments, with the position 0 or 1 for its place. A call with fewer elements takes the identity
-- for the others, which is always there.
unfoldable pub admits : ℕ → Factor → ℕ → ℕ → Verdict
admits len f a b =
    pick (fits_in len f)
    (pick (leb f.elements a) (refused_of 14 0 0 0) (pick (leb f.elements b) (refused_of 14 1 0 0) fine))
    (refused_of 17 0 0 0)

-- What `compose` answers: a·b.
unfoldable pub compose_answer : List ℕ → Factor → GroupElementId → GroupElementId → Reached
compose_answer t f a b =
    if_reach (admits (length t) f a.0 b.0) (compose_in (stretch t f) f.generators f.elements a.0 b.0)

-- What `inverse` answers: a⁻¹.
unfoldable pub inverse_answer : List ℕ → Factor → GroupElementId → Reached
inverse_answer t f a = if_reach (admits (length t) f a.0 0) (inverse_in (stretch t f) f.generators f.elements a.0)

-- What `conjugate` answers: "`conjugate(a,b)` is a·b·a⁻¹".
unfoldable pub conjugate_answer : List ℕ → Factor → GroupElementId → GroupElementId → Reached
conjugate_answer t f a b =
    if_reach (admits (length t) f a.0 b.0) (conjugate_in (stretch t f) f.generators f.elements a.0 b.0)

-- What `element_count` answers.
unfoldable pub count_answer : List ℕ → Factor → Counted
count_answer t f = if_count (admits (length t) f 0 0) (Ok f.elements)

-- What `generator` answers: the generator's element, read from the identity row.
unfoldable pub generator_answer : List ℕ → Factor → GeneratorId → Reached
generator_answer t f g = if_reach (admits (length t) f 0 0) (generator_in (stretch t f) f.generators f.elements g.0)

-- What `walk` answers: where the steps of the word lead one after another. The start is the argument at position 0, and the letters come after it.
unfoldable pub walk_answer : List ℕ → Factor → GroupElementId → List ℕ → Reached
walk_answer t f e w = if_reach (admits (length t) f e.0 0) (walk_in (stretch t f) f.generators f.elements e.0 w)

-- What `word_length` answers.
unfoldable pub length_answer : List ℕ → Factor → GroupElementId → Counted
length_answer t f e = if_count (admits (length t) f e.0 0) (length_in (stretch t f) f.generators e.0)

-- What `write_word` answers, with a buffer of `size` bytes: the length of the word.
unfoldable pub write_answer : List ℕ → Factor → GroupElementId → ℕ → Counted
write_answer t f e size =
    if_count (admits (length t) f e.0 0) (write_in (stretch t f) f.generators f.elements e.0 size)

-- What the buffer holds after `write_word`.
unfoldable pub written : List ℕ → Factor → GroupElementId → List ℕ → List ℕ
written t f e out = written_by (write_answer t f e (length out)) (stretch t f) f.generators e.0 out

-- The filled part of the buffer, as long as the answered length; "refused: the empty start".
abbrev pub filled_by : Counted → List ℕ → List ℕ
filled_by (Ok k) out = take k out
filled_by (Err r) out = take 0 out

-- What `word` hands back: "the word is written into the caller's buffer and the filled part handed back".
unfoldable pub word_part : List ℕ → Factor → GroupElementId → List ℕ → List ℕ
word_part t f e out = filled_by (write_answer t f e (length out)) (written t f e out)
