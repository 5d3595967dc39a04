-- This file defines how handles and answers are passed between a C caller and the calls: by numbers, alone or in a lent list `out`.
use Rattle.std.specs.Prelude.{ℕ, ◌+◌, ◌*◌, List, [], ◌∷◌, length, get_or, ltb}
use Rattle.egg.specs.declared.Refusal.{Refusal}
use Rattle.egg.specs.declared.Factor.{Factor}
use Rattle.egg.specs.Answers.{Counted, Made, Reached, Verdict, answer_of}
use Rattle.egg.specs.Refusals.{refusal_paper}
use Rattle.std.specs.Prelude.{Ok, Err}
use Rattle.egg.specs.Table.{pick, put_at}
use Rattle.egg.specs.Factor.{Paper, verdict_paper}
use Rattle.build_lending.specs.Lending.{Making, making}

-- A handle from its numbers.
abbrev pub handle : ℕ → ℕ → ℕ → ℕ → Factor
handle start room n count = record { start = start; room = room; generators = n; elements = count }

-- One number for a refusal: its own number times 2^32, and its first place.
abbrev pub refusal_code : Refusal → ℕ
refusal_code r = (refusal_paper r).number * 4294967296 + (refusal_paper r).a

-- One number for an answer about elements: the element's, or the refusal's.
abbrev pub reached_code : Reached → ℕ
reached_code (Ok e) = e.0
reached_code (Err r) = refusal_code r

-- One number for an answer about counts: the count, or the refusal's.
abbrev pub counted_code : Counted → ℕ
counted_code (Ok k) = k
counted_code (Err r) = refusal_code r

-- One number for a place in a word that was handed back: its letter, or, from the end on, 256 and the length.
unfoldable pub letter_of : List ℕ → ℕ → ℕ
letter_of part k = pick (ltb k (length part)) (get_or part k 0) (256 + length part)

-- A number and its places in the first four numbers of a list.
abbrev pub papered : Paper → List ℕ → List ℕ
papered p out = put_at (put_at (put_at (put_at out 0 p.number) 1 p.a) 2 p.b) 3 p.c

-- A verdict in the first four numbers of a list; 0 where nothing is refused.
unfoldable pub paper_into : Verdict → List ℕ → List ℕ
paper_into v out = papered (verdict_paper v) out

-- How many elements were made; 0 where a build is refused.
abbrev pub elements_of : Made → ℕ
elements_of (Ok f) = f.elements
elements_of (Err r) = 0

-- The verdict of a build, and the element count after it.
unfoldable pub made_into : Made → List ℕ → List ℕ
made_into m out = put_at (paper_into (answer_of m) out) 4 (elements_of m)

-- What a C function leaves that writes its verdict into `out`: the number that it returns, 0 where nothing is refused; what `out` holds; and what the
-- other lists hold that it may write, in the order of its parameters.
pub data Telling : Type 0 where
  telling : ℕ → List ℕ → List (List ℕ) → Telling

-- The same of a function that writes k numbers. "4 | .. a lent buffer short": where `out` has fewer, 4 is returned before anything else is looked at,
-- since no other answer could be given whole, and no list is touched. Else it is what the function does.
unfoldable pub in_out : ℕ → List ℕ → List (List ℕ) → Telling → Telling
in_out k out lent done = pick (ltb (length out) k) (telling 4 out lent) done

-- A verdict alone, of a function that writes nothing but `out`.
abbrev pub verdict_told : Verdict → List ℕ → Telling
verdict_told v out = telling (verdict_paper v).number (paper_into v out) []

-- What was made: its verdict and count, and the table and the work.
abbrev pub bridged : Making → List ℕ → Telling
bridged (making m t w) out = telling (verdict_paper (answer_of m)).number (made_into m out) (t ∷ w ∷ [])
