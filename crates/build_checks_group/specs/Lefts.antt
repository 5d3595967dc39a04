-- Refusals 11 and 12 on a table of n generators and `count` elements: the identity row, the columns and words, and multiplication on the left.
use Rattle.std.specs.Prelude.{ℕ, zero, suc, ◌+◌, List, get_or, eqb, ltb}
use Rattle.egg.specs.Answers.{Verdict, fine}
use Rattle.std.specs.Prelude.{Ok, Err}
use Rattle.egg.specs.Table.{pick, put_at, parent_of, last_of, length_of, step_of, back_of}
use Rattle.egg.specs.Scan.{refused_of, and_then, scan}

-- Refusal 11, "identity row is not 1..n", with the first generator that is wrong.
unfoldable pub identity_row : List ℕ → ℕ → Verdict
identity_row t n = scan n (λ g. pick (eqb (step_of t n 0 g) (g + 1)) fine (refused_of 11 g 0 0)) 0

-- Refusal 12, "no group has these right steps", has three parts. The first, for one element: each step back is undone by the step, so that the
-- columns are permutations. The first two parts hold after every reading that has passed 8 and after every run of 000 that is done
-- (`enumeration_done` of `promises_enumeration`); the checks do not rest on that.
unfoldable pub columns_row : List ℕ → ℕ → ℕ → Verdict
columns_row t n e = scan n (λ g. pick (eqb (step_of t n (back_of t n e g) g) e) fine (refused_of 12 0 0 0)) 0

-- The second part of 12, for one element: the recorded word leads to it, by its parent and last generator, and is one letter longer than the
-- parent's.
unfoldable pub spelled_row : List ℕ → ℕ → ℕ → Verdict
spelled_row t n e =
    pick (eqb e 0) (pick (eqb (length_of t n e) 0) fine (refused_of 12 0 0 0))
    (pick (eqb (step_of t n (parent_of t n e) (last_of t n e)) e)
    (pick (eqb (length_of t n e) (length_of t n (parent_of t n e) + 1)) fine (refused_of 12 0 0 0))
    (refused_of 12 0 0 0))

-- The first two parts of 12 for all elements.
unfoldable pub spelled : List ℕ → ℕ → ℕ → Verdict
spelled t n count = scan count (λ e. and_then (columns_row t n e) (spelled_row t n e)) 0

-- Refusal 11, then the first two parts of 12.
unfoldable pub check_steps : List ℕ → ℕ → ℕ → Verdict
check_steps t n count = and_then (identity_row t n) (spelled t n count)

-- The third part of 12 is that multiplication on the left by each generator s commutes with every step. This is s·x, where w has s times each element
-- before x: the step from s times the parent of x by the last letter of x.
abbrev pub left_of : (t : List ℕ) (n s : ℕ) (w : List ℕ) (x : ℕ) → ℕ
left_of t n s w x = pick (ltb 0 x) (step_of t n (get_or w (parent_of t n x) 0) (last_of t n x)) (step_of t n 0 s)

-- The work with s·x at x for k elements from x on.
unfoldable pub fill_left : (k : ℕ) (t : List ℕ) (n s : ℕ) (w : List ℕ) (x : ℕ) → List ℕ
fill_left zero t n s w x = w
fill_left (suc k) t n s w x = fill_left k t n s (put_at w x (left_of t n s w x)) (x + 1)

-- Refusal 12 where, at x, multiplication on the left does not commute with some step: s·(x·g) is not (s·x)·g.
unfoldable pub goes_row : List ℕ → List ℕ → ℕ → ℕ → Verdict
goes_row t w n x = scan n (λ g. pick (eqb (get_or w (step_of t n x g) 0) (step_of t n (get_or w x 0) g)) fine (refused_of 12 0 0 0)) 0

-- The same at all elements.
unfoldable pub all_go : List ℕ → List ℕ → ℕ → ℕ → Verdict
all_go t w n count = scan count (λ x. goes_row t w n x) 0

-- What the third part comes to: the verdict, and what the work holds then.
pub data Lefts : Type 0 where
  left : Verdict → List ℕ → Lefts

-- The verdict alone.
abbrev pub left_verdict : Lefts → Verdict
left_verdict (left v w) = v

-- What comes after a verdict: l where it is fine, else the refusal with the work as it stands.
abbrev pub then_left : Verdict → List ℕ → Lefts → Lefts
then_left (Ok _) w l = l
then_left (Err r) w l = left (Err r) w

-- The third part of 12 for k generators from s on.
unfoldable pub lefts : (k : ℕ) (t : List ℕ) (n count : ℕ) (w : List ℕ) (s : ℕ) → Lefts
lefts zero t n count w s = left fine w
lefts (suc k) t n count w s =
    then_left (all_go t (fill_left count t n s w 0) n count) (fill_left count t n s w 0) (lefts k t n count (fill_left count t n s w 0) (s + 1))
