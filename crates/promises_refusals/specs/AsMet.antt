-- What the check against pair orders answers whatever the factor's stretch holds, altered or not. Document 01: "then 17 in what they read (13 or 17 as met)";
-- "For each element it tests each generator doubled, then each pair's 2m steps in list order."
use Rattle.std.specs.Prelude.{ℕ, suc, ◌<◌, ◌≡◌, true, false, List, [], ◌∷◌, length}
use Rattle.egg.specs.declared.Refusal.{Refusal}
use Rattle.egg.specs.declared.Factor.{Factor}
use Rattle.egg.specs.Factor.{Paper, refusal_paper, fits_in, stored_step}
use Rattle.egg.specs.Answers.{numbered}
use Rattle.theory.specs.Presentation.{pair_place, order_of, alternate}
use Rattle.promises_refusals.specs.Papers.{paper}
use Rattle.promises_refusals.specs.Orders.{OrdersRight, OrdersFault}

-- The word leads from e to x, and every number that is read on the way is that of one of the N elements.
pub data Leads (stored : ℕ → ℕ → ℕ) (N : ℕ) : ℕ → List ℕ → ℕ → Type 0 where
  stays : {e : ℕ} → Leads stored N e [] e
  goes : {e g x y : ℕ} {w : List ℕ} → stored e g ≡ suc x → x < N → Leads stored N x w y → Leads stored N e (g ∷ w) y

-- On the way from e "a number read from it is out of range": there is none, or it is beyond the N elements; at the first letter, or later.
pub data Unread (stored : ℕ → ℕ → ℕ) (N : ℕ) : ℕ → List ℕ → Type 0 where
  missing : {e g : ℕ} {w : List ℕ} → stored e g ≡ 0 → Unread stored N e (g ∷ w)
  beyond : {e g : ℕ} {w : List ℕ} → N < stored e g → Unread stored N e (g ∷ w)
  later : {e g x : ℕ} {w : List ℕ} → stored e g ≡ suc x → x < N → Unread stored N x w → Unread stored N e (g ∷ w)

-- The relation of a and b, each m times, comes back to e.
abbrev pub Returns : (stored : ℕ → ℕ → ℕ) (N e a b m : ℕ) → Type 0
Returns stored N e a b m = Leads stored N e (alternate a b m) e

-- Why it is refused: 13, "a relation fails", with "element, generator, generator", where the walk ends elsewhere; 17, where it cannot be read to its end.
pub data Met (stored : ℕ → ℕ → ℕ) (N e a b m : ℕ) : Refusal → Type 0 where
  astray : {x : ℕ} → Leads stored N e (alternate a b m) x → ¬ (x ≡ e) → Met stored N e a b m (numbered 13 e a b)
  unread : Unread stored N e (alternate a b m) → Met stored N e a b m (numbered 17 0 0 0)

-- All the relations come back to e: each generator doubled, and each pair as often as its order says.
pub record AllReturn (stored : ℕ → ℕ → ℕ) (n N : ℕ) (o : List ℕ) (e : ℕ) : Type 0 where
  pub doubled : (g : ℕ) → g < n → Returns stored N e g g 1
  pub paired : (i j : ℕ) → i < j → j < n → Returns stored N e i j (order_of o i j)

-- The first of all places that is refused: at every element before e all relations come back; at e the generators before it, doubled, do; or all of them,
-- and the pairs before it in the list.
pub data FirstMet (stored : ℕ → ℕ → ℕ) (n N : ℕ) (o : List ℕ) : Refusal → Type 0 where
  doubled : {e g : ℕ} {r : Refusal} → e < N → ((x : ℕ) → x < e → AllReturn stored n N o x)
      → g < n → ((h : ℕ) → h < g → Returns stored N e h h 1) → Met stored N e g g 1 r → FirstMet stored n N o r
  paired : {e i j : ℕ} {r : Refusal} → e < N → ((x : ℕ) → x < e → AllReturn stored n N o x) → ((g : ℕ) → g < n → Returns stored N e g g 1)
      → i < j → j < n → ((a b : ℕ) → a < b → b < n → pair_place a b < pair_place i j → Returns stored N e a b (order_of o a b))
      → Met stored N e i j (order_of o i j) r → FirstMet stored n N o r

-- Every answer of the check, on every input: 17, "the handle doesn't fit its buffer"; 2 or 3; 13 or 17, as met first; or 0, where all relations come back to
-- each element.
pub data CheckAny (t : List ℕ) (f : Factor) (o : List ℕ) : Paper → Type 0 where
  no_handle : fits_in (length t) f ≡ false → CheckAny t f o (paper 17 0 0 0)
  wrong_orders : {r : Refusal} → fits_in (length t) f ≡ true → OrdersFault o f.generators r → CheckAny t f o (refusal_paper r)
  as_met : {r : Refusal} → fits_in (length t) f ≡ true → OrdersRight o f.generators → FirstMet (stored_step t f) f.generators f.elements o r
      → CheckAny t f o (refusal_paper r)
  all_return : fits_in (length t) f ≡ true → OrdersRight o f.generators
      → ((e : ℕ) → e < f.elements → AllReturn (stored_step t f) f.generators f.elements o e) → CheckAny t f o (paper 0 0 0 0)
