-- Laws of how long the joined name is.
use Prim.Native.Nat.{ℕ, zero, suc, ◌+◌, ◌*◌, ◌≤◌, ◌<◌}
use mathlib.Core.Path.{◌≡◌, refl, sym, ap, ◌∙◌}
use mathlib.Core.Bool.{true}
use mathlib.Core.List.{List, [], ◌∷◌, ◌++◌}
use native.Mathlib.Nat.{zero-add}
use native.Mathlib.Omega.{arith}
use borrow.Author.Tests.{le-leb, lt-leb}
use lib.ListN.{length, drop, length-append}
use lib.Seq.{length-take-le}
use lib.Dec.{leb}
use Rattle.std.specs.Prelude.{Ok, Err}
use Rattle.egg.specs.Answers.{numbered}
use Rattle.egg.proofs.Rooms.{and_second}
use Rattle.names_values.specs.declared.Name.{Name}
use Rattle.names_values.specs.Names.{bytes_of}
use Rattle.names_joined.specs.Joined.{names_fit, gap_at, joined_from, joined_name, joined_length}

-- What a name adds, by whether it is the first.
module _ (m : Name) (q : length m.bytes ≡ 32) (h : m.length ≤ 32) where
  pub name_long : length (bytes_of m) ≡ m.length
  name_long = length-take-le m.length m.bytes (rw q h)

  pub adds_first : {f : ℕ} → f ≡ 0 → m.length ≡ length (gap_at f) + length (bytes_of m)
  adds_first e = rw (e, name_long) (omega arith)

  pub adds_later : (f : ℕ) → (f ≡ 0 → ⊥) → 3 + m.length ≡ length (gap_at f) + length (bytes_of m)
  adds_later zero e = absurd (e refl)
  adds_later (suc f) e = rw name_long

-- Of a list of names that fit, those from a place on fit.
pub fit_from : (f : ℕ) (ms : List Name) → names_fit ms ≡ true → names_fit (drop f ms) ≡ true
unfolding names_fit
fit_from zero ms h = h
fit_from (suc f) [] h = h
fit_from (suc f) (m ∷ ms) h = fit_from f ms (and_second (leb m.length 32) _ h)

-- What was added up to the place f, and what is left, give the whole.
pub record Adding (ms : List Name) (f n : ℕ) : Type 0 where
  pub sum : n + length (joined_from f (drop f ms)) ≡ length (joined_name ms)
  pub fit : names_fit (drop f ms) ≡ names_fit ms
  pub small : n ≤ f * 35

pub adding : (ms : List Name) → Adding ms 0 0
adding ms = record { sum = zero-add (length (joined_name ms)); fit = refl; small = omega arith }

turn_length : (f : ℕ) (m : Name) (rest : List Name)
    → length (joined_from f (m ∷ rest)) ≡ length (gap_at f) + length (bytes_of m) + length (joined_from (f + 1) rest)
unfolding joined_from
turn_length f m rest =
    omega (arith, length-append (gap_at f) (bytes_of m ++ joined_from (f + 1) rest), length-append (bytes_of m) (joined_from (f + 1) rest))

module _ {ms : List Name} {f n : ℕ} (a : Adding ms f n) where
  module _ {m : Name} (turn : drop f ms ≡ m ∷ drop (f + 1) ms) where
    pub adds_on : m.length ≤ 32 → {r : ℕ} → r ≡ length (gap_at f) + length (bytes_of m) → r ≤ 35 → Adding ms (f + 1) (n + r)
    unfolding names_fit
    adds_on h q s =
        record {
          sum = omega (arith, a.sum, ap (λ l. length (joined_from f l)) turn, turn_length f m (drop (f + 1) ms), q);
          fit = sym (ap names_fit turn ∙ simp (le-leb _ _ h)) ∙ a.fit;
          small = omega (arith, a.small, s);
        }

    pub adds_long : 32 < m.length → Err (numbered 17 0 0 0) ≡ joined_length ms
    unfolding joined_length names_fit
    adds_long h = rw (← a.fit, turn) (simp (lt-leb _ _ h))

  pub adds_all : drop f ms ≡ [] → Ok n ≡ joined_length ms
  unfolding joined_length names_fit joined_from
  adds_all e =
      let z : n ≡ length (joined_name ms) = omega (arith, a.sum, ap (λ l. length (joined_from f l)) e) in
      rw (← a.fit, e, z)
