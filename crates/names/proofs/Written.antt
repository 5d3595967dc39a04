-- One law for each answer of the call that writes the joined name; and that a length which it answers is within the buffer.
use Prim.Native.Nat.{ℕ, ◌≤◌, ◌<◌}
use mathlib.Core.Path.{◌≡◌, refl, sym, ◌∙◌}
use mathlib.Core.Bool.{Bool, true, false}
use mathlib.Core.List.{List}
use native.Mathlib.Omega.{arith}
use borrow.Author.Tests.{lt-ltb, le-ltb, ltb-false}
use lib.ListN.{length}
use lib.Dec.{ltb}
use Rattle.egg.specs.declared.Refusal.{Refusal}
use Rattle.egg.specs.Answers.{Counted, Verdict, fine}
use Rattle.std.specs.Prelude.{Ok, Err}
use Rattle.egg.specs.Table.{pick}
use Rattle.egg.specs.Answers.{numbered, if_count}
use Rattle.factor.proofs.Questions.{counted_by}
use Rattle.factor_words.proofs.Words.{never_both, same_count}
use Rattle.group_handles.specs.Handles.{admits}
use Rattle.group_handles.specs.Counts.{on_counted}
use Rattle.names_values.specs.declared.Name.{Name}
use Rattle.names_values.specs.declared.NamedGroup.{NamedGroup}
use Rattle.names_joined.specs.Joined.{listed_names, names_fit, joined_name, joined_length, at_start}
use Rattle.names.specs.Joined.{room_for, joined_answer, joined_by, joined_leaves}

-- What a length that was measured says.
pub record KnownLength (ms : List Name) (k : ℕ) : Type 0 where
  pub fit : names_fit ms ≡ true
  pub long : k ≡ length (joined_name ms)

pub was_measured : (ms : List Name) {m : Counted} {k : ℕ} → m ≡ joined_length ms → m ≡ Ok k → KnownLength ms k
unfolding joined_length
was_measured ms q e = by (names_fit ms) refl (sym q ∙ e) where
  by : (b : Bool) → names_fit ms ≡ b → {k : ℕ} → pick b (Ok (length (joined_name ms))) (Err (numbered 17 0 0 0)) ≡ Ok k → KnownLength ms k
  by true p h = record { fit = p; long = sym (same_count h) }
  by false p h = absurd (never_both refl h)

module _ (t : List ℕ) (g : NamedGroup) (out : List ℕ) where
  leaves_by : {r : Counted} → r ≡ joined_answer t g (length out) → joined_by r (joined_name (listed_names g)) out ≡ joined_leaves t g out
  unfolding joined_leaves
  leaves_by q = rw (← q)

  refuses : {r : Counted} {why : Refusal} → r ≡ Err why → r ≡ joined_answer t g (length out) → (r ≡ joined_answer t g (length out)) × (out ≡ joined_leaves t g out)
  refuses e q = (q, leaves_by (sym e ∙ q))

  module _ {m : Counted} (q : m ≡ joined_length (listed_names g)) where
    pub joined_altered : {why : Refusal} → m ≡ Err why → (Err why ≡ joined_answer t g (length out)) × (out ≡ joined_leaves t g out)
    unfolding joined_answer
    joined_altered e = refuses refl (rw (← q, e))

    module _ {k : ℕ} (e : m ≡ Ok k) {v : Verdict} (p : v ≡ admits (length t) g.group 0 1 0 1) where
      pub joined_refused : {why : Refusal} → v ≡ Err why → (Err why ≡ joined_answer t g (length out)) × (out ≡ joined_leaves t g out)
      unfolding joined_answer
      joined_refused h = refuses refl (rw (← q, e, ← p, h))

      pub joined_short : v ≡ fine → length out < k → {r : Counted} → r ≡ Err (numbered 18 0 0 0)
          → (r ≡ joined_answer t g (length out)) × (out ≡ joined_leaves t g out)
      unfolding joined_answer
      joined_short h l f = refuses f (rw (← q, e, ← p, h, lt-ltb (length out) k l, f))

      pub joined_written : v ≡ fine → k ≤ length out → {after : List ℕ} → after ≡ at_start (joined_name (listed_names g)) out
          → (Ok k ≡ joined_answer t g (length out)) × (after ≡ joined_leaves t g out)
      unfolding joined_answer
      joined_written h l z =
          let a : Ok k ≡ joined_answer t g (length out) = rw (← q, e, ← p, h, le-ltb (length out) k l) in
          (a, z ∙ leaves_by a)

room_fits : (size n : ℕ) {k : ℕ} → room_for size n ≡ Ok k → k ≤ size
room_fits size n = by (ltb size n) refl where
  by : (b : Bool) → ltb size n ≡ b → {k : ℕ} → pick b (Err (numbered 18 0 0 0)) (Ok n) ≡ Ok k → k ≤ size
  by true q h = absurd (never_both refl h)
  by false q h = omega (arith, ltb-false size n q, same_count h)

pub joined_fits : (t : List ℕ) (g : NamedGroup) (size : ℕ) {r : Counted} {k : ℕ} → r ≡ joined_answer t g size → r ≡ Ok k → k ≤ size
unfolding joined_answer
joined_fits t g size q e = by (joined_length (listed_names g)) (sym q ∙ e) where
  by : (c : Counted) {k : ℕ} → on_counted c (λ n. if_count (admits (length t) g.group 0 1 0 1) (room_for size n)) ≡ Ok k → k ≤ size
  by (Ok n) h = room_fits size n (counted_by (admits (length t) g.group 0 1 0 1) h)
  by (Err r) h = absurd (never_both refl h)
