-- The predicate form element by element: one law for each way that a turn goes.
use Prim.Native.Nat.{ℕ, suc, ◌+◌, ◌<◌, ◌≤◌}
use mathlib.Core.Path.{◌≡◌, refl}
use mathlib.Core.List.{List, [], ◌∷◌, ◌++◌}
use lib.ListN.{length, get_or}
use borrow.Author.Tests.{eq-eqb, ne_eqb, lt-ltb, le-ltb}
use Rattle.egg.specs.declared.Refusal.{Refusal}
use Rattle.std.specs.Prelude.{Ok, Err}
use Rattle.build_lending.specs.Finish.{built}
use Rattle.build_numbering.specs.Renumber as appear
use Rattle.build_numbering.specs.Build.{Renumbering, renumbering}
use Rattle.subgroup_predicate_choices.specs.Choices.{picked, ninth, chooses}

module _ (again : List ℕ → List ℕ → Renumbering) (byte : ℕ → ℕ) (k x : ℕ) (gens : List ℕ) (t w inn outw : List ℕ) where
  pub choose_end : (r : Renumbering) → chooses 0 again byte x gens r ≡ picked gens r
  unfolding chooses
  choose_end r = refl

  pub choose_stop : (f : Refusal) → chooses (suc k) again byte x gens (renumbering (built (Err f) t w) inn outw)
      ≡ picked gens (renumbering (built (Err f) t w) inn outw)
  unfolding chooses
  choose_stop f = refl

  module _ (c : ℕ) where
    pub choose_known : ¬ (get_or inn x 0 ≡ appear.no_number) → chooses (suc k) again byte x gens (renumbering (built (Ok c) t w) inn outw)
        ≡ chooses k again byte (x + 1) gens (renumbering (built (Ok c) t w) inn outw)
    unfolding chooses
    choose_known h = rw (ne_eqb (get_or inn x 0) appear.no_number h)

    module _ (h : get_or inn x 0 ≡ appear.no_number) where
      pub choose_no_member : byte x ≡ 0 → chooses (suc k) again byte x gens (renumbering (built (Ok c) t w) inn outw)
          ≡ chooses k again byte (x + 1) gens (renumbering (built (Ok c) t w) inn outw)
      unfolding chooses
      choose_no_member z = rw (eq-eqb (get_or inn x 0) appear.no_number h, eq-eqb (byte x) 0 z)

      pub choose_next : ¬ (byte x ≡ 0) → length gens < 8 → chooses (suc k) again byte x gens (renumbering (built (Ok c) t w) inn outw)
          ≡ chooses k again byte (x + 1) (gens ++ (x ∷ [])) (again (gens ++ (x ∷ [])) w)
      unfolding chooses
      choose_next z l = rw (eq-eqb (get_or inn x 0) appear.no_number h, ne_eqb (byte x) 0 z, lt-ltb (length gens) 8 l)

      pub choose_ninth : ¬ (byte x ≡ 0) → 8 ≤ length gens → chooses (suc k) again byte x gens (renumbering (built (Ok c) t w) inn outw)
          ≡ picked gens (ninth t w inn outw)
      unfolding chooses
      choose_ninth z l = rw (eq-eqb (get_or inn x 0) appear.no_number h, ne_eqb (byte x) 0 z, le-ltb (length gens) 8 l)
