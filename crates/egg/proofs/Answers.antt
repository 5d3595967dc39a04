-- One law for each answer of a step, by the tests that lead to it.
use Prim.Native.Nat.{ℕ, ◌+◌, ◌-◌, ◌≤◌, ◌<◌}
use mathlib.Core.Path.{◌≡◌}
use mathlib.Core.Bool.{true, false}
use mathlib.Core.List.{List}
use borrow.Author.Tests.{eq-eqb, ne_eqb, lt-ltb, le-ltb, le-leb, lt-leb}
use lib.ListN.{length, get_or}
use Rattle.egg.specs.declared.GroupElementId.{GroupElementId}
use Rattle.egg.specs.declared.GeneratorId.{GeneratorId}
use Rattle.egg.specs.declared.Factor.{Factor}
use Rattle.std.specs.Prelude.{Ok}
use Rattle.egg.specs.Table.{start_of}
use Rattle.egg.specs.Factor.{fits_in, stretch, refused_reach, read_step, step_answer}

module _ (s : List ℕ) (n count e g : ℕ) {x : ℕ} (q : x ≡ get_or s (start_of n e + g) 0) where
  pub read_missing : x ≡ 0 → refused_reach 17 0 ≡ read_step s n count e g
  unfolding read_step
  read_missing z = rw (← q) (simp (eq-eqb _ _ z))

  pub read_beyond : (x ≡ 0 → ⊥) → count < x → refused_reach 17 0 ≡ read_step s n count e g
  unfolding read_step
  read_beyond z h = rw (← q) (simp (ne_eqb _ _ z, lt-ltb _ _ h))

  pub read_element : (x ≡ 0 → ⊥) → x ≤ count → Ok (record { 0 = x - 1 }) ≡ read_step s n count e g
  unfolding read_step
  read_element z h = rw (← q) (simp (ne_eqb _ _ z, le-ltb _ _ h))

module _ (t : List ℕ) (f : Factor) (e : GroupElementId) (g : GeneratorId) where
  pub step_handle : fits_in (length t) f ≡ false → refused_reach 17 0 ≡ step_answer t f e g
  unfolding step_answer
  step_handle h = rw h

  module _ (fits : fits_in (length t) f ≡ true) where
    pub step_element : f.elements ≤ e.0 → refused_reach 14 0 ≡ step_answer t f e g
    unfolding step_answer
    step_element h = rw fits (simp (le-leb _ _ h))

    pub step_generator : e.0 < f.elements → f.generators ≤ g.0 → refused_reach 14 1 ≡ step_answer t f e g
    unfolding step_answer
    step_generator h k = rw fits (simp (lt-leb _ _ h, le-leb _ _ k))

    pub step_read_lem : e.0 < f.elements → g.0 < f.generators
        → read_step (stretch t f) f.generators f.elements e.0 g.0 ≡ step_answer t f e g
    unfolding step_answer
    step_read_lem h k = rw fits (simp (lt-leb _ _ h, lt-leb _ _ k))
