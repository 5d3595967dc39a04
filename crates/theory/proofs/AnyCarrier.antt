-- Who says "some group" may mean a group on any carrier: a table has the right steps of one just if it has those of a group on 0 .. N-1.
use mathlib.Core.Path.{◌≡◌, refl}
use mathlib.Core.Logic.{◌↔◌}
use Prim.Native.Nat.{ℕ, ◌<◌, Fin}
use native.Mathlib.Decide.{dec_lt}
use native.Mathlib.Omega.{arith}
use Rattle.theory.specs.Table.{generator}
use Rattle.theory.specs.Group.{GroupOn, RightSteps, RightRegular}
use Rattle.theory.specs.AnyGroup.{GroupOver, Numbers, SomeGroup}

-- The element with the number 0 is the identity.
pub elt_zero : {A : Type 0} {G : GroupOver A} {N : ℕ} (numbers : Numbers G N) → numbers.elt 0 ≡ G.unit
elt_zero {G = G} numbers = cc (numbers.num_unit, numbers.elt_num G.unit)

-- From any carrier to the numbers: the operation is carried over by the numbering.
module _ {n N : ℕ} {step : ℕ → ℕ → ℕ} (S : SomeGroup n N step) where
  open S use {group, numbers, gen, steps}
  open group use {op, unit, inv}
  open numbers use {num, elt}

  pub on_numbers : GroupOn N (λ a b. num (op (elt a) (elt b))) (λ a. num (inv (elt a)))
  on_numbers = record {
    identity = omega (arith, numbers.num_below unit);
    op_closed = λ {a} {b} _ _. numbers.num_below (op (elt a) (elt b));
    inv_closed = λ {a} _. numbers.num_below (inv (elt a));
    assoc = λ {a} {b} {c} _ _ _.
        cc (numbers.elt_num (op (elt a) (elt b)), numbers.elt_num (op (elt b) (elt c)), group.assoc (elt a) (elt b) (elt c));
    left_identity = λ {a} h. cc (elt_zero numbers, group.left_unit (elt a), numbers.num_elt h);
    right_identity = λ {a} h. cc (elt_zero numbers, group.right_unit (elt a), numbers.num_elt h);
    left_inverse = λ {a} _. cc (numbers.elt_num (inv (elt a)), group.left_inverse (elt a), numbers.num_unit);
    right_inverse = λ {a} _. cc (numbers.elt_num (inv (elt a)), group.right_inverse (elt a), numbers.num_unit);
  }

  pub on_numbers_steps : RightSteps n N step (λ a b. num (op (elt a) (elt b)))
  on_numbers_steps = record {
    element = λ hg. rw (steps on_numbers.identity hg) (numbers.num_below _);
    step_is = λ {e} {g} he hg.
        cc (steps he hg, steps on_numbers.identity hg, elt_zero numbers, group.left_unit (gen g), numbers.elt_num (gen g));
  }

-- From the numbers to a carrier: the numbers below N are one.
module _ {n N : ℕ} {step : ℕ → ℕ → ℕ} (R : RightRegular n N step) where
  open R use {op, inv, group, steps}

  on_carrier : GroupOver (Fin N)
  on_carrier = record {
    op = λ a b. (op a.0 b.0, group.op_closed a.1 b.1);
    unit = (0, group.identity);
    inv = λ a. (inv a.0, group.inv_closed a.1);
    assoc = λ a b c. native.Mathlib.Fin.val_path (group.assoc a.1 b.1 c.1);
    left_unit = λ a. native.Mathlib.Fin.val_path (group.left_identity a.1);
    right_unit = λ a. native.Mathlib.Fin.val_path (group.right_identity a.1);
    left_inverse = λ a. native.Mathlib.Fin.val_path (group.left_inverse a.1);
    right_inverse = λ a. native.Mathlib.Fin.val_path (group.right_inverse a.1);
  }

  -- The element of each number; what lies past the end is no matter.
  pick : (e : ℕ) → Dec (e < N) → Fin N
  pick e (yes h) = (e, h)
  pick e (no _) = (0, group.identity)

  picked : {e : ℕ} → e < N → (d : Dec (e < N)) → (pick e d).0 ≡ e
  unfolding pick
  picked h (yes _) = refl
  picked h (no f) = absurd (f h)

  element : ℕ → Fin N
  element e = pick e (dec_lt e N)

  element_number : {e : ℕ} → e < N → (element e).0 ≡ e
  unfolding element
  element_number {e} h = picked h (dec_lt e N)

  to_any : SomeGroup n N step
  unfolding on_carrier
  to_any = record {
    Carrier = Fin N;
    group = on_carrier;
    numbers = record {
      num = λ a. a.0;
      elt = element;
      num_below = λ a. a.1;
      elt_num = λ a. native.Mathlib.Fin.val_path (element_number a.1);
      num_elt = element_number;
      num_unit = refl;
    };
    gen = λ g. element (generator step g);
    steps = λ {e} {g} he hg. cc (steps.step_is he hg, element_number he, element_number (steps.element hg));
  }

-- The two meanings of "some group" are one.
pub any_carrier : {n N : ℕ} {step : ℕ → ℕ → ℕ} → SomeGroup n N step ↔ RightRegular n N step
any_carrier = (λ S. record { op = _; inv = _; group = on_numbers S; steps = on_numbers_steps S }, to_any)
