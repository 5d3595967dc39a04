-- Where the quick run makes a new element, the other makes it too.
use Prim.Native.Nat.{ℕ, ◌+◌, ◌*◌, ◌%◌, ◌<◌, ◌≤◌}
use mathlib.Core.Path.{◌≡◌, sym, ap, ◌∙◌}
use mathlib.Core.Logic.{⊎_elim}
use mathlib.Core.List.{List}
use native.Mathlib.Nat.{mul-le-mul_right}
use native.Mathlib.Decide.{ℕ_discrete}
use native.Mathlib.Omega.{arith}
use borrow.Author.Tests.{eq-eqb, lt-leb}
use lib.ListN.{get_or, length}
use Rattle.theory.specs.Presentation.{order_of}
use Rattle.egg.specs.declared.GroupElementId.{GroupElementId}
use Rattle.egg.specs.declared.GeneratorId.{GeneratorId}
use Rattle.std.specs.Prelude.{Ok}
use Rattle.egg.specs.Table.{start_of, step_of, last_of, length_of}
use Rattle.build_reading.specs.Build.{set_step, set_word, adds}
use Rattle.enumeration_wake.specs.Waking.{State}
use Rattle.enumeration_run.specs.Run.{discovered, visit, visits}
use Rattle.enumeration_run_laws.specs.Invariant.{RunOk}
use Rattle.enumeration_run.specs.Limits.{Limits}
use Rattle.enumeration_run_laws.proofs.Growing.{word_length, last_new}
use Rattle.enumeration_run_laws.proofs.Marking.{set_length}
use Rattle.enumeration_run_laws.proofs.Settled.{discovered_empty}
use Rattle.enumeration_run_laws.proofs.Since.{word_step}
use Rattle.enumeration_loop_laws.specs.Rings.{first_of_pair, second_of_pair, Looped}
use Rattle.enumeration_quick_laws.specs.Sweeping.{Live, TwoWay, Grows}
use Rattle.enumeration_loop_laws.proofs.Stepping.{stepped, stepped_more, stepped_here, stepped_new}
use Rattle.enumeration_closure_laws.proofs.Discovering.{discovers}
use Rattle.enumeration_quick_laws.proofs.Alike.{word_alike, set_rest, set_splits}
use Rattle.enumeration_quick_laws.proofs.Lasting.{discovered_lasts}
use Rattle.enumeration_quick_laws.proofs.Beside.{Beside}
use Rattle.enumeration_quick_laws.proofs.Linking.{Linked, linked}
use Rattle.enumeration_quick_laws.proofs.Placing.{Came}

-- A step that is not known makes an element, where there is room and its word is short enough.
module _ (n : ℕ) (o : List ℕ) (room c : ℕ) (e : GroupElementId) (g : GeneratorId) (t w : List ℕ) where
  abbrev pub after : ℕ → State
  after len = discovered n o e g (record { 0 = c }) (set_step (set_word t n (record { 0 = c }) e g len) n e g (record { 0 = c })) w

  pub makes : (len : ℕ) → get_or t (start_of n e.0 + g.0) 0 ≡ 0 → c < room → length_of t n e.0 < 4096 → len ≡ length_of t n e.0 + 1
      → visits n o room c e g t w ≡ visit (Ok (c + 1)) (after len).table (after len).work
  unfolding visits adds
  makes len z h short q = rw q (simp (eq-eqb _ _ z, lt-leb _ _ h, lt-leb _ _ short))

module _ {n N : ℕ} {o : List ℕ} (F : List ℕ) (looped : Looped n N o (step_of F n)) {room lt lw : ℕ} (L : Limits n o room lt lw)
    {c : ℕ} {q t w : List ℕ} (B : Beside n o lt lw F c q t w) (I : RunOk n (order_of o) room lt lw c t w) {x g : ℕ} (hx : x < c) (hg : g < n)
    (h : c < room) (short : length_of q n x < 4096) where
  abbrev e : GroupElementId
  e = record { 0 = x }

  abbrev γ : GeneratorId
  γ = record { 0 = g }

  abbrev new : GroupElementId
  new = record { 0 = c }

  abbrev len : ℕ
  len = length_of q n x + 1

  abbrev q' : List ℕ
  q' = stepped q n c e γ len

  abbrev once : List ℕ
  once = set_step (set_word q n new e γ len) n e γ new

  long : length t ≡ length q
  long = I.table_length ∙ sym B.two_way.size

  small : c < 65535
  small = omega (arith, L.limit)

  rows_fit : (c + 1) * (2 * n + 4) ≤ length t
  rows_fit = rw I.table_length (omega (arith, L.table_room, mul-le-mul_right (2 * n + 4) h))

  lengths : length_of q n x ≡ length_of t n x
  lengths =
      let i : start_of n x + (2 * n + 2) ≡ start_of n x + 2 * n + 2 = omega arith in
      rw i at (sym (B.rest x (2 * n + 2) (omega arith) (omega arith)))

  module _ (two_way : TwoWay n (c + 1) lt q') (grows : Grows n (c + 1) N q' F) where
    link : Linked n q' F x g c
    link =
        linked once F L.limit L.table_room (set_length _ n e γ new ∙ word_length q n c e γ len ∙ B.two_way.size) (omega arith) hg h two_way grows

    -- The other run does not know the step either: it would lead below c.
    unknown : get_or t (start_of n x + g) 0 ≡ 0
    unknown = by (ℕ_discrete (get_or t (start_of n x + g) 0) 0) where
      by : Dec (get_or t (start_of n x + g) 0 ≡ 0) → get_or t (start_of n x + g) 0 ≡ 0
      by (yes z) = z
      by (no d) = absurd (omega (arith, B.closed.machine.told.to_below x g hg d, link.leads))

    row_fits : start_of n c + (2 * n + 4) ≤ length q
    unfolding start_of
    row_fits = rw B.two_way.size (omega (arith, L.table_room, mul-le-mul_right (2 * n + 4) h))

    -- The new element's last letter is g.
    last_is : last_of F n c ≡ g
    last_is =
        let i : start_of n c + (2 * n + 1) ≡ start_of n c + 2 * n + 1 = omega arith in
        let a = grows.rest c (2 * n + 1) (omega arith) (omega arith) (omega arith) ∙ set_rest n once new γ e hg c (2 * n + 1) (omega arith) (omega arith)
        ∙ set_rest n (set_word q n new e γ len) e γ new hg c (2 * n + 1) (omega arith) (omega arith) in
        ap (λ (v : ℕ). v % 8) (rw i at a) ∙ last_new q n c e γ len row_fits (omega (arith, L.few))

    dead : (k : ℕ) → k < length o → Live (last_of F n) c k → (g ≡ first_of_pair k → ⊥) × (g ≡ second_of_pair k → ⊥)
    dead k hk live = let l = live (omega arith) in (λ z. l.0 (last_is ∙ z), λ z. l.1 (last_is ∙ z))

    pub came_new : Came n o room lt lw F x g c t w (c + 1) q'
    came_new =
        let s = after n o room c e γ t w len in
        let K = discovered_lasts L I e γ hx hg h len in
        record {
          table = s.table;
          work = s.work;
          is = makes n o room c e γ t w len unknown h (omega (arith, lengths)) (omega (arith, lengths));
          beside = record {
            two_way = two_way;
            closed = discovers L looped B.closed h (omega (arith, grows.more)) x g hx hg link.leads dead len
                (discovered_empty L I e γ hx hg h len);
            known = λ y k hk d. K.more y k hk
                (⊎_elim (λ p. rw (p.0, p.1) (stepped_new t n c e γ len hx hg rows_fit small))
                (λ d. ⊎_elim (λ p. rw (p.0, p.1) (stepped_here t n c e γ len hx hg rows_fit small))
                (λ d. stepped_more t n c e γ len y k hk (B.known y k hk (rw (word_step n q c e γ len y k (omega arith)) at d)))
                (set_splits n (set_word q n new e γ len) e γ new hg y k hk d))
                (set_splits n once new γ e hg y k hk d));
            rest = λ y k low high.
                let words = set_word t n new e γ len in
                K.rest y k low high ∙ set_rest n (set_step words n e γ new) new γ e hg y k low high ∙ set_rest n words e γ new hg y k low high
                ∙ word_alike t q n new e γ len (start_of n y + k) long (B.rest y k low high)
                ∙ sym (set_rest n once new γ e hg y k low high ∙ set_rest n (set_word q n new e γ len) e γ new hg y k low high);
          };
          here = link.here;
        }
