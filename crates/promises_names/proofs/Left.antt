-- What the buffer holds after the joined name was asked for, and that 277 bytes are room enough for any.
use Prim.Native.Nat.{ℕ, zero, suc, ◌+◌, ◌-◌, ◌*◌, ◌≤◌}
use mathlib.Core.Path.{◌≡◌, refl, sym, ap, ◌∙◌}
use mathlib.Core.List.{List, ◌++◌}
use native.Mathlib.Nat.{le_trans, min-le_left}
use native.Mathlib.Omega.{arith}
use lib.ListN.{length, drop, replicate, length-append, length-drop, length-take}
use lib.Seq.{take_at}
use Rattle.egg.specs.Answers.{Counted}
use Rattle.std.specs.Prelude.{Ok, Err}
use Rattle.promises_group.specs.Flattening.{GroupWithin}
use Rattle.names_values.specs.declared.Name.{Name}
use Rattle.names_values.specs.declared.NamedGroup.{NamedGroup}
use Rattle.names_values.specs.Names.{bytes_of}
use Rattle.names_joined.specs.Joined.{listed_names, gap_at, joined_from, joined_name}
use Rattle.names.specs.Joined.{joined_answer, joined_leaves, joined_part}
use Rattle.promises_names.specs.Shown.{NamesShort, none, more, RecordsFit, whole, JoinedLeft}
use Rattle.promises_names.proofs.Shown.{joined_answers, joined_numbers, shown_name}

module _ (t : List ℕ) (g : NamedGroup) (out : List ℕ) where
  abbrev name : List ℕ
  name = joined_name (listed_names g)

  written : {k : ℕ} → joined_answer t g (length out) ≡ Ok k → joined_leaves t g out ≡ name ++ drop k out
  unfolding joined_leaves
  written h = rw (h, (shown_name t g (length out) h).0)

  handed : {k : ℕ} → joined_answer t g (length out) ≡ Ok k → joined_part t g out ≡ name
  unfolding joined_part
  handed {k} h = rw (h, written h) (take_at name (drop k out) k (sym (shown_name t g (length out) h).0))

  as_long : (c : Counted) → joined_answer t g (length out) ≡ c → length (joined_leaves t g out) ≡ length out
  unfolding joined_leaves
  as_long (Ok k) h =
      let n = shown_name t g (length out) h in
      let e : length name + (length out - length name) ≡ length out = omega (arith, n.1) in
      rw h (length-append name (drop (length name) out) ∙ ap (λ (i : ℕ). length name + i) (length-drop (length name) out) ∙ e)
  as_long (Err r) h = rw h

  pub joined_left : JoinedLeft t g out
  unfolding joined_leaves joined_part
  joined_left = record {
    written = λ h. written h;
    handed = λ h. handed h;
    untouched = λ h. rw h;
    nothing_handed = λ h. rw h;
    as_long = as_long (joined_answer t g (length out)) refl;
    numbers = joined_numbers t g (length out);
  }

gap_long : (f : ℕ) → length (gap_at f) ≤ 3
gap_long zero = omega arith
gap_long (suc f) = omega arith

short_name : (m : Name) → m.length ≤ 32 → length (bytes_of m) ≤ 32
short_name m h = rw (length-take m.length m.bytes) (le_trans (min-le_left m.length (length m.bytes)) h)

-- Three bytes before each name, and its own.
from_long : (f : ℕ) {ms : List Name} → NamesShort ms → length (joined_from f ms) ≤ 35 * length ms
unfolding joined_from
from_long f none = omega arith
from_long f (more {m = m} {ms = ms} h S) =
    rw (length-append (gap_at f) (bytes_of m ++ joined_from (f + 1) ms), length-append (bytes_of m) (joined_from (f + 1) ms))
    (omega (arith, gap_long f, short_name m h, from_long (f + 1) S))

all_long : {ms : List Name} → NamesShort ms → length ms ≤ 8 → length (joined_name ms) ≤ 277
unfolding joined_from
all_long none l = omega arith
all_long (more {m = m} {ms = ms} h S) l = rw (length-append (bytes_of m) (joined_from 1 ms)) (omega (arith, short_name m h, from_long 1 S))

-- Eight names of 32 bytes, with seven times " x ", are the longest.
pub joined_most : {len : ℕ} (g : NamedGroup) → RecordsFit len g → GroupWithin g.group → length (joined_name (listed_names g)) ≤ 277
joined_most g F L =
    all_long F.lengths_fit
    (rw (length-take g.group.count g.names) (le_trans (min-le_left g.group.count (length g.names)) L.few))

-- So the buffer of `hg_joined_part` holds every joined name whole.
pub joined_in_277 : (t : List ℕ) (g : NamedGroup) → RecordsFit (length t) g → GroupWithin g.group → joined_part t g (replicate 277 0) ≡ joined_name (listed_names g)
joined_in_277 t g F L =
    (joined_left t g (replicate 277 0)).handed ((joined_answers t g 277 (Ok (length (joined_name (listed_names g))))).1 (whole F L (joined_most g F L)))
