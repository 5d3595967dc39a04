-- A factor that is written and read back is the same table, whichever call made it. The reading is one of composed rows, so it records each element where it
-- first appears, as the factor does; the rest follows from the steps.
use Prim.Native.Nat.{ℕ, ◌≤◌}
use mathlib.Core.Path.{◌≡◌, ap, ◌∙◌}
use mathlib.Core.Bool.{true}
use mathlib.Core.List.{List}
use lib.ListN.{length}
use Rattle.egg.specs.declared.Factor.{Factor}
use Rattle.egg.specs.Factor.{counted_paper}
use Rattle.build_lending.specs.Lending.{lent_right}
use Rattle.factor_laws.specs.Accepted.{Accepted, factor_step}
use Rattle.factor_laws.proofs.Handles.{few_generators}
use Rattle.image_writing.specs.Written.{image_size, image_of}
use Rattle.image.specs.Read.{read_image}
use Rattle.image_writing.proofs.Bytes.{image_length}
use Rattle.promises_image.specs.Images.{Bytes, CameBack, RoundTrip}
use Rattle.promises_image.proofs.Heads.{image_bytes}
use Rattle.promises_image.proofs.Back.{number_exactly}
use Rattle.promises_image.proofs.Rounds.{image_generators, image_elements, written_group, written_count, written_is, read_written}
use Rattle.promises_image.proofs.SameTable.{same_table}

module _ {t : List ℕ} {f : Factor} (A : Accepted t f) where
  abbrev written : List ℕ
  written = image_of (factor_step t f) f.generators f.elements

  bytes : Bytes written
  bytes = image_bytes (factor_step t f) f.generators f.elements (few_generators A)

  pub came_back : (table : List ℕ) (start : ℕ) (work : List ℕ) → lent_right (length table) start (length work) f.elements f.generators ≡ true
      → CameBack t f start (read_image (image_of (factor_step t f) f.generators f.elements) table start work)
  came_back table start work lent =
      let M = read_written A table start work lent in
      record {
        back = M;
        same = same_table A.sound M.accepted.sound A.ruled M.accepted.ruled A.hops M.accepted.hops (λ e g he hg. M.steps he hg);
      }

  pub round_trip : (out : List ℕ) → image_size f.generators f.elements ≤ length out → RoundTrip t f out
  round_trip out long =
      let size = image_length (factor_step t f) f.generators f.elements in
      record {
        image = image_of (factor_step t f) f.generators f.elements;
        counted = ap counted_paper (written_count A out long) ∙ rw size;
        written = written_is A out long ∙ rw size;
        checked = λ k enough. (number_exactly written bytes k (rw (image_generators A, image_elements A) enough)).1 (written_group A);
        read = came_back;
      }
