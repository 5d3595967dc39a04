-- Demand 2: "Images written and read back are the same table, and read and written again the same bytes."
use Prim.Native.Nat.{ℕ, ◌≤◌, ◌<◌}
use mathlib.Core.Path.{◌≡◌, sym, ap, ◌∙◌, subst}
use mathlib.Core.Bool.{true}
use mathlib.Core.List.{List, ◌++◌}
use native.Mathlib.Nat.{le_refl}
use native.Mathlib.Omega.{arith}
use borrow.Author.Tests.{le-ltb}
use lib.ListN.{length, drop}
use Rattle.egg.specs.declared.Factor.{Factor}
use Rattle.egg.specs.Answers.{fine}
use Rattle.std.specs.Prelude.{Ok}
use Rattle.egg.specs.Factor.{stretch, counted_paper}
use Rattle.egg.proofs.Scans.{scan_fine}
use Rattle.egg.proofs.Rooms.{some}
use Rattle.build_lending.specs.Lending.{lent_right, making}
use Rattle.image_cells.specs.Cells.{halves}
use Rattle.theory.specs.Words.{walk}
use Rattle.theory.specs.Numbering.{Numbered}
use Rattle.theory.specs.Appearance.{recorded}
use Rattle.theory.proofs.Walking.{walk_agree}
use Rattle.theory.proofs.RuleLaws.{numbered_agree}
use Rattle.theory.proofs.Shortest.{recorded_best}
use Rattle.theory.proofs.AnyCarrier.{any_carrier}
use Rattle.build_checks_laws.proofs.Accepted.{sound_regular, read_step_lem}
use Rattle.build_checks_laws.proofs.Refused.{regular_same}
use Rattle.factor_laws.specs.Accepted.{Accepted, factor_step, factor_word}
use Rattle.factor_laws.proofs.Handles.{few_generators, few_elements}
use Rattle.promises.specs.Composed.{Given}
use Rattle.build_laws.specs.Taken.{Taken}
use Rattle.image.specs.Image.{head_generators, head_elements}
use Rattle.image_writing.specs.Written.{rows_of, image_size, image_of, step_read, known_row, all_known}
use Rattle.image.specs.Written.{write_count, written_image}
use Rattle.image.specs.Read.{read_image}
use Rattle.promises_image.specs.Images.{Bytes, image_step, GroupImage, MadeWith, SameBytes}
use Rattle.promises_image.proofs.Spelling.{rows_entry, rows_same}
use Rattle.promises_image.proofs.Heads.{written_generators, written_elements, written_formed, written_rows, image_again, image_bytes}
use Rattle.promises_image.proofs.Back.{read_given, group_read}

module _ {t : List ℕ} {f : Factor} (A : Accepted t f) where
  some_elements : 1 ≤ f.elements
  some_elements = some (length t) f A.fits

  -- Every stored step of an accepted factor can be read.
  all_known_lem : all_known (stretch t f) f.generators f.elements ≡ fine
  unfolding all_known known_row
  all_known_lem =
      (scan_fine f.elements _).1 (λ e he. (scan_fine f.generators _).1 (λ g hg. ap step_read (read_step_lem A.sound he hg)))

  -- So it is written, into a buffer that is long enough: the answer is the length, and the image stands at the start.
  module _ (out : List ℕ) (long : image_size f.generators f.elements ≤ length out) where
    pub written_count : write_count t f (length out) ≡ Ok (image_size f.generators f.elements)
    unfolding write_count
    written_count = rw A.fits (simp (le-ltb _ _ long) (rw all_known_lem))

    pub written_is : written_image t f out
        ≡ image_of (factor_step t f) f.generators f.elements ++ drop (image_size f.generators f.elements) out
    unfolding written_image
    written_is = rw written_count

  small_steps : (e g : ℕ) → e < f.elements → g < f.generators → factor_step t f e g < 65536
  small_steps e g he hg = omega (arith, A.sound.table.closed he hg, few_elements A)

  abbrev image : List ℕ
  image = image_of (factor_step t f) f.generators f.elements

  pub image_elements : head_elements (image_of (factor_step t f) f.generators f.elements) ≡ f.elements
  image_elements = written_elements (factor_step t f) f.generators f.elements (few_generators A) some_elements (few_elements A)

  pub image_generators : head_generators (image_of (factor_step t f) f.generators f.elements) ≡ f.generators
  image_generators = written_generators (factor_step t f) f.generators f.elements (few_generators A) some_elements (few_elements A)

  pub image_rows : halves (drop 8 (image_of (factor_step t f) f.generators f.elements)) ≡ rows_of f.elements (factor_step t f) f.generators 0
  image_rows = written_rows (factor_step t f) f.generators f.elements (few_generators A) some_elements (few_elements A) small_steps

  -- The written image's steps are the factor's.
  pub image_steps : {e g : ℕ} → e < f.elements → g < f.generators
      → image_step (image_of (factor_step t f) f.generators f.elements) e g ≡ factor_step t f e g
  image_steps {e} {g} he hg =
      rw (image_rows, image_generators) (rows_entry f.elements (factor_step t f) f.generators he hg)

  same_steps : (e g : ℕ) → e < f.elements → g < f.generators → factor_step t f e g ≡ image_step image e g
  same_steps e g he hg = sym (image_steps he hg)

  -- The recorded word of a table by the numbering rule is no longer than the one that the factor has recorded.
  short_words : Numbered f.generators f.elements (image_step image) → {e : ℕ} → e < f.elements → length (recorded f.generators (image_step image) e) ≤ 4096
  short_words R {e} he =
      let S = A.sound in
      let w = S.spelled.over he in
      let q : walk (image_step image) 0 (factor_word t f e) ≡ e = walk_agree S.table (λ x g hx hg. image_steps hx hg) S.table.origin w ∙ S.spelled.spells he in
      let b : length (recorded f.generators (image_step image) (walk (image_step image) 0 (factor_word t f e))) ≤ length (factor_word t f e) = (recorded_best R w).0 in
      let c : length (recorded f.generators (image_step image) e) ≤ length (factor_word t f e)
      = subst (λ (x : ℕ). length (recorded f.generators (image_step image) x) ≤ length (factor_word t f e)) q b in
      omega (arith, S.short he, S.stored.lengths he)

  image_taken : Taken (image_step image) f.generators f.elements f.elements
  image_taken =
      let R' = numbered_agree A.ruled.rule.numbered (λ e g he hg. image_steps he hg) in
      record {
        readable = record { by_rule = R'; within = le_refl f.elements; short = short_words R' };
        identity_row_lem = λ g hg. image_steps A.sound.table.origin hg ∙ A.sound.identity_row_lem hg;
        group = any_carrier.1 (regular_same A.sound.table same_steps (sound_regular A.sound));
      }

  -- What is written of an accepted factor is a group's image.
  pub written_group : GroupImage (image_of (factor_step t f) f.generators f.elements)
  written_group = record {
    formed = written_formed (factor_step t f) f.generators f.elements (few_generators A) some_elements (few_elements A);
    taken = at image_generators image_elements image_taken;
  } where
    at : {n n' N N' : ℕ} {src : ℕ → ℕ → ℕ} → n ≡ n' → N ≡ N' → Taken src n' N' N' → Taken src n N N
    at p q T = rw (p, q) T

  -- Written and read back: accepted, at any start and in any buffers that are not short, with as many generators and elements and the same steps.
  -- (The room becomes N, for an image tells no room.)
  pub read_written : (table : List ℕ) (start : ℕ) (work : List ℕ) → lent_right (length table) start (length work) f.elements f.generators ≡ true
      → MadeWith start f.generators f.elements (factor_step t f)
      (read_image (image_of (factor_step t f) f.generators f.elements) table start work)
  read_written table start work lent =
      let B = image_bytes (factor_step t f) f.generators f.elements (few_generators A) in
      let l : lent_right (length table) start (length work) (head_elements image) (head_generators image) ≡ true = rw (image_elements, image_generators) lent in
      let a = group_read image B table start work written_group l in
      let b = read_given image B table start work a.3 in
      let G = b.1 in
      let h : a.0 ≡ record { start = start; room = f.elements; generators = f.generators; elements = f.elements }
      = G.handle ∙ rw (b.2, image_elements, image_generators) in
      record {
        table = a.1;
        work = a.2;
        made = a.3 ∙ ap (λ (x : Factor). making (Ok x) a.1 a.2) h;
        accepted = subst (λ (x : Factor). Accepted a.1 x) h G.accepted;
        steps = λ {e} {g} he hg.
            ap (λ (x : Factor). factor_step a.1 x e g) (sym h)
            ∙ G.steps (rw (b.2, image_elements) he) (rw image_generators hg) ∙ image_steps he hg;
      }

image_same : (src src' : ℕ → ℕ → ℕ) (n N : ℕ) → rows_of N src n 0 ≡ rows_of N src' n 0 → image_of src n N ≡ image_of src' n N
unfolding image_of
image_same src src' n N e = rw e

-- Read and written again: the same bytes, at the start of a buffer that is long enough, and the answer is their number.
module _ (l : List ℕ) (B : Bytes l) (table : List ℕ) (start : ℕ) (work : List ℕ) {f : Factor} {t w : List ℕ}
    (q : read_image l table start work ≡ making (Ok f) t w) where
  given : GroupImage l × Given table start work (halves (drop 8 l)) (head_generators l) (head_elements l) f t w × (f.elements ≡ head_elements l)
  given = read_given l B table start work q

  generators_are : f.generators ≡ head_generators l
  generators_are = ap (λ (x : Factor). x.generators) given.1.handle

  pub written_again : image_of (factor_step t f) f.generators f.elements ≡ l
  written_again =
      let G = given.1 in
      ap (λ (x : ℕ). image_of (factor_step t f) x f.elements) generators_are
      ∙ ap (λ (x : ℕ). image_of (factor_step t f) (head_generators l) x) given.2
      ∙ image_same (factor_step t f) (image_step l) (head_generators l) (head_elements l)
      (rows_same (factor_step t f) (image_step l) (head_generators l) (head_elements l) (λ e g he hg. G.steps (rw given.2 he) hg))
      ∙ image_again l B given.0.formed

  same_size : image_size f.generators f.elements ≡ length l
  same_size = rw (generators_are, given.2) (sym given.0.formed.size)

  pub written_same : (out : List ℕ) → length l ≤ length out → SameBytes l t f out
  written_same out long =
      let A = given.1.accepted in
      let h : image_size f.generators f.elements ≤ length out = rw same_size long in
      record {
        counted = ap counted_paper (written_count A out h) ∙ rw same_size;
        written = written_is A out h ∙ rw (written_again, same_size);
      }
