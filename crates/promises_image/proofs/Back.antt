-- Reading an image is `from_composed` on its successors with room N, but for a bad head and for 16 where fewer than N are reached; so the check's verdict is
-- the reading's, and what is promised of composed rows holds of an image.
use Prim.Native.Nat.{ℕ, ◌+◌, ◌*◌, ◌≤◌}
use mathlib.Core.Path.{◌≡◌, refl, sym, ap, ◌∙◌, subst}
use mathlib.Core.Logic.{◌↔◌, ◌⊎◌, inl, inr}
use mathlib.Core.Bool.{Bool, true, false}
use mathlib.Core.List.{List}
use native.Mathlib.Nat.{le_refl}
use native.Mathlib.Omega.{arith}
use borrow.Author.Tests.{eq-eqb, ne_eqb, eqb-true, eqb-false, le-ltb, le-leb, ltb-false}
use lib.Dec.{ltb, eqb}
use lib.ListN.{length, drop, take, replicate, length-replicate}
use Rattle.egg.specs.declared.Factor.{Factor}
use Rattle.std.specs.Prelude.{Ok, Err}
use Rattle.egg.specs.Table.{pick}
use Rattle.egg.specs.Scan.{refused_of}
use Rattle.egg.specs.Factor.{Paper, verdict_paper}
use Rattle.build_checks.specs.Checks.{check_group, verdict_of}
use Rattle.build_lending.specs.Finish.{finished, finished_placed}
use Rattle.build_lending.specs.Lending.{table_need, work_need, lent_right, refused_made, Making, making, lent_back}
use Rattle.build_reading.specs.Reading.{Placed, placed, read_all, composed_at}
use Rattle.factor.specs.Composed.{composed_in, composed}
use Rattle.image_cells.specs.Cells.{halves}
use Rattle.build_reading_laws.specs.Read.{Read, Readable}
use Rattle.build_reading_laws.proofs.Readings.{accepted_read, readable_accepted, refused_read, refused_number}
use Rattle.image_check.specs.Short.{verdict_number, number_by, ruled, built}
use Rattle.promises_image.proofs.Composed.{ruled_is_composed}
use Rattle.image.specs.Image.{head_generators, head_elements, head_number, head_place, bytes_need, image_number}
use Rattle.image_reading.specs.Read.{all_placed, image_in}
use Rattle.image.specs.Read.{read_image}
use Rattle.image.specs.Checked.{image_verdict}
use Rattle.image.proofs.Checking.{zeros_long, verdict_number_lem}
use Rattle.promises.specs.Composed.{Given}
use Rattle.build_laws.specs.Taken.{Taken}
use Rattle.promises.specs.Papers.{made_paper}
use Rattle.build_laws.proofs.Settled.{settle}
use Rattle.build_laws.proofs.Built.{settled_holds, taken_checked}
use Rattle.build_laws.proofs.Lent.{refused_making_lem}
use Rattle.promises.proofs.Composed.{composed_exactly, composed_given}
use Rattle.promises_image.specs.Images.{Bytes, image_step, ends_fewer, made_answer, made_number, WellFormed, GroupImage}
use Rattle.promises_image.proofs.Heads.{formed, formed_head, listed}
use Rattle.promises_image.proofs.Numbers.{fine_checks}

-- A reading that reached them all goes on as it is, and one that did not is refused by 16.
all_placed_lem : (room : ℕ) (p : Placed) → ends_fewer p room ≡ false → all_placed room p ≡ p
all_placed_lem room (placed (Ok c) t) e = rw e
all_placed_lem room (placed (Err r) t) e = refl

fewer_answer : (table : List ℕ) (start : ℕ) (work : List ℕ) (n room : ℕ) (w : List ℕ) (p : Placed) → ends_fewer p room ≡ true
    → made_answer (lent_back table start work n room (finished_placed (all_placed room p) n w)) ≡ refused_of 16 0 0 0
unfolding finished
fewer_answer table start work n room w (placed (Ok c) t) e = rw e
fewer_answer table start work n room w (placed (Err r) t) e = absurd (let z : ◌≡◌ {A = ℕ} 0 1 = cc in omega arith)

in_same : (size : ℕ) (w rows : List ℕ) (n room : ℕ) → ends_fewer (read_all (composed_at rows n) n room (replicate size 0)) room ≡ false
    → image_in size w rows n room ≡ composed_in size w rows n room
unfolding image_in composed_in
in_same size w rows n room e =
    ap (λ (x : Placed). finished_placed x n w) (all_placed_lem room (read_all (composed_at rows n) n room (replicate size 0)) e)

-- What a reading with room N of a readable source gives is not fewer.
readable_all : (src : ℕ → ℕ → ℕ) (n room size : ℕ) → n ≤ 8 → 1 ≤ room → room ≤ 65535 → room * (2 * n + 4) ≤ size → Readable src n room room
    → ends_fewer (read_all src n room (replicate size 0)) room ≡ false
readable_all src n room size few lo hi fits R =
    let a = readable_accepted src n room size few lo hi fits R in
    ap (λ (p : Placed). ends_fewer p room) a.1 ∙ le-ltb room room (le_refl room)

module _ (l table : List ℕ) (start : ℕ) (work : List ℕ) where
  -- A bad head is refused with its number.
  pub bad_read : (head_number l ≡ 0 → ⊥) → read_image l table start work ≡ making (refused_made (head_number l) (head_place l)) table work
  unfolding read_image
  bad_read d = simp (ne_eqb _ _ d)

  module _ (F : WellFormed l) (long : head_elements l * head_generators l ≤ length (halves (drop 8 l))) where
    abbrev n : ℕ
    n = head_generators l

    abbrev N : ℕ
    N = head_elements l

    abbrev rows : List ℕ
    rows = halves (drop 8 l)

    abbrev reading : Placed
    reading = read_all (composed_at rows n) n N (replicate (table_need n N) 0)

    pub short_read : lent_right (length table) start (length work) (head_elements l) (head_generators l) ≡ false
        → read_image l table start work ≡ making (refused_made 4 0) table work
    unfolding read_image
    short_read lent = let h = formed_head l F in simp (eq-eqb _ _ h, lent)

    pub lent_read : lent_right (length table) start (length work) (head_elements l) (head_generators l) ≡ true
        → read_image l table start work
        ≡ lent_back table start work (head_generators l) (head_elements l)
        (image_in (table_need (head_generators l) (head_elements l)) (take (work_need (head_generators l) (head_elements l)) work) (halves (drop 8 l)) (head_generators l)
        (head_elements l))
    unfolding read_image
    lent_read lent = let h = formed_head l F in simp (eq-eqb _ _ h, lent)

    lent_composed : lent_right (length table) start (length work) N n ≡ true
        → composed table start work rows n N ≡ lent_back table start work n N (composed_in (table_need n N) (take (work_need n N) work) rows n N)
    unfolding composed
    lent_composed lent = simp (le-ltb _ _ F.few, lent, le-leb _ _ long)

    short_composed : lent_right (length table) start (length work) N n ≡ false → composed table start work rows n N ≡ making (refused_made 4 0) table work
    unfolding composed
    short_composed lent = simp (le-ltb _ _ F.few, lent)

    -- The image is read as its successors are composed, with room N.
    pub read-is-composed
        : ends_fewer (read_all (composed_at (halves (drop 8 l)) (head_generators l)) (head_generators l) (head_elements l) (replicate (table_need (head_generators l) (head_elements l)) 0)) (head_elements l) ≡ false
        → read_image l table start work ≡ composed table start work (halves (drop 8 l)) (head_generators l) (head_elements l)
    read-is-composed e = by (lent_right (length table) start (length work) N n) refl where
      by : (b : Bool) → lent_right (length table) start (length work) N n ≡ b → read_image l table start work ≡ composed table start work rows n N
      by true lent =
          lent_read lent ∙ ap (lent_back table start work n N) (in_same (table_need n N) (take (work_need n N) work) rows n N e) ∙ sym (lent_composed lent)
      by false lent = short_read lent ∙ sym (short_composed lent)

    pub fewer_read : lent_right (length table) start (length work) (head_elements l) (head_generators l) ≡ true
        → ends_fewer (read_all (composed_at (halves (drop 8 l)) (head_generators l)) (head_generators l) (head_elements l) (replicate (table_need (head_generators l) (head_elements l)) 0)) (head_elements l) ≡ true
        → made_answer (read_image l table start work) ≡ refused_of 16 0 0 0
    unfolding image_in
    fewer_read lent e = ap made_answer (lent_read lent) ∙ fewer_answer table start work n N (take (work_need n N) work) reading e

answer_paper : (m : Making) → verdict_paper (made_answer m) ≡ made_paper m
answer_paper (making m t w) = refl

-- The verdict, by the head.
module _ (l : List ℕ) where
  pub bad_verdict : (size : ℕ) → (head_number l ≡ 0 → ⊥) → image_verdict l size ≡ refused_of (head_number l) (head_place l) 0 0
  unfolding image_verdict
  bad_verdict size d = simp (ne_eqb _ _ d)

  pub lent_verdict : (size : ℕ) → head_number l ≡ 0 → bytes_need (head_generators l) (head_elements l) ≤ size
      → image_verdict l size ≡ ruled (table_need (head_generators l) (head_elements l)) (replicate (work_need (head_generators l) (head_elements l)) 0) (halves (drop 8 l)) (head_generators l) (head_elements l)
  unfolding image_verdict
  lent_verdict size h long = simp (eq-eqb _ _ h, le-ltb _ _ long)

module _ (l : List ℕ) (B : Bytes l) where
  few_elements : head_elements l ≤ 65535
  few_elements = omega (arith, B.byte 6, B.byte 7)

  pub all_listed : WellFormed l → head_elements l * head_generators l ≤ length (halves (drop 8 l))
  all_listed F = rw (listed l B F) (le_refl (head_elements l * head_generators l))

  pub bad_number : (size : ℕ) → (head_number l ≡ 0 → ⊥) → image_number l size ≡ head_number l
  unfolding image_number
  bad_number size d = simp (ne_eqb _ _ d)

  lent_number : (size : ℕ) → head_number l ≡ 0 → bytes_need (head_generators l) (head_elements l) ≤ size
      → image_number l size ≡ built (table_need (head_generators l) (head_elements l)) (replicate (work_need (head_generators l) (head_elements l)) 0) (halves (drop 8 l)) (head_generators l) (head_elements l)
  unfolding image_number
  lent_number size h long = simp (eq-eqb _ _ h, le-ltb _ _ long)

  module _ (table : List ℕ) (start : ℕ) (work : List ℕ) (size : ℕ)
      (lent : head_number l ≡ 0 → lent_right (length table) start (length work) (head_elements l) (head_generators l) ≡ true)
      (long : head_number l ≡ 0 → bytes_need (head_generators l) (head_elements l) ≤ size) where
    same_answer : image_verdict l size ≡ made_answer (read_image l table start work)
    same_answer = by (eqb (head_number l) 0) refl where
      n : ℕ
      n = head_generators l

      N : ℕ
      N = head_elements l

      rows : List ℕ
      rows = halves (drop 8 l)

      p : Placed
      p = read_all (composed_at rows n) n N (replicate (table_need n N) 0)

      turn : (F : WellFormed l) (h : head_number l ≡ 0) (b : Bool) → ends_fewer p N ≡ b
          → pick b (refused_of 16 0 0 0) (made_answer (composed table start work rows n N)) ≡ made_answer (read_image l table start work)
      turn F h true e = sym (fewer_read l table start work F (all_listed F) (lent h) e)
      turn F h false e = ap made_answer (sym (read-is-composed l table start work F (all_listed F) e))

      by : (b : Bool) → eqb (head_number l) 0 ≡ b → image_verdict l size ≡ made_answer (read_image l table start work)
      by false e =
          let d = eqb-false (head_number l) 0 e in
          bad_verdict l size d ∙ sym (ap made_answer (bad_read l table start work d))
      by true e =
          let h = eqb-true (head_number l) 0 e in
          let F = formed l h in
          lent_verdict l size h (long h)
          ∙ ruled_is_composed table start work rows n N F.few (lent h) (all_listed F) (replicate (work_need n N) 0) (zeros_long n N)
          ∙ turn F h (ends_fewer p N) refl

    -- The check's verdict is the reading's, number and places, in whatever buffers that are not short.
    pub verdict_is_read : verdict_paper (image_verdict l size) ≡ made_paper (read_image l table start work)
    verdict_is_read = ap verdict_paper same_answer ∙ answer_paper (read_image l table start work)

    -- So its number is the reading's; 0 is acceptance.
    pub number_is_read : image_number l size ≡ (made_paper (read_image l table start work)).number
    number_is_read = sym (verdict_number_lem l size) ∙ ap (λ (x : Paper). x.number) verdict_is_read

  -- 0 just if the image has a group's right steps with N elements, under the numbering rule and within the limits: "accepted exactly when".
  module _ (F : WellFormed l) where
    abbrev gens : ℕ
    gens = head_generators l

    abbrev elts : ℕ
    elts = head_elements l

    abbrev succs : List ℕ
    succs = halves (drop 8 l)

    abbrev zeros : List ℕ
    zeros = replicate (work_need gens elts) 0

    zeros_work : elts * (6 * gens * gens + 4 * gens) ≤ length zeros
    zeros_work = rw (length-replicate {A = ℕ} (work_need gens elts) 0) (le_refl (work_need gens elts))

    refused_zero : {k : ℕ} → (k ≡ 7) ⊎ ((k ≡ 5) ⊎ (k ≡ 6)) → k ≡ 0 → ⊥
    refused_zero (inl a) z = omega arith
    refused_zero (inr (inl a)) z = omega arith
    refused_zero (inr (inr a)) z = omega arith

    built_taken : built (table_need gens elts) zeros succs gens elts ≡ 0 → Taken (image_step l) gens elts elts
    unfolding built
    built_taken h = by (read_all (composed_at succs gens) gens elts (replicate (table_need gens elts) 0)) refl h where
      src : ℕ → ℕ → ℕ
      src = composed_at succs gens

      whole : (c : ℕ) (t : List ℕ) (b : Bool) → ltb c elts ≡ b → Read src gens elts (table_need gens elts) c t
          → pick b 16 (verdict_number (verdict_of (check_group t zeros gens elts))) ≡ 0 → Taken src gens elts elts
      whole c t true e R z = absurd (omega arith)
      whole c t false e R z =
          let k = fine_checks t zeros gens elts z in
          let q : c ≡ elts = omega (arith, R.within, ltb-false c elts e) in
          (settled_holds src gens elts (table_need gens elts) zeros F.few F.some few_elements (le_refl (table_need gens elts)) zeros_work
          (subst (λ (x : ℕ). Read src gens elts (table_need gens elts) x t) q R) (settle k.2)).taken

      by : (p : Placed) → read_all src gens elts (replicate (table_need gens elts) 0) ≡ p
          → number_by (λ t. verdict_of (check_group t zeros gens elts)) p elts ≡ 0 → Taken src gens elts elts
      by (placed (Err r) t) q z =
          absurd (refused_zero (refused_number (refused_read src gens elts (table_need gens elts) F.few F.some few_elements (le_refl (table_need gens elts)) q)) z)
      by (placed (Ok c) t) q z =
          whole c t (ltb c elts) refl (accepted_read src gens elts (table_need gens elts) F.few F.some few_elements (le_refl (table_need gens elts)) q) z

    taken_number : Taken (composed_at succs gens) gens elts elts → built (table_need gens elts) zeros succs gens elts ≡ 0
    unfolding built
    taken_number T =
        let a = readable_accepted (composed_at succs gens) gens elts (table_need gens elts) F.few F.some few_elements (le_refl (table_need gens elts)) T.readable in
        let R = accepted_read (composed_at succs gens) gens elts (table_need gens elts) F.few F.some few_elements (le_refl (table_need gens elts)) a.1 in
        let k = taken_checked (composed_at succs gens) gens elts (table_need gens elts) zeros F.few F.some few_elements (le_refl (table_need gens elts)) zeros_work R T in
        rw (a.1, le-ltb elts elts (le_refl elts), k.2)

  pub number_exactly : (size : ℕ) → bytes_need (head_generators l) (head_elements l) ≤ size → image_number l size ≡ 0 ↔ GroupImage l
  number_exactly size long = (λ z. by z (eqb (head_number l) 0) refl, λ S. lent_number size (formed_head l S.formed) long ∙ taken_number S.formed S.taken) where
    by : image_number l size ≡ 0 → (b : Bool) → eqb (head_number l) 0 ≡ b → GroupImage l
    by z false e = let d = eqb-false (head_number l) 0 e in absurd (d (sym (bad_number size d) ∙ z))
    by z true e =
        let h = eqb-true (head_number l) 0 e in
        let F = formed l h in
        record { formed = F; taken = built_taken F (sym (lent_number size h long) ∙ z) }

  short_number : (size : ℕ) → head_number l ≡ 0 → ltb size (bytes_need (head_generators l) (head_elements l)) ≡ true → image_number l size ≡ 4
  unfolding image_number
  short_number size h e = simp (eq-eqb _ _ h, e)

  -- So 0 is given exactly where the bytes are a group's image and the work is not short.
  pub check_exactly : (size : ℕ) → image_number l size ≡ 0 ↔ (GroupImage l × (bytes_need (head_generators l) (head_elements l) ≤ size))
  check_exactly size = (λ z. by z (ltb size (bytes_need (head_generators l) (head_elements l))) refl, λ a. (number_exactly size a.1).1 a.0) where
    never : ltb size (bytes_need (head_generators l) (head_elements l)) ≡ true → image_number l size ≡ 0 → (b : Bool) → eqb (head_number l) 0 ≡ b → ⊥
    never e z false q = let d = eqb-false (head_number l) 0 q in d (sym (bad_number size d) ∙ z)
    never e z true q = omega (arith, short_number size (eqb-true (head_number l) 0 q) e, z)

    by : image_number l size ≡ 0 → (b : Bool) → ltb size (bytes_need (head_generators l) (head_elements l)) ≡ b
        → GroupImage l × (bytes_need (head_generators l) (head_elements l) ≤ size)
    by z true e = absurd (never e z (eqb (head_number l) 0) refl)
    by z false e = let long = ltb-false size (bytes_need (head_generators l) (head_elements l)) e in ((number_exactly size long).0 z, long)

-- Reading is accepted just if the image is a group's, and then everything that is promised of composed rows holds of the factor, with N elements.
module _ (l : List ℕ) (B : Bytes l) (table : List ℕ) (start : ℕ) (work : List ℕ) where
  module _ (F : WellFormed l) where
    all_elements : {k : ℕ} → Readable (image_step l) (head_generators l) (head_elements l) k
        → ends_fewer (read_all (image_step l) (head_generators l) (head_elements l) (replicate (table_need (head_generators l) (head_elements l)) 0)) (head_elements l) ≡ false
        → k ≡ head_elements l
    all_elements {k} R e =
        let need = table_need (head_generators l) (head_elements l) in
        let a = readable_accepted (image_step l) (head_generators l) (head_elements l) need F.few F.some (few_elements l B) (le_refl need) R in
        omega (arith, R.within, ltb-false k (head_elements l) (sym (ap (λ (p : Placed). ends_fewer p (head_elements l)) a.1) ∙ e))

    from_composed : {f : Factor} {t w : List ℕ}
        → ends_fewer (read_all (image_step l) (head_generators l) (head_elements l) (replicate (table_need (head_generators l) (head_elements l)) 0)) (head_elements l) ≡ false
        → composed table start work (halves (drop 8 l)) (head_generators l) (head_elements l) ≡ making (Ok f) t w
        → Given table start work (halves (drop 8 l)) (head_generators l) (head_elements l) f t w × (f.elements ≡ head_elements l)
    from_composed {f} {t} {w} e q =
        let G = composed_given table start work (halves (drop 8 l)) (head_generators l) (head_elements l) f t w q in
        (G, all_elements G.taken.readable e)

  pub read_given : {f : Factor} {t w : List ℕ} → read_image l table start work ≡ making (Ok f) t w
      → GroupImage l × Given table start work (halves (drop 8 l)) (head_generators l) (head_elements l) f t w × (f.elements ≡ head_elements l)
  read_given {f} {t} {w} q = head (eqb (head_number l) 0) refl where
    need : ℕ
    need = table_need (head_generators l) (head_elements l)

    p : Placed
    p = read_all (image_step l) (head_generators l) (head_elements l) (replicate need 0)

    Out : Type 1
    Out = GroupImage l × Given table start work (halves (drop 8 l)) (head_generators l) (head_elements l) f t w × (f.elements ≡ head_elements l)

    zero_number : made_number (read_image l table start work) ≡ 0
    zero_number = ap made_number q

    reached : WellFormed l → lent_right (length table) start (length work) (head_elements l) (head_generators l) ≡ true → (b : Bool) → ends_fewer p (head_elements l) ≡ b → Out
    reached F lent true e = absurd (omega (arith, ap verdict_number (fewer_read l table start work F (all_listed l B F) lent e), zero_number))
    reached F lent false e =
        let a = from_composed F e (sym (read-is-composed l table start work F (all_listed l B F) e) ∙ q) in
        (record { formed = F; taken = subst (λ (k : ℕ). Taken (image_step l) (head_generators l) (head_elements l) k) a.1 a.0.taken }, a.0, a.1)

    lending : WellFormed l → (b : Bool) → lent_right (length table) start (length work) (head_elements l) (head_generators l) ≡ b → Out
    lending F true e = reached F e (ends_fewer p (head_elements l)) refl
    lending F false e = absurd (refused_making_lem (sym (short_read l table start work F (all_listed l B F) e) ∙ q))

    head : (b : Bool) → eqb (head_number l) 0 ≡ b → Out
    head false e = absurd (refused_making_lem (sym (bad_read l table start work (eqb-false (head_number l) 0 e)) ∙ q))
    head true e = let F = formed l (eqb-true (head_number l) 0 e) in lending F (lent_right (length table) start (length work) (head_elements l) (head_generators l)) refl

  -- A group's image is read as its successors are composed, in whatever buffers.
  pub group_composed : GroupImage l → read_image l table start work ≡ composed table start work (halves (drop 8 l)) (head_generators l) (head_elements l)
  group_composed S =
      let F = S.formed in
      read-is-composed l table start work F (all_listed l B F)
      (readable_all (image_step l) (head_generators l) (head_elements l) (table_need (head_generators l) (head_elements l)) F.few F.some (few_elements l B)
      (le_refl (table_need (head_generators l) (head_elements l))) S.taken.readable)

  pub group_read : GroupImage l → lent_right (length table) start (length work) (head_elements l) (head_generators l) ≡ true
      → (f : Factor) × (t : List ℕ) × (w : List ℕ) × (read_image l table start work ≡ making (Ok f) t w)
  group_read S lent =
      let F = S.formed in
      let a = (composed_exactly table start work (halves (drop 8 l)) (head_generators l) (head_elements l) F.few lent (all_listed l B F)).1 (head_elements l, S.taken) in
      (a.0, a.1, a.2, group_composed S ∙ a.3)

  -- Accepted exactly when, in buffers that are not short where the head is right.
  pub read_exactly : (head_number l ≡ 0 → lent_right (length table) start (length work) (head_elements l) (head_generators l) ≡ true)
      → ((f : Factor) × (t : List ℕ) × (w : List ℕ) × (read_image l table start work ≡ making (Ok f) t w)) ↔ GroupImage l
  read_exactly lent = (λ a. (read_given a.3).0, λ S. group_read S (lent (formed_head l S.formed)))
