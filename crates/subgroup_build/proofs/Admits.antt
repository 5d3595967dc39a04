-- Laws of the refusals before a build, one for each answer; and what is known where it goes on.
use Prim.Native.Nat.{ℕ, ◌≤◌, ◌<◌}
use mathlib.Core.Path.{◌≡◌, refl, sym, ap, ◌∙◌}
use mathlib.Core.Bool.{Bool, true, false}
use mathlib.Core.List.{List}
use native.Mathlib.Omega.{arith}
use borrow.Author.Tests.{le-leb, lt-leb, leb-true}
use lib.ListN.{length, get_or}
use lib.Dec.{leb}
use Rattle.egg.specs.declared.Refusal.{Refusal}
use Rattle.egg.specs.Answers.{Verdict, fine}
use Rattle.std.specs.Prelude.{Ok, Err}
use Rattle.egg.specs.Scan.{refused_of}
use Rattle.egg.proofs.Rooms.{and_first, and_second}
use Rattle.egg.proofs.Scans.{Scanning, scanning, refused_fine}
use Rattle.build_lending.specs.Lending.{lent_right}
use Rattle.group_handles.specs.declared.Group.{Group}
use Rattle.group_handles.specs.Handles.{handles, elements_of, all_fit, capped, limited}
use Rattle.group_handles.proofs.Caps.{cap_beyond, cap_small}
use Rattle.group_handles.proofs.Admitted.{few_elements}
use Rattle.factor_walk.specs.Walked.{shown}
use Rattle.subgroup_build.specs.Lent.{maps_right}
use Rattle.subgroup_build.specs.Generated.{entry_right, entries_right, small_enough, admits_generators}

pub entries_begin : (M : ℕ) (gens : List ℕ) → Scanning (length gens) (entry_right M gens) 0 (entries_right M gens)
unfolding entries_right
entries_begin M gens = scanning

-- One entry, whose limit is known as far as 32 bits can tell.
module _ (M : ℕ) (gens : List ℕ) (i : ℕ) {m x : ℕ} (p : m ≡ capped M) (q : x ≡ get_or gens i 0) (h : x < 4294967296) where
  pub entry_bad : {k : ℕ} → k ≡ shown i → m ≤ x → entry_right M gens i ≡ refused_of 14 k 0 0
  entry_bad {k} e l =
      let z : leb M x ≡ true = sym (cap_beyond M x h) ∙ ap (λ (y : ℕ). leb y x) (sym p) ∙ le-leb _ _ l in
      rw (← q, z, e)

  pub entry_good : x < m → entry_right M gens i ≡ fine
  entry_good l =
      let z : leb M x ≡ false = sym (cap_beyond M x h) ∙ ap (λ (y : ℕ). leb y x) (sym p) ∙ lt-leb _ _ l in
      rw (← q, z)

module _ (over : Group) {b : Bool} (q : b ≡ limited over) where
  pub small_not : b ≡ false → false ≡ small_enough over
  unfolding small_enough
  small_not e = rw (← q, e)

  pub small_is : {m : ℕ} → b ≡ true → m ≡ capped (elements_of (handles over)) → leb m 65535 ≡ small_enough over
  unfolding small_enough
  small_is {m} e p =
      let z : m ≡ elements_of (handles over) = p ∙ cap_small (few_elements over (sym q ∙ e)) in
      rw (z, ← q, e)

module _ (over : Group) (h : small_enough over ≡ true) where
  pub small_limited : limited over ≡ true
  unfolding small_enough
  small_limited = and_first _ _ h

  pub small_elements : elements_of (handles over) ≤ 65535
  unfolding small_enough
  small_elements = leb-true _ _ (and_second (limited over) _ h)

-- How many elements a small overgroup has.
pub count_is : (N : ℕ) {r : ℕ} → r ≡ capped N → N ≤ 65535 → r ≡ N
count_is N q h = let k : N ≤ 4294967295 = omega arith in q ∙ cap_small k

-- 17, 14, 15.
module _ (len : ℕ) (over : Group) (gens : List ℕ) where
  pub generators_handle : all_fit len (handles over) ≡ false → refused_of 17 0 0 0 ≡ admits_generators len over gens
  unfolding admits_generators
  generators_handle h = rw h

  module _ (fits : all_fit len (handles over) ≡ true) {v : Verdict} (q : v ≡ entries_right (elements_of (handles over)) gens) where
    pub generators_entry : {r : Refusal} → v ≡ Err r → Err r ≡ admits_generators len over gens
    unfolding admits_generators
    generators_entry e = rw (fits, ← q, e)

    module _ (e : v ≡ fine) {b : Bool} (p : b ≡ small_enough over) where
      pub generators_large : b ≡ false → refused_of 15 0 0 0 ≡ admits_generators len over gens
      unfolding admits_generators
      generators_large z = rw (fits, ← q, e, ← p, z)

      pub generators_fine : b ≡ true → fine ≡ admits_generators len over gens
      unfolding admits_generators
      generators_fine z = rw (fits, ← q, e, ← p, z)

-- Where a build by generators goes on.
pub record Admitted (len : ℕ) (over : Group) (gens : List ℕ) : Type 0 where
  pub fits : all_fit len (handles over) ≡ true
  pub entries : entries_right (elements_of (handles over)) gens ≡ fine
  pub small : small_enough over ≡ true

module _ (len : ℕ) (over : Group) (gens : List ℕ) where
  pub admitted : admits_generators len over gens ≡ fine → Admitted len over gens
  admitted q = by (all_fit len (handles over)) (entries_right (elements_of (handles over)) gens) (small_enough over) refl refl refl where
    by : (a : Bool) (v : Verdict) (b : Bool) → all_fit len (handles over) ≡ a → entries_right (elements_of (handles over)) gens ≡ v → small_enough over ≡ b
        → Admitted len over gens
    by false v b p e s = absurd (refused_fine (generators_handle len over gens p ∙ q))
    by true (Err r) b p e s = absurd (refused_fine (generators_entry len over gens p refl e ∙ q))
    by true (Ok _) false p e s = absurd (refused_fine (generators_large len over gens p refl e refl s ∙ q))
    by true (Ok _) true p e s = record { fits = p; entries = e; small = s }

  pub admitted_by : {v : Verdict} → v ≡ admits_generators len over gens → v ≡ fine → Admitted len over gens
  admitted_by q e = admitted (sym q ∙ e)

-- 4: what is lent.
module _ (table start work inn outw room n M : ℕ) where
  module _ {b : Bool} (q : b ≡ lent_right table start work room n) where
    pub maps_short : b ≡ false → false ≡ maps_right table start work inn outw room n M
    unfolding maps_right
    maps_short e = rw (← q, e)

    module _ (e : b ≡ true) where
      pub maps_inward : inn < M → false ≡ maps_right table start work inn outw room n M
      unfolding maps_right
      maps_inward h = rw (← q, e) (simp (lt-leb _ _ h))

      pub maps_outward : M ≤ inn → leb room outw ≡ maps_right table start work inn outw room n M
      unfolding maps_right
      maps_outward h = rw (← q, e) (simp (le-leb _ _ h))

  module _ (h : maps_right table start work inn outw room n M ≡ true) where
    pub maps_lent : lent_right table start work room n ≡ true
    unfolding maps_right
    maps_lent = and_first _ _ h

    pub maps_inn : M ≤ inn
    unfolding maps_right
    maps_inn = leb-true _ _ (and_first _ _ (and_second (lent_right table start work room n) _ h))

    pub maps_outw : room ≤ outw
    unfolding maps_right
    maps_outw = leb-true _ _ (and_second (leb M inn) _ (and_second (lent_right table start work room n) _ h))
