-- Asking for the joined name: each answer exactly in its case, and what the buffer holds then.
use Prim.Native.Nat.{ℕ, ◌≤◌, ◌<◌}
use mathlib.Core.Path.{◌≡◌, refl, sym, ◌∙◌, subst}
use mathlib.Core.Logic.{◌↔◌}
use mathlib.Core.Bool.{Bool, true, false}
use mathlib.Core.List.{List, [], ◌∷◌}
use native.Mathlib.Decide.{dec_lt}
use native.Mathlib.Omega.{arith}
use borrow.Author.Tests.{lt-ltb, le-ltb, le-leb, leb-true}
use lib.Dec.{leb, ltb}
use lib.ListN.{length}
use Rattle.egg.specs.Answers.{Counted}
use Rattle.std.specs.Prelude.{Ok, Err}
use Rattle.egg.specs.Table.{pick}
use Rattle.egg.specs.Answers.{numbered}
use Rattle.egg.proofs.Rooms.{false_true, and_first, and_second}
use Rattle.factor_laws.specs.Refuses.{CountedIn}
use Rattle.factor_laws.proofs.Refuses.{counted_count, counted_refused, counted_pick}
use Rattle.group_handles.specs.declared.Group.{Group}
use Rattle.group_handles.specs.Handles.{handles, elements_of, all_fit, limited, admits}
use Rattle.promises_group.specs.Flattening.{GroupWithin}
use Rattle.names_values.specs.declared.Name.{Name}
use Rattle.names_values.specs.declared.NamedGroup.{NamedGroup}
use Rattle.names_joined.specs.Joined.{listed_names, names_fit, joined_name, joined_length}
use Rattle.names.specs.Joined.{room_for, joined_answer}
use Rattle.factor_words.proofs.Words.{never_both, same_count}
use Rattle.promises_names.specs.Shown.{NamesShort, none, more, RecordsFit, JoinedCase, no_fit, large, short, whole}

-- What is tested says what it is to say.
short_fit : {ms : List Name} → NamesShort ms → names_fit ms ≡ true
unfolding names_fit
short_fit none = refl
short_fit (more {m = m} h S) = rw (le-leb m.length 32 h) (short_fit S)

fit_short : (ms : List Name) → names_fit ms ≡ true → NamesShort ms
unfolding names_fit
fit_short [] h = none
fit_short (m ∷ ms) h = more (leb-true _ _ (and_first (leb m.length 32) _ h)) (fit_short ms (and_second (leb m.length 32) _ h))

in_limits : (g : Group) → limited g ≡ true → GroupWithin g
unfolding limited
in_limits g h = record { few = leb-true _ _ (and_first (leb g.count 8) _ h); most = leb-true _ _ (and_second (leb g.count 8) _ h) }

limits_in : (g : Group) → GroupWithin g → limited g ≡ true
unfolding limited
limits_in g L = rw (le-leb g.count 8 L.few) (le-leb (elements_of (handles g)) 4294967295 L.most)

module _ (t : List ℕ) (g : NamedGroup) (size : ℕ) where
  abbrev name : List ℕ
  name = joined_name (listed_names g)

  -- The tests one after another.
  joined_is : joined_answer t g size
      ≡ pick (names_fit (listed_names g))
      (pick (all_fit (length t) (handles g.group)) (pick (limited g.group) (room_for size (length name)) (Err (numbered 15 0 0 0))) (Err (numbered 17 0 0 0)))
      (Err (numbered 17 0 0 0))
  unfolding joined_answer joined_length admits
  joined_is = by (names_fit (listed_names g)) refl (all_fit (length t) (handles g.group)) refl (limited g.group) refl where
    by : (a : Bool) → names_fit (listed_names g) ≡ a → (b : Bool) → all_fit (length t) (handles g.group) ≡ b → (c : Bool) → limited g.group ≡ c
        → joined_answer t g size
        ≡ pick (names_fit (listed_names g))
        (pick (all_fit (length t) (handles g.group)) (pick (limited g.group) (room_for size (length name)) (Err (numbered 15 0 0 0))) (Err (numbered 17 0 0 0)))
        (Err (numbered 17 0 0 0))
    by false p b q c r = rw p
    by true p false q c r = rw (p, q)
    by true p true q false r = rw (p, q, r)
    by true p true q true r = rw (p, q, r)

  fit : RecordsFit (length t) g → (names_fit (listed_names g) ≡ true) × (all_fit (length t) (handles g.group) ≡ true)
  fit F = (short_fit F.lengths_fit, F.handles_fit)

  -- The answer in each case ..
  joined_given : {c : Counted} → JoinedCase t g size c → joined_answer t g size ≡ c
  joined_given (no_fit wrong) = joined_is ∙ by (names_fit (listed_names g)) refl (all_fit (length t) (handles g.group)) refl where
    by : (a : Bool) → names_fit (listed_names g) ≡ a → (b : Bool) → all_fit (length t) (handles g.group) ≡ b
        → pick a (pick b (pick (limited g.group) (room_for size (length name)) (Err (numbered 15 0 0 0))) (Err (numbered 17 0 0 0))) (Err (numbered 17 0 0 0))
        ≡ Err (numbered 17 0 0 0)
    by false p b q = refl
    by true p false q = refl
    by true p true q = absurd (wrong (record { handles_fit = q; lengths_fit = fit_short (listed_names g) p }))
  joined_given (large F wrong) = joined_is ∙ rw ((fit F).0, (fit F).1) (by (limited g.group) refl) where
    by : (c : Bool) → limited g.group ≡ c → pick c (room_for size (length name)) (Err (numbered 15 0 0 0)) ≡ Err (numbered 15 0 0 0)
    by false r = refl
    by true r = absurd (wrong (in_limits g.group r))
  joined_given (short F L h) = joined_is ∙ rw ((fit F).0, (fit F).1, limits_in g.group L, lt-ltb _ _ h)
  joined_given (whole F L h) = joined_is ∙ rw ((fit F).0, (fit F).1, limits_in g.group L, le-ltb _ _ h)

  -- .. and some case there is.
  joined_some : (c : Counted) × JoinedCase t g size c
  joined_some = by (names_fit (listed_names g)) refl (all_fit (length t) (handles g.group)) refl (limited g.group) refl (dec_lt size (length name)) where
    by : (a : Bool) → names_fit (listed_names g) ≡ a → (b : Bool) → all_fit (length t) (handles g.group) ≡ b → (c : Bool) → limited g.group ≡ c
        → Dec (size < length name) → (c : Counted) × JoinedCase t g size c
    by false p b q c r d = (_, no_fit (λ F. false_true (sym p ∙ (fit F).0)))
    by true p false q c r d = (_, no_fit (λ F. false_true (sym q ∙ (fit F).1)))
    by true p true q false r d =
        (_, large (record { handles_fit = q; lengths_fit = fit_short (listed_names g) p }) (λ L. false_true (sym r ∙ limits_in g.group L)))
    by true p true q true r (yes d) = (_, short (record { handles_fit = q; lengths_fit = fit_short (listed_names g) p }) (in_limits g.group r) d)
    by true p true q true r (no d) = (_, whole (record { handles_fit = q; lengths_fit = fit_short (listed_names g) p }) (in_limits g.group r) (omega arith))

  -- Each answer exactly in its case.
  pub joined_answers : (c : Counted) → joined_answer t g size ≡ c ↔ JoinedCase t g size c
  joined_answers c = (λ q. subst (JoinedCase t g size) (sym (joined_given joined_some.1) ∙ q) joined_some.1, joined_given)

  -- The only numbers.
  pub joined_numbers : CountedIn (15 ∷ 17 ∷ 18 ∷ []) (joined_answer t g size)
  joined_numbers =
      rw joined_is
      (counted_pick (names_fit (listed_names g)) _ _
      (counted_pick (all_fit (length t) (handles g.group)) _ _
      (counted_pick (limited g.group) _ _ (counted_pick (ltb size (length name)) _ _ (counted_refused _ refl) (counted_count _)) (counted_refused _ refl))
      (counted_refused _ refl)) (counted_refused _ refl))

  -- The count is the length of the joined name, and the buffer has room for it.
  counted_name : {c : Counted} → JoinedCase t g size c → {k : ℕ} → c ≡ Ok k → (k ≡ length name) × (length name ≤ size)
  counted_name (no_fit w) q = absurd (never_both refl q)
  counted_name (large F w) q = absurd (never_both refl q)
  counted_name (short F L h) q = absurd (never_both refl q)
  counted_name (whole F L h) q = (sym (same_count q), h)

  pub shown_name : {k : ℕ} → joined_answer t g size ≡ Ok k → (k ≡ length name) × (length name ≤ size)
  shown_name {k} h = counted_name ((joined_answers (Ok k)).0 h) refl
