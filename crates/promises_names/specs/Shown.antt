-- What asking for the joined name answers, and what the buffer holds. Order 1: "A joined name is written into a lent buffer. .. 18, .. joined name
-- longer than the buffer, after 17; nothing is written."
use Rattle.std.specs.Prelude.{ℕ, ◌≤◌, ◌<◌, ◌≡◌, true, List, [], ◌∷◌, ◌++◌, length, drop}
use Rattle.egg.specs.declared.Refusal.{Refusal}
use Rattle.egg.specs.Answers.{Counted}
use Rattle.std.specs.Prelude.{Ok, Err}
use Rattle.egg.specs.Answers.{numbered}
use Rattle.factor_laws.specs.Refuses.{CountedIn}
use Rattle.group_handles.specs.Handles.{handles, all_fit}
use Rattle.promises_group.specs.Flattening.{GroupWithin}
use Rattle.names_values.specs.declared.Name.{Name}
use Rattle.names_values.specs.declared.NamedGroup.{NamedGroup}
use Rattle.names_joined.specs.Joined.{listed_names, joined_name}
use Rattle.names.specs.Joined.{joined_answer, joined_leaves, joined_part}

-- Every recorded length is one that a name can have.
pub data NamesShort : List Name → Type 0 where
  none : NamesShort []
  more : {m : Name} {ms : List Name} → m.length ≤ 32 → NamesShort ms → NamesShort (m ∷ ms)

-- The records fit: every handle fits the buffer of `len` numbers, and no recorded length is above 32.
pub record RecordsFit (len : ℕ) (g : NamedGroup) : Type 0 where
  pub handles_fit : all_fit len (handles g.group) ≡ true
  pub lengths_fit : NamesShort (listed_names g)

-- The answers for a buffer of `size` bytes, each with its case: 17, "the handle doesn't fit its buffer", which a recorded length above 32 counts as; 15,
-- "more than 8 factors, product too large"; 18; else the length of the joined name.
pub data JoinedCase (t : List ℕ) (g : NamedGroup) (size : ℕ) : Counted → Type 0 where
  no_fit : ¬ (RecordsFit (length t) g) → JoinedCase t g size (Err (numbered 17 0 0 0))
  large : RecordsFit (length t) g → ¬ (GroupWithin g.group) → JoinedCase t g size (Err (numbered 15 0 0 0))
  short : RecordsFit (length t) g → GroupWithin g.group → size < length (joined_name (listed_names g)) → JoinedCase t g size (Err (numbered 18 0 0 0))
  whole : RecordsFit (length t) g → GroupWithin g.group → length (joined_name (listed_names g)) ≤ size
      → JoinedCase t g size (Ok (length (joined_name (listed_names g))))

-- What the buffer holds afterwards, and the part of it that is handed back.
pub record JoinedLeft (t : List ℕ) (g : NamedGroup) (out : List ℕ) : Type 0 where
  -- The joined name is at the start, and what is behind it stays.
  pub written : {k : ℕ} → joined_answer t g (length out) ≡ Ok k → joined_leaves t g out ≡ joined_name (listed_names g) ++ drop k out
  pub handed : {k : ℕ} → joined_answer t g (length out) ≡ Ok k → joined_part t g out ≡ joined_name (listed_names g)
  -- Refused, "nothing is written"; and of the part: "refused: the empty start".
  pub untouched : {r : Refusal} → joined_answer t g (length out) ≡ Err r → joined_leaves t g out ≡ out
  pub nothing_handed : {r : Refusal} → joined_answer t g (length out) ≡ Err r → joined_part t g out ≡ []
  pub as_long : length (joined_leaves t g out) ≡ length out
  -- The only numbers by which it is ever refused.
  pub numbers : CountedIn (15 ∷ 17 ∷ 18 ∷ []) (joined_answer t g (length out))
