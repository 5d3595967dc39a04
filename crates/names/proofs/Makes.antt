-- One law for each answer of a call that is given a name: the name too long, and what the call without a name makes.
use Prim.Native.Nat.{ℕ, ◌≤◌, ◌<◌}
use mathlib.Core.Path.{◌≡◌}
use mathlib.Core.List.{List}
use borrow.Author.Tests.{le-leb, lt-leb}
use lib.ListN.{length}
use Rattle.std.specs.Prelude.{Ok, Err}
use Rattle.egg.specs.declared.Refusal.{Refusal}
use Rattle.egg.specs.declared.Factor.{Factor}
use Rattle.egg.specs.Answers.{Made, Verdict, fine, numbered}
use Rattle.build_lending.specs.Lending.{Making, making}
use Rattle.builder.specs.declared.Builder.{Builder}
use Rattle.builder.specs.Answers.{Begun}
use Rattle.builder.specs.Calls.{leaving, begins}
use Rattle.names_values.specs.declared.Name.{Name}
use Rattle.names_values.specs.Names.{name_of}
use Rattle.names.specs.Arguments.{begin_right}
use Rattle.names.specs.Making.{named_making, with_name, makes_named, named_begins}

-- What the call without a name has made, with a name that is known; or it has refused.
module _ {made : Made} {t w : List ℕ} {all : Making} (p : making made t w ≡ all) where
  pub makes_with : {f : Factor} {name known : Name} → made ≡ Ok f → name ≡ known → named_making (Ok (record { factor = f; name = name })) t w ≡ with_name known all
  makes_with e q = rw (← p, e, q)

  pub makes_none : {why : Refusal} (known : Name) → made ≡ Err why → named_making (Err why) t w ≡ with_name known all
  makes_none known e = rw (← p, e)

-- The choice between the two, for any call.
module _ (name : List ℕ) (right : Verdict) (table work : List ℕ) (all : Making) where
  pub long_refused : {v : Verdict} {why : Refusal} → 32 < length name → v ≡ right → v ≡ Err why → named_making (Err why) table work ≡ makes_named name right table work all
  long_refused h p e = rw (lt-leb (length name) 32 h, ← p, e)

  pub long_18 : {v : Verdict} → 32 < length name → v ≡ right → v ≡ fine → named_making (Err (numbered 18 0 0 0)) table work ≡ makes_named name right table work all
  long_18 h p e = rw (lt-leb (length name) 32 h, ← p, e)

  module _ (h : length name ≤ 32) {made : Made} {t w : List ℕ} (p : making made t w ≡ all) where
    pub short_refused : {why : Refusal} → made ≡ Err why → named_making (Err why) t w ≡ makes_named name right table work all
    short_refused e = rw (le-leb (length name) 32 h) (makes_none p (name_of name) e)

    pub short_made : {f : Factor} {m : Name} → made ≡ Ok f → m ≡ name_of name
        → named_making (Ok (record { factor = f; name = m })) t w ≡ makes_named name right table work all
    short_made e q = rw (le-leb (length name) 32 h) (makes_with p e q)

-- The same of `begin`.
module _ (table : List ℕ) (start room n : ℕ) (name : List ℕ) where
  pub long_begin_refused : {v : Verdict} {why : Refusal} → 32 < length name → v ≡ begin_right (length table) start room n → v ≡ Err why
      → leaving (Err why) table ≡ named_begins table start room n name
  unfolding named_begins
  long_begin_refused h p e = rw (lt-leb (length name) 32 h, ← p, e)

  pub long_begin_18 : {v : Verdict} → 32 < length name → v ≡ begin_right (length table) start room n → v ≡ fine
      → leaving (Err (numbered 18 0 0 0)) table ≡ named_begins table start room n name
  unfolding named_begins
  long_begin_18 h p e = rw (lt-leb (length name) 32 h, ← p, e)

  module _ (h : length name ≤ 32) {b : Begun} {t : List ℕ} (p : leaving b t ≡ begins table start room n) where
    pub short_begin_refused : {why : Refusal} → b ≡ Err why → leaving (Err why) t ≡ named_begins table start room n name
    unfolding named_begins
    short_begin_refused e = rw (le-leb (length name) 32 h, ← p, e)

    pub short_begun : {builder : Builder} {m : Name} → b ≡ Ok builder → m ≡ name_of name
        → leaving (Ok (record { builder = builder; name = m })) t ≡ named_begins table start room n name
    unfolding named_begins
    short_begun e q = rw (le-leb (length name) 32 h, ← p, e, q)
