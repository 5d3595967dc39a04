-- The builder's calls. Document 01: "`add_successor`, `set_successor` (overwrites, and says whether the place was new), `build`"; "Calls on handles check 17
-- in the handle, then 14", and these "change nothing. Once it has started, any refusal .. leaves the needed stretch of table and work .. zero."
use Rattle.std.specs.Prelude.{ℕ, ◌+◌, List, Bool, true, false, length, take, replicate, ltb, leb}
use Rattle.egg.specs.declared.GroupElementId.{GroupElementId}
use Rattle.egg.specs.declared.GeneratorId.{GeneratorId}
use Rattle.egg.specs.declared.Factor.{Factor}
use Rattle.egg.specs.Answers.{Reached, Verdict}
use Rattle.std.specs.Prelude.{Ok, Err}
use Rattle.egg.specs.Table.{pick}
use Rattle.egg.specs.Refusals.{numbered}
use Rattle.egg.specs.Factor.{Paper, refusal_paper, has_room, fits_in, stretch, refused_reach}
use Rattle.builder.specs.declared.Builder.{Builder}
use Rattle.builder.specs.Answers.{Begun, Storing}
use Rattle.builder.specs.declared.Grown.{Grown}
use Rattle.builder.specs.declared.Stored.{Stored}
use Rattle.builder.specs.declared.Stored.TheVariants as stored
unfoldable pub use Rattle.builder_arguments.specs.Places.{placed, placed_step, storable, over_long}
use Rattle.build_reading.specs.Build.{is_new, set_step, adds}
use Rattle.build_lending.specs.Finish.{zeroed}
use Rattle.builder_rereading.specs.Own.{own_in}
use Rattle.build_lending.specs.Lending.{table_need, work_need, within, no_factor, refused_made, Making, making, lent_back}

-- Document 01's number and values for what storing a step answers: 1 for a new step, 0 for one that was known, or a refusal.
abbrev pub stored_paper : Storing → Paper
stored_paper (Ok stored.New) = record { number = 0; a = 1; b = 0; c = 0 }
stored_paper (Ok stored.Known) = record { number = 0; a = 0; b = 0; c = 0 }
stored_paper (Err r) = refusal_paper r

-- What a call answers, and what the table, or the stretch that was lent to it, holds then.
pub data Leaving (A : Type 0) : Type 0 where
  leaving : A → List ℕ → Leaving A

-- The table buffer with p in the stretch of a factor.
abbrev pub with_stretch : List ℕ → Factor → List ℕ → List ℕ
with_stretch t f p = within t f.start (f.start + table_need f.generators f.room) p

-- The handle of a build that knows `count` elements.
abbrev pub builder_of : ℕ → ℕ → ℕ → ℕ → Builder
builder_of start room n count = record { 0 = record { start = start; room = room; generators = n; elements = count } }

-- The handle that stands beside a refusal which ends the build: it fits no buffer.
abbrev pub no_builder : Builder
no_builder = record { 0 = no_factor }

-- The answer of a `begin` that was refused.
abbrev pub refused_begun : ℕ → ℕ → Begun
refused_begun number a = Err (numbered number a 0 0)

-- What `begin` does: refusal 1, then 4; else a stretch of zeros, which has the identity alone.
unfoldable pub begins : List ℕ → ℕ → ℕ → ℕ → Leaving Begun
begins table start room n =
    pick (ltb 8 n) (leaving (refused_begun 1 n) table)
    (pick (has_room (length table) start room n)
    (leaving (Ok (builder_of start room n 1))
    (within table start (start + table_need n room) (replicate (table_need n room) 0)))
    (leaving (refused_begun 4 0) table))

-- What adding an element comes to: the builder knows one element more; or a refusal ends the build, with zeros in its stretch and a handle that fits
-- no buffer.
abbrev pub grown_by : Factor → Reached → List ℕ → Leaving Grown
grown_by f (Ok e) s =
    leaving (record { answer = Ok e; builder = builder_of f.start f.room f.generators (f.elements + 1) }) s
grown_by f (Err r) s = leaving (record { answer = Err r; builder = no_builder }) (zeroed s)

-- What `add_successor` does in the stretch: refusal 5, then 17 for a recorded length over 4,096, then 6, else the new element.
unfoldable pub grown : List ℕ → Factor → GroupElementId → GeneratorId → Leaving Grown
grown s f e g =
    pick (over_long s f e) (grown_by f (refused_reach 17 0) s)
    (grown_by f (adds s f.generators f.room f.elements e g).answer (adds s f.generators f.room f.elements e g).table)

-- What the whole call comes to by the test of its arguments: 17 in the handle and 14 change nothing, and the builder stands.
abbrev pub grows_by : List ℕ → Factor → Verdict → Leaving Grown → Leaving Grown
grows_by t f (Ok _) (leaving x s) = leaving x (with_stretch t f s)
grows_by t f (Err r) l = leaving (record { answer = Err r; builder = record { 0 = f } }) t

-- What `add_successor` does: a new element, reached from e by g.
unfoldable pub grows : List ℕ → Builder → GroupElementId → GeneratorId → Leaving Grown
grows t b e g = grows_by t b.0 (placed (length t) b.0 e g) (grown (stretch t b.0) b.0 e g)

-- The answer of a stored step, which "says whether the place was new".
abbrev pub new_or : Bool → Stored
new_or true = stored.New
new_or false = stored.Known

-- What storing a step comes to by the tests before it: a refusal changes nothing, since the call hands no builder back that could say that the build
-- has ended.
abbrev pub stores_by : List ℕ → Verdict → Bool → List ℕ → Leaving Storing
stores_by t (Ok _) new t₁ = leaving (Ok (new_or new)) t₁
stores_by t (Err r) new t₁ = leaving (Err r) t

-- What `set_successor` does: 17 in the handle, 14, and 17 for the step that it reads; else it sets the step e·g = r and the step back.
unfoldable pub stores : (t : List ℕ) (b : Builder) (e : GroupElementId) (g : GeneratorId) (r : GroupElementId) → Leaving Storing
stores t b e g r =
    stores_by t (storable t b.0 e g r) (is_new (stretch t b.0) b.0.generators e g)
    (with_stretch t b.0 (set_step (stretch t b.0) b.0.generators e g r))

-- What `build` does: 17 in the handle, then 4 for the work, then the reading of the builder's own successors, and 8 to 12.
unfoldable pub builds : List ℕ → Builder → List ℕ → Making
builds t b w =
    pick (fits_in (length t) b.0)
    (pick (leb (work_need b.0.generators b.0.room) (length w))
    (lent_back t b.0.start w b.0.generators b.0.room
    (own_in (stretch t b.0) (take (work_need b.0.generators b.0.room) w) b.0.generators b.0.room b.0.elements))
    (making (refused_made 4 0) t w))
    (making (refused_made 17 0) t w)
