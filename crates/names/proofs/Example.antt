-- Names as `begin` takes them: 32 bytes are kept, 33 are refused with 18, and 9 generators with 1 before that.
use Rattle.std.specs.Prelude.{Ok, Err}
use mathlib.Core.Path.{◌≡◌, refl}
use lib.ListN.{replicate}
use Rattle.egg.specs.Answers.{numbered}
use Rattle.egg.specs.Factor.{has_room}
use Rattle.build_lending.specs.Lending.{within}
use Rattle.builder.specs.Calls.{leaving, builder_of, begins}
use Rattle.names_values.specs.Names.{name_of}
use Rattle.names.specs.Arguments.{begin_right}
use Rattle.names.specs.Making.{named_begins}

pub example_kept : named_begins (replicate 4 0) 0 1 0 (replicate 32 65)
    ≡ leaving (Ok (record { builder = builder_of 0 1 0 1; name = name_of (replicate 32 65) })) (replicate 4 0)
unfolding named_begins begins has_room within
example_kept = refl

pub example_long : named_begins (replicate 4 0) 0 1 0 (replicate 33 65)
    ≡ leaving (Err (numbered 18 0 0 0)) (replicate 4 0)
unfolding named_begins begin_right has_room
example_long = refl

pub example_first : named_begins (replicate 4 0) 0 1 9 (replicate 33 65)
    ≡ leaving (Err (numbered 1 9 0 0)) (replicate 4 0)
unfolding named_begins begin_right
example_first = refl
