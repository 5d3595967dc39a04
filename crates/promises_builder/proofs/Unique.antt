-- "That the answer is unique is proved": for each of the builder's calls, over its own contract.
use mathlib.Core.Path.{sym, ◌∙◌}
use Rattle.build_lending.specs.Lending.{making}
use Rattle.builder.specs.Calls.{leaving}
use Rattle.builder.proofs.begin.Kinds as begin-kinds
use Rattle.builder.proofs.begin.Reads as begin-reads
use Rattle.builder.proofs.add_successor.Kinds as add-kinds
use Rattle.builder.proofs.add_successor.Reads as add_reads
use Rattle.builder.proofs.set_successor.Kinds as set-kinds
use Rattle.builder.proofs.set_successor.Reads as set_Reads
use Rattle.builder.proofs.build.Kinds as build-kinds
use Rattle.builder.proofs.build.Reads as build-reads
use Rattle.promises.specs.Unique.{Unique}

pub begin_unique : Unique 1 begin-kinds.ps begin-kinds.r begin-reads.Post (λ κs a x. leaving a x.0.now)
begin_unique = λ κs args a b x y p q. p ∙ sym q

pub add_successor_unique : Unique 1 add-kinds.ps add-kinds.r add_reads.Post (λ κs a x. leaving a x.0.now)
add_successor_unique = λ κs args a b x y p q. p ∙ sym q

pub set_successor_unique : Unique 1 set-kinds.ps set-kinds.r set_Reads.Post (λ κs a x. leaving a x.0.now)
set_successor_unique = λ κs args a b x y p q. p ∙ sym q

pub build_unique : Unique 2 build-kinds.ps build-kinds.r build-reads.Post (λ κs a x. making a x.0.now x.1.1.0.now)
build_unique = λ κs args a b x y p q. p ∙ sym q
