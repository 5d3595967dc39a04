-- A copy, and a store behind it.
use mathlib.Core.Path.{◌≡◌, sym, ◌∙◌}
use native.Mathlib.Omega.{arith}
use borrow.Author.Rules.{rules}
use lib.ListN.{length}
use lib.Seq.{take-length, length-take-le}
use Rattle.capi_names.proofs.Records.{name_written}
use Rattle.capi_names.proofs.inner.write_name.Goals as goal

pub slice_bounds-copy_from_slice-end-2 : goal.slice_bounds-copy_from_slice-end-2
slice_bounds-copy_from_slice-end-2 c = sym (length-take-le 32 c.args.kept.now (omega arith))

pub copy_from_slice-requires : goal.copy_from_slice-requires
copy_from_slice-requires c =
    let e : length c.args.m.bytes ≡ 32 = search rules in length-take-le 32 c.args.kept.now (omega arith) ∙ sym e

pub returns : goal.returns
returns c =
    let e : length c.args.m.bytes ≡ 32 = search rules in
    name_written c.args.m c.args.kept.now e c.requires (rw (c.copy_from_slice.ensures.after, take-length c.args.m.bytes, e))
