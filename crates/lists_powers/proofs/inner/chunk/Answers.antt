-- The lists of our own are cut to the chunk's length.
use mathlib.Core.Path.{sym}
use Rattle.lists_powers.proofs.Chunks.{front_long}
use Rattle.lists_powers.proofs.inner.chunk.Goals as goal

pub slice_bounds-powers_by-end : goal.slice_bounds-powers_by-end
slice_bounds-powers_by-end c = sym (front_long (c.requires.1.1))

pub slice_bounds-powers_by-end-2 : goal.slice_bounds-powers_by-end-2
slice_bounds-powers_by-end-2 c = sym (front_long (c.requires.1.1))

pub slice_bounds-powers_by-end-3 : goal.slice_bounds-powers_by-end-3
slice_bounds-powers_by-end-3 c = sym (front_long (c.requires.1.1))

pub slice_bounds-powers_by-end-4 : goal.slice_bounds-powers_by-end-4
slice_bounds-powers_by-end-4 c = sym (front_long (c.requires.1.1))

pub powers_by-requires : goal.powers_by-requires
powers_by-requires c = (c.requires.0, (front_long (c.requires.1.1), (front_long (c.requires.1.1), (front_long (c.requires.1.1), (front_long (c.requires.1.1), c.requires.1.0)))))
