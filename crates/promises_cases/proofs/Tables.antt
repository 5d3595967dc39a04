-- The steps that composed rows are read by are, for the rows of the theory's two examples, the steps of these examples.
use mathlib.Core.Path.{◌≡◌, refl}
use Rattle.theory.specs.Examples.{s3_rows, s3, crossed_rows, crossed}
use Rattle.build_reading.specs.Reading.{composed_at}

pub s3_same : composed_at s3_rows 2 ≡ s3
s3_same = refl

pub crossed_same : composed_at crossed_rows 4 ≡ crossed
crossed_same = refl
