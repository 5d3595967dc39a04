-- This file defines what the check of an image leaves that tells its places.
use Rattle.std.specs.Prelude.{ℕ, List, [], ◌∷◌, length}
use Rattle.egg.specs.Factor.{verdict_paper}
use Rattle.image.specs.Image.{image_work}
use Rattle.image.specs.Checked.{image_verdict}
use Rattle.capi_values.specs.Bridge.{paper_into, Telling, telling}

-- The check's verdict: its number, it in `out`, and the work.
unfoldable pub checked_into : (image work out : List ℕ) → Telling
checked_into image work out =
    telling (verdict_paper (image_verdict image (length work))).number (paper_into (image_verdict image (length work)) out) (image_work image work ∷ [])
