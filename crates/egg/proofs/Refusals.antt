-- A refusal's number and places are its own: `numbered` reads them back.
use mathlib.Core.Path.{◌≡◌, refl, sym, ap, ◌∙◌}
use Rattle.egg.specs.declared.Refusal.{Refusal}
use Rattle.egg.specs.declared.Refusal.TheVariants as refusal
use Rattle.egg.specs.Refusals.{Paper, refusal_paper, numbered}

abbrev of_paper : Paper → Refusal
of_paper p = numbered p.number p.a p.b p.c

read_back : (r : Refusal) → of_paper (refusal_paper r) ≡ r
read_back (refusal.TooManyGenerators k) = refl
read_back refusal.OrdersMiscounted = refl
read_back (refusal.OrderOutside i) = refl
read_back refusal.TooShort = refl
read_back (refusal.BeyondRoom e g) = refl
read_back (refusal.WordTooLong e g) = refl
read_back (refusal.SkipsAhead e g v) = refl
read_back (refusal.StepMissing e g) = refl
read_back (refusal.StepAstray e g) = refl
read_back (refusal.InverseDiffers e i j) = refl
read_back (refusal.IdentityRowDiffers g) = refl
read_back refusal.NoGroup = refl
read_back (refusal.RelationFails e g h) = refl
read_back (refusal.ArgumentOutside k) = refl
read_back refusal.TooLarge = refl
read_back refusal.ImageMalformed = refl
read_back refusal.Unreadable = refl
read_back refusal.NameLength = refl

pub same_refusal : (r s : Refusal) → refusal_paper r ≡ refusal_paper s → r ≡ s
same_refusal r s q = sym (read_back r) ∙ ap of_paper q ∙ read_back s
