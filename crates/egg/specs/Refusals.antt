-- Refusals by document 01's numbers and places: "Each carries three places, zero where none is listed."
use Rattle.std.specs.Prelude.{ℕ, List, [], ◌∷◌, get_or}
use Rattle.egg.specs.declared.Refusal.{Refusal}
use Rattle.egg.specs.declared.Refusal.TheVariants as refusal

-- What an answer says in document 01's numbers: "When an answer is an enum, a definition sets out this paper's number and values for each of its
-- cases". It is 0 and the answer's own number, or a refusal's number and its three places.
pub record Paper : Type 0 where
  pub number : ℕ
  pub a : ℕ
  pub b : ℕ
  pub c : ℕ

-- The paper's values of a refusal: its number and its three places.
abbrev pub refusal_paper : Refusal → Paper
refusal_paper (refusal.TooManyGenerators k) = record { number = 1; a = k; b = 0; c = 0 }
refusal_paper refusal.OrdersMiscounted = record { number = 2; a = 0; b = 0; c = 0 }
refusal_paper (refusal.OrderOutside i) = record { number = 3; a = i; b = 0; c = 0 }
refusal_paper refusal.TooShort = record { number = 4; a = 0; b = 0; c = 0 }
refusal_paper (refusal.BeyondRoom e g) = record { number = 5; a = e.0; b = g.0; c = 0 }
refusal_paper (refusal.WordTooLong e g) = record { number = 6; a = e.0; b = g.0; c = 0 }
refusal_paper (refusal.SkipsAhead e g v) = record { number = 7; a = e.0; b = g.0; c = v }
refusal_paper (refusal.StepMissing e g) = record { number = 8; a = e.0; b = g.0; c = 0 }
refusal_paper (refusal.StepAstray e g) = record { number = 9; a = e.0; b = g.0; c = 0 }
refusal_paper (refusal.InverseDiffers e i j) = record { number = 10; a = e.0; b = i.0; c = j.0 }
refusal_paper (refusal.IdentityRowDiffers g) = record { number = 11; a = g.0; b = 0; c = 0 }
refusal_paper refusal.NoGroup = record { number = 12; a = 0; b = 0; c = 0 }
refusal_paper (refusal.RelationFails e g h) = record { number = 13; a = e.0; b = g.0; c = h.0 }
refusal_paper (refusal.ArgumentOutside k) = record { number = 14; a = k; b = 0; c = 0 }
refusal_paper refusal.TooLarge = record { number = 15; a = 0; b = 0; c = 0 }
refusal_paper refusal.ImageMalformed = record { number = 16; a = 0; b = 0; c = 0 }
refusal_paper refusal.Unreadable = record { number = 17; a = 0; b = 0; c = 0 }
refusal_paper refusal.NameLength = record { number = 18; a = 0; b = 0; c = 0 }

-- Its three places alone.
abbrev pub places_of : Refusal → List ℕ
places_of r = (refusal_paper r).a ∷ (refusal_paper r).b ∷ (refusal_paper r).c ∷ []

-- The refusal with this number, from 1 to 18, and these places: `refusal_paper` read backwards. Of the places only those that belong to the number
-- are looked at.
abbrev pub numbered : ℕ → ℕ → ℕ → ℕ → Refusal
numbered k a b c =
    get_or (
    refusal.Unreadable ∷
    refusal.TooManyGenerators a ∷
    refusal.OrdersMiscounted ∷
    refusal.OrderOutside a ∷
    refusal.TooShort ∷
    refusal.BeyondRoom (record { 0 = a }) (record { 0 = b }) ∷
    refusal.WordTooLong (record { 0 = a }) (record { 0 = b }) ∷
    refusal.SkipsAhead (record { 0 = a }) (record { 0 = b }) c ∷
    refusal.StepMissing (record { 0 = a }) (record { 0 = b }) ∷
    refusal.StepAstray (record { 0 = a }) (record { 0 = b }) ∷
    refusal.InverseDiffers (record { 0 = a }) (record { 0 = b }) (record { 0 = c }) ∷
    refusal.IdentityRowDiffers (record { 0 = a }) ∷
    refusal.NoGroup ∷
    refusal.RelationFails (record { 0 = a }) (record { 0 = b }) (record { 0 = c }) ∷
    refusal.ArgumentOutside a ∷
    refusal.TooLarge ∷
    refusal.ImageMalformed ∷
    refusal.Unreadable ∷
    refusal.NameLength ∷
    []) k refusal.Unreadable
