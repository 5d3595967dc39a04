-- In an accepted factor elements are numbered as they first appear, and recorded so; therefore each recorded word is the first that leads to its element.
use Prim.Native.Nat.{ℕ}
use mathlib.Core.Path.{refl}
use mathlib.Core.List.{List}
use Rattle.egg.specs.declared.Factor.{Factor}
use Rattle.theory.proofs.FirstPlaces.{first_recorded}
use Rattle.theory.proofs.Shortest.{shortest, none_earlier}
use Rattle.factor_laws.specs.Accepted.{Accepted}
use Rattle.factor_laws.specs.FirstWords.{FirstWords}

pub accepted_words : {t : List ℕ} {f : Factor} → Accepted t f → FirstWords t f
accepted_words A =
    let F = A.ruled.appearance in
    let R = A.sound.recorded in
    record {
      word_is = λ {e} he. first_recorded A.ruled.rule.numbered F R e he;
      shortest = λ hu. shortest A.sound.table F R hu refl;
      none_earlier = λ hu. none_earlier A.sound.table F R hu refl;
    }
