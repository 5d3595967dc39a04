pub mod OneFactor
pub mod LetterLaws
