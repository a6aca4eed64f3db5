pub mod MayCall
pub mod Replied
pub mod ReadLemmas
pub mod SendLemmas
pub mod ShortTexts
pub mod SoFar
pub mod SpelledBounds
pub mod Turned
