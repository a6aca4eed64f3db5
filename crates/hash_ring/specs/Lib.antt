pub mod Choice
pub mod Held
pub mod Names
pub mod Points
pub mod Refusals
pub mod RingFields
