pub mod Rows
pub mod Endings
pub mod Replies
pub mod Growing
pub mod Direct
pub mod Adding
pub mod Table
