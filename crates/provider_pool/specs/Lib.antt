pub mod Answers
pub mod Asked
pub mod Replies
pub mod Serving
pub mod Turns
pub mod Writes
