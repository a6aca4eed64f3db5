pub mod Buffers
pub mod Going
pub mod Sending
