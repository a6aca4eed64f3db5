pub mod Beat
pub mod Begun
pub mod Frames
pub mod Next
pub mod NextWith
pub mod Paused
pub mod Steps
pub mod Window
