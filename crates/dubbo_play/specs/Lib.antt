pub mod FirstForm
pub mod FirstScript
pub mod FirstFrames
pub mod FirstRun
pub mod FirstTranscript
pub mod Fields
pub mod Reading
