pub mod Formed
pub mod Json
pub mod Loops
pub mod Names
pub mod Sound
pub mod SoundJobs
pub mod JobLaws
