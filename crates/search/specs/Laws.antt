-- The laws behind what contracts cite.
pub mod Steps
pub mod Runs
pub mod StepCounts
pub mod Best
pub mod Reaching
pub mod Admissible
pub mod SoundState
pub mod Canonical
pub mod Complete
pub mod Potential
pub mod Progress
pub mod Rising
pub mod SameFit
pub mod Running
pub mod Carried
