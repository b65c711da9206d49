-- The witness: the greedy choice from the kernel, and the singles.
pub mod WitnessChoice
pub mod WitnessWalk
pub mod WitnessCells
pub mod WitnessGreedy
pub mod WitnessSingles
pub mod WitnessRows
pub mod CountChange
pub mod Counts
pub mod FirstCounts
pub mod Laws
