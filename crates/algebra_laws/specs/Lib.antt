pub mod WalkWeights
