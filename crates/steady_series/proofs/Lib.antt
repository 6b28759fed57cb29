pub mod CutLefts
pub mod SteadyLefts
