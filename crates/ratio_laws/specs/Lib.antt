pub mod OneRatio
