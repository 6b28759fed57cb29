pub mod Rests
pub mod NetsLeft
pub mod StateLaws
