pub mod MatrixMeets
pub mod MatrixTexts
pub mod RightResiduals
pub mod RowReach
