pub mod Commuting
pub mod DioidOrder
pub mod Feedback
pub mod ResidualIdentities
pub mod RightHand
pub mod SquareMatrices
pub mod StarIdentities
pub mod StarResiduals
