pub mod TokenShares
pub mod BareNets
pub mod KeptCuts
pub mod OnePlace
