pub mod Weights
pub mod CircuitsInParts
pub mod Checks
pub mod BestRatios
pub mod CertifiedNets
pub mod RisingRanks
pub mod Sizes
pub mod SlackWitnesses
pub use Rattle.teg_net.specs as teg_net
