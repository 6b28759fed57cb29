pub mod BestParts
pub use Rattle.teg_net.specs as teg_net
pub use Rattle.teg_check.specs as teg_check
pub use Rattle.teg_certificates.specs as teg_certificates
pub use Rattle.teg_parts.specs as teg_parts
pub use Rattle.teg_howard.specs as teg_howard
