-- Writes one after the other.
pub use Rattle.sfc_base.proofs.Written.{then_writes, front_first}
