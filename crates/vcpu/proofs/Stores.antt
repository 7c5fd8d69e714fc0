-- A record of a module stored and read again: the laws of `model`, passed on.
-- Assumes nothing.
pub use Rattle.model.proofs.Stored.{with_vcpus, get_put, put_same, put_put, put_length, size_le}
