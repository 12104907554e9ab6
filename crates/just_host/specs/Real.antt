-- What is known of the host of this process.
pub use Rattle.just_host_system.specs.Real.{record_of}
