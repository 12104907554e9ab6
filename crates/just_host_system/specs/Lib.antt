-- Definitions of the host of this process.
pub mod Commands
pub mod ScriptFiles
pub mod Real
