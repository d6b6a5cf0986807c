pub mod Machine
pub mod Delta
pub mod CrashSafe
pub mod Legal
