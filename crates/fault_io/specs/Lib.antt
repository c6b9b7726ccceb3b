-- The words for what a source gives, what a sink takes, and how often each failed.
pub mod Faults
pub mod Bytes
pub mod Finish
pub mod Sources
pub mod Sinks
pub mod BytesIn
pub mod BytesOut
