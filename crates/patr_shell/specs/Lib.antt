pub mod Answering
pub mod Loaded
pub mod Outcome
pub mod Sent
pub mod Spoken
pub mod Words
