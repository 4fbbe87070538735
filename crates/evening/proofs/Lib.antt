pub mod Tens
pub mod Ended
