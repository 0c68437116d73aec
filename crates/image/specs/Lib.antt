pub mod Image
pub mod Read
pub mod Refusals
pub mod Verdict
pub mod Written
pub mod Walked
pub mod RankByteFormLemmas
