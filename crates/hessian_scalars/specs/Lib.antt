pub mod ScalarSpelling
pub mod Written
pub mod Read
pub mod Codes
pub mod Feeding
