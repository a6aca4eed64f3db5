pub mod Choosing
pub mod Growing
pub mod Holding
pub mod Members
pub mod Naming
pub mod Ordered
pub mod Pointing
