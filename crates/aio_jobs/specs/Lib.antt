pub mod Dealing
pub mod Lending
