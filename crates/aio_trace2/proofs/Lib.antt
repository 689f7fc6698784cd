pub mod Spelled2
pub mod ReadLaws2
pub mod Written2
pub mod Migrated
