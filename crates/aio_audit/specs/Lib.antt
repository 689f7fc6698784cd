pub mod Auditor
