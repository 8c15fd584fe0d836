pub mod Edits
pub mod Tables
pub mod Theorems
