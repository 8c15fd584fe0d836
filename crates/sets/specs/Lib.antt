pub mod Sets
pub mod Steps
pub mod Refusals
pub mod Placing
pub mod Word
