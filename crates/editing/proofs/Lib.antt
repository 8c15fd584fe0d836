pub mod Sets
pub mod Containing
pub mod Tables
pub mod Outside
