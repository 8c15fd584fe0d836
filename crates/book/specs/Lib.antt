pub mod Refusals
pub mod Measure
pub mod Answers
pub mod Books
pub mod Messages
