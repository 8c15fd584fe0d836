mod Same
pub mod Walks
pub mod Combining
pub mod Drafts
pub mod Drafting
pub mod Adding
pub mod Singles
pub mod Forms
