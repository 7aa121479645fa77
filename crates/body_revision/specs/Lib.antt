pub mod Revised
pub mod EarlierDecls
pub mod Procedures
pub mod Names
pub mod Revision
pub mod Laws
pub mod ReadHeads
pub mod ReadingLaws
