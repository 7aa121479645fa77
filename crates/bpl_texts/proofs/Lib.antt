pub mod Names
pub mod TypeNames
pub mod Branches
pub mod RisingNumbers
pub mod RisingLeads
