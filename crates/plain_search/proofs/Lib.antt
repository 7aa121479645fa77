mod Sided
mod Unoriented
