-- The definitions of this crate beside those of crate abelian: by how much one vector's counts exceed another's, and the windows among the first.
pub mod Excess
pub mod Sliding
