pub mod Damage
pub mod Steps
