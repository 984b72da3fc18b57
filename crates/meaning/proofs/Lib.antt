pub mod Fillings
pub mod Meaning
pub mod Arden
pub mod Opens
pub mod Slips
