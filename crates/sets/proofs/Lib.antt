pub mod Bits
pub mod Membership
