-- What a file can be: its bytes from what it holds, and back.
pub mod Records
pub mod Inverse
pub mod Faults
pub mod Cap
pub mod Pair
pub mod FileOf
