pub mod Decimal
pub mod Bytes
