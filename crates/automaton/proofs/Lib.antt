pub mod Finding
pub mod Files
pub mod Values
pub mod Handing
pub mod Refusing
pub mod Props
