-- Taking states out, on expressions: the list accepts as before, whatever states are taken out and in whatever order.
pub mod OnExpressions
pub mod Levels
pub mod OneState
pub mod Making
pub mod Step
pub mod Start
pub mod Whole
