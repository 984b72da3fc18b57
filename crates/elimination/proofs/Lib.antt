-- room in the lent words, and the makers of nodes
pub mod Room
pub mod Makers
-- the start
pub mod Starting
-- one state
pub mod Joining
pub mod Replacing
pub mod OneState
-- the states, the join, and the public promises
pub mod States
pub mod Conversion
pub mod Promises
-- what follows for those who call
pub mod OnWords
pub mod Outcomes
