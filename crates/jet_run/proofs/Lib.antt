pub mod Bags
pub mod Ended
pub mod Owners
pub mod VertexFlows
pub mod Gives
pub mod JoinSoFar
pub mod SoFar
