-- Laws of the run, over the contracts of the memory alone.
pub mod Trying
pub mod Lending
pub mod Users
pub mod Opening
pub mod Tallies
pub mod Worklist
pub mod Rounds
pub mod Answering
