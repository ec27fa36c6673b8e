pub mod FicCalls
pub mod FicUnique
