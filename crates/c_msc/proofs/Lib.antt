pub mod FeedCalls
pub mod MscCalls
pub mod MscUnique
