-- Laws of the machine's runs.
pub mod Agree
pub mod Close
pub mod Rewrites
pub mod Actions
pub mod Links
pub mod FairLaws
pub mod FairTest
pub mod Different
pub mod Examples
pub mod Pinned
pub mod Accessed
pub mod Words
