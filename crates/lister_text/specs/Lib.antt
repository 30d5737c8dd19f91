-- What the lister's contracts cite.
pub mod Class
pub mod Text
pub mod Listing
