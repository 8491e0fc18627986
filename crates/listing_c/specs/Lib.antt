-- What the contract of the listing cites.
pub mod Listings
