-- Theorems on the text of a listing.
pub mod Decimals
pub mod Signs
pub mod Writing
pub mod Pages
pub mod Numbers
pub mod Plots
pub mod Lengths
pub mod Listings
pub mod Divisions
pub mod RowIntegers
pub mod LinesRead
pub mod ReadBacks
pub mod Examples
pub mod EdgeListings
pub mod OldListings
pub mod CountyListings
