-- What the contracts and theorems on a listing speak of: numbers as text, lines, pages, the whole listing, and a listing read back.
pub mod Decimal
pub mod Lines
pub mod Pages
pub mod Listing
pub mod ReadBack
