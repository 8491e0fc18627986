-- What contracts and theorems on outlines cite: closing, the tables of steps and pieces, the walk, the octagon of an outline and the
-- outline of an octagon, places in metres, what the answers mean, and when two outlines are one.
pub mod Closing
pub mod Tables
pub mod Walk
pub mod Tracing
pub mod Outlining
pub mod Places
pub mod Meaning
pub mod Sameness
