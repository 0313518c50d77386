pub mod Normalised
pub mod Labels
pub mod Cuts
pub mod Pieces
