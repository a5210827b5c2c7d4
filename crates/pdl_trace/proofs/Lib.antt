pub mod BytePieces
