mod Further
mod Pieces
