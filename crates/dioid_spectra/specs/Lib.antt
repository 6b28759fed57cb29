pub mod MadeMatrices
pub mod MatrixRows
pub mod Powers
pub mod Eigenvectors
pub mod MatrixNets
