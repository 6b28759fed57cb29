pub mod MostTokens
