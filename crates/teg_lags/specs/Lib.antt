pub mod Lags
