pub mod RoundCounts
