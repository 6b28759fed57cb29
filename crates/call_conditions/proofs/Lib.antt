pub mod EnoughTokens
pub mod NodeCounts
pub mod RankTests
pub mod RisingLists
