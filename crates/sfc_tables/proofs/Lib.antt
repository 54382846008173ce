pub mod Departing
pub mod Found
pub mod Groupings
pub mod Listings
pub mod Numberings
pub mod Parts
pub mod Places
pub mod RankOrders
pub mod Rankings
pub mod Sound
-- conditions that ask for a least time of a step
pub mod LeastTimes
