-- Request 13/13 on the code: the priorities that the planner's call answers, and no smaller ones, put the first fragments in the list's order.
pub mod Calls
pub mod Shows
pub mod Queues
pub mod Loads
pub mod Served
pub mod Plans
pub mod Least
