-- Request 13/13 of document 02, "Priorities for a wanted order": which priorities work, what the planner's call answers, and what it means for runs of
-- the queue. Assumes nothing.
pub mod Works
pub mod Least
pub mod Lists
pub mod PlannedPriorities
pub mod Plan
pub mod Request
pub mod Jobs
pub mod Turns
pub mod Runs
pub mod Examples
