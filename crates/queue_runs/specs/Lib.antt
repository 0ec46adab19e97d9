-- The calls on a queue, one step, and lists of calls, made of the definitions that the contracts cite; what they mean, and demand 3. Assumes nothing.
pub mod Calls
pub mod Run
pub mod Meaning
pub mod Creation
pub mod Refusals
pub mod Demand3
pub mod Numbers
pub mod Broken
pub mod Account
pub mod Waiting
pub mod FairTurns
pub mod Closing
pub mod Fragments
pub mod Restart
pub mod MidMessage
pub mod History
pub mod Chains
