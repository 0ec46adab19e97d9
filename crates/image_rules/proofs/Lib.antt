-- What the proofs of several functions use, and the link to the model's reading and restoring of images. Assumes nothing.
pub mod Early
pub mod Loops
pub mod Places
pub mod StreamFacts
pub mod Kept
pub mod StreamLink
pub mod MessageLink
pub mod EarlyLink
pub mod ReadLink
pub mod RestoreLink
pub mod CodeLink
pub mod OneByOne
pub mod AcceptedFacts
