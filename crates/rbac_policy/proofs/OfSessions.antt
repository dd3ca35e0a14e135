pub mod Sessions
pub mod Activating
pub mod Sweep
pub mod Ended
pub mod EndingLemmas
pub mod Lives
pub mod StayingEnded
