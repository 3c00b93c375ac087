-- Usable somewhere by tags, what an event lets use, what stands after it, and the theorems of issue 30 for another's mapping.
pub mod Usable
pub mod Events
pub mod Moments
pub mod Leaks
pub mod Exact
pub mod Shown
pub mod Complete
pub mod Swept
pub mod Mended
