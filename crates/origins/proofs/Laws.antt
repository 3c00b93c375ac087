-- In-order parts and tests of lists, what stands of whatever carries a note, and origins.
pub mod Lists
pub mod Standing
pub mod Origins
