pub mod SameArrays
