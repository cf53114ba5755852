pub mod BadNumbers
