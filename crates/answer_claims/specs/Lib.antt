pub mod OfMarks
