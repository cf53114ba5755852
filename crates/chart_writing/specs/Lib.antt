pub mod Bytes
pub mod BytesLaws
pub mod Tables
pub mod Every
pub mod Trailer
pub mod Encode
pub mod Encoded
pub mod ScratchTrailer
