pub mod ContentBytes
