pub mod Mentioned
