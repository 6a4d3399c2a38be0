pub mod Elaborated
