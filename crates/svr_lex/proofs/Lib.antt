pub mod Marks
pub mod Firsts
pub mod Comments
pub mod Lexemes
pub mod Cuts
pub mod Laws
pub mod Spelled
