mod Added
mod Members
mod Widths
mod Forms
mod Declared
