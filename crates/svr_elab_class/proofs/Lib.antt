mod Tables
mod Arrays
mod Members
mod Declared
mod Forms
