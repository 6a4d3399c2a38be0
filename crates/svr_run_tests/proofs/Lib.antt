mod Read
mod Runs
