mod Listed
mod Marked
mod Unlisted
