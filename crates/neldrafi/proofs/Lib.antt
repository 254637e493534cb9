mod Duplicates
mod Names
