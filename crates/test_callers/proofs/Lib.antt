mod Words
mod Pairs
