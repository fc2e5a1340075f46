mod Handing
mod Parsing
mod Symbols
