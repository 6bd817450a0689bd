mod Arguments
mod Hex
mod Keywords
mod Lines
mod Options
mod Scripts
