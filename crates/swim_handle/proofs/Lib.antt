pub mod Crosses
mod Notes
mod Numbers
mod Passing
