mod Crosses
mod Eras
mod Fitting
mod Handing
mod Keeping
mod Lives
mod Tending
mod Working
