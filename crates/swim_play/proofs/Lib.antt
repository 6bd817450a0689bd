mod Lives
mod Openings
mod Sessions
