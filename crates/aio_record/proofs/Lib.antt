mod Leaving
mod Making
mod Working
mod Counting
mod Ending
