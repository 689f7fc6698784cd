mod LeftOver
mod Gathered
mod Reading
