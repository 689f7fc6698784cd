-- Lines and their steps, and worked traces that are computed from the definitions.
mod Rows
mod PriorityRows
mod RunRows
mod TimerRows
pub mod Words
