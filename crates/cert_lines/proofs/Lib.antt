mod Becoming
mod Blocking
mod Clausing
mod Heads
mod Holding
mod Moving
mod NumberLines
mod Sectioning
