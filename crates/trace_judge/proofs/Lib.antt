mod Agreeing
mod Held
mod ReadBack
mod Traces
