mod Hundreds
mod Sampled
