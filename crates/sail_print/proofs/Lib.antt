mod Counts
mod Depths
