mod Left
mod Pc
mod Runs
mod Steps
mod Widths
