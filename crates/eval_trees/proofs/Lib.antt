mod Weight
mod Turns
mod CallLemmas
mod MomentLemmas
mod Parts
mod Shown
mod Rests
