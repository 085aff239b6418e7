mod View
mod Present
mod Digits
mod Written
mod Reached
mod Zeros
mod Judging
