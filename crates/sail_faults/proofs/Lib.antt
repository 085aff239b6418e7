mod Places
mod First
mod Texts
