mod Back
mod Below
