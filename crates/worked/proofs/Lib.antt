mod Block
mod Codes
mod Only
mod Worked
