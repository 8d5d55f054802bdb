mod Numerals
mod Matches
mod Told
mod Lines
mod PlainWord
mod OneOption
