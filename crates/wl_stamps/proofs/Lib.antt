mod LiveReads
mod Noting
mod Versions
