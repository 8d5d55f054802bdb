mod Cells
mod Forms
mod Printable
mod Short
mod Worked
