mod Cells
mod GoCells
mod Meant
mod Steps
