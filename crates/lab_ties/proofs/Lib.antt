mod Operands
mod Signals
mod Tying
