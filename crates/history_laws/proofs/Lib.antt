mod Parts
mod Accepted
mod InTurn
mod OneEnd
