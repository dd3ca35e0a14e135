pub mod CallsInTurn
