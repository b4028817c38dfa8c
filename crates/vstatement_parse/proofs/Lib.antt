pub mod TargetTurns
pub mod StatementTurns
pub mod CaseTurns
pub mod PrintTurns
pub mod LevelTurns
pub mod KeptLists
pub mod LeafWords
