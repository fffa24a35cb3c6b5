-- What a reader must believe above the code: logs of calls, the half turn, the three demands, the change-over, and the starred readings.
pub mod Log
pub mod Like
pub mod Turn
pub mod Demands
pub mod ChangeOver
pub mod Readings
