-- What a reader of the contracts has to trust.
pub mod Reading
pub mod Fault
pub mod Line
pub mod Answers
pub mod Words
pub mod Transcript
pub mod Counting
pub mod SessionView
pub mod Ends
pub mod Laws
-- Lines that are computed.
pub mod Bytes
pub mod WorkedLines
-- What serves the proof.
pub mod CellReading
pub mod Shown
pub mod Pieces
pub mod Stopping
pub mod Streaming
