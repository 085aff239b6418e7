pub mod ProofForm
pub mod ProofFormPoints
pub mod ProofFormSpelling
