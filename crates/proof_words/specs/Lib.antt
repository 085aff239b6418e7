pub mod ProofFormReaders
pub mod ProofFormTaking
pub mod ProofFormWords
