pub mod ProofFormCut
pub mod ProofFormItems
pub mod ProofFormRead
pub mod ProofFormSpelled
