pub mod ProofFormLemmas
