pub mod FaultText
