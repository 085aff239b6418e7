pub mod FunctionAt
