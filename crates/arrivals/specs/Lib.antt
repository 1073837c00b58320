pub mod PlainSteps
