mod HandleSteps
mod Values
