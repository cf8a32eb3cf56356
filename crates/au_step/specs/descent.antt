pub mod SoundSteps
