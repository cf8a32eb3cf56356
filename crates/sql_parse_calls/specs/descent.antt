pub mod ReadCalls
