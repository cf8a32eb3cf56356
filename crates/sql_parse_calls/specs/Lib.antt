pub mod descent
