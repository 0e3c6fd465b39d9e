-- Laws about what the methods hand back.
pub mod Around
