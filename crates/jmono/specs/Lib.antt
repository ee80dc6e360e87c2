pub mod Monads
