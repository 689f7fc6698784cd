pub mod AsBox
pub mod WrittenWakers
