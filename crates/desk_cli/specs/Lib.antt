pub mod Values
pub mod Asked
pub mod Grammar
pub mod Program
