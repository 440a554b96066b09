-- Laws of the definitions in specs/.
pub mod CountLaws
pub mod CountSumLaws
