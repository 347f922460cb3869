pub mod Within
pub mod Lexemes
pub mod ReadAnswers
pub mod Literals
pub mod Operators
pub mod Expressions
pub mod Laws
pub mod inner
