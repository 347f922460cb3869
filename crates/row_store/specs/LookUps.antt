-- How many steps a look-up takes.
pub use Rattle.ordered_pages.specs.LookUps.{WithinDigits}
